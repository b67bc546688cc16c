-- The loop that puts a value into a substitution.
use Rattle.std.proofs.Common.{ℕ, List, ◌++◌, Bool, true, false}
use Rattle.std.specs.Prelude.{Option, Some, option_map}
use Rattle.mp_pattern.specs.Value.{Value, Subst}
use Rattle.mp_theory.specs.Solve.{bind}

-- the rest of the substitution, with the value put in unless that is done
abbrev pub bound_rest : Bool → Subst → List ℕ → Value → Option Subst
bound_rest true s x w = Some s
bound_rest false s x w = bind s x w

-- behind those that were gone over
abbrev pub behind : Subst → Option Subst → Option Subst
behind s o = option_map (λ r. s ++ r) o
