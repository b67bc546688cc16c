-- What contracts see of the trail of a walk.
use Rattle.std.specs.Prelude.{ℕ, List, Option, Some, None, IsSome}
use Rattle.std.specs.List.{AllByRecursion}
use Rattle.std.specs.Option.{option_and_then}
use Rattle.mp_term.specs.Signature.{Sig}
use Rattle.mp_term.specs.Tree.{Tree}
use Rattle.mp_pattern.specs.Constants.{default_of}
use Rattle.mp_pattern.specs.NetTokens.{NetToken, wild_token, numbered}
use Rattle.mp_pattern.specs.PatternTree.{Wildcard, dot}
use Rattle.mp_pattern.specs.Value.{Subst}
use Rattle.mp_table.specs.Table.{Table, rank_of}
use Rattle.mp_theory.specs.Solve.{bind, given}

-- the substitution once a wildcard, whose variable has the number x, takes the terms under an operation, if it may
abbrev pub told_by : Sig → Option ℕ → Wildcard → Option ℕ → List Tree → Subst → Option Subst
told_by sig f w x ts s = elim x [
  | None ↦ Some s
  | Some v ↦ option_and_then (bind s (numbered v)) (given sig f w ts)
]

-- the shape of the wildcard of a token, and the number of its variable
abbrev pub shape_of : NetToken → Wildcard
shape_of (wild_token w x) = w
shape_of k = dot

abbrev pub number_of : NetToken → Option ℕ
number_of (wild_token w x) = x
number_of k = None

-- the table holds the default of a wildcard
abbrev pub HoldsDefault : Table → Wildcard → Type 0
HoldsDefault t w = AllByRecursion (λ d. IsSome (rank_of t d)) (default_of w)
