-- The all-list of syntactic rules: rule by rule, since each admits one substitution at most.
use Rattle.std.specs.Prelude.{ℕ, suc, List, [], ◌∷◌, Option, Some, None}
use Rattle.std.specs.Prelude.{option_map, option_and_then, if◌then◌else◌}
use Rattle.std.specs.List.{cons_option}
use Rattle.mp_term.specs.Tree.{Tree}
use Rattle.mp_term.specs.Signature.{Sig}
use Rattle.mp_pattern.specs.PatternTree.{Pattern}
use Rattle.mp_pattern.specs.Value.{Subst}
use Rattle.mp_pattern.specs.Admission.{Rule, meets}
use Rattle.mp_pattern.specs.Lists.{Pair}
use Rattle.mp_theory.specs.Solve.{solve}
use Rattle.mp_theory.specs.Shape.{shape, of_kinds, takings}
use Rattle.mp_net.specs.Net.{marks, Open}

module _ (sig : Sig) (t : Tree) where
  -- the substitution that a rule of the shape admits, if any
  abbrev pub tested : Rule → Option Subst
  tested r = if of_kinds sig r.pattern t then option_and_then (λ s. if meets sig r.condition s then Some s else None)
      (solve sig [] (takings None r.pattern t)) else None

  -- the substitution that a rule admits, if there is one
  abbrev pub admitted : Rule → Option Subst
  admitted r = if shape r.pattern t then tested r else None

  -- the pairs of the rules, which are numbered from i
  abbrev pub pairs_from : ℕ → List Rule → List Pair
  pairs_from i [] = []
  pairs_from i (r ∷ rs) = cons_option (option_map (λ s. (i, s)) (admitted r)) (pairs_from (suc i) rs)

-- the rules at the start, numbered from i: each asks for its whole pattern
abbrev pub starts : ℕ → List Pattern → List Open
starts i [] = []
starts i (p ∷ ps) = record { rule = i; rest = marks p } ∷ starts (suc i) ps

-- the numbers of those that have the shape
abbrev pub shaped : Tree → ℕ → List Pattern → List ℕ
shaped t i [] = []
shaped t i (p ∷ ps) = if shape p t then i ∷ shaped t (suc i) ps else shaped t (suc i) ps
