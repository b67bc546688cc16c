-- The all-list of rules, rule by rule: for each what it admits, in the order of substitutions.
use Rattle.std.specs.Prelude.{ℕ, suc, List, [], ◌∷◌, ◌++◌, map}
use Rattle.mp_term.specs.Tree.{Tree}
use Rattle.mp_term.specs.Signature.{Sig}
use Rattle.mp_term.specs.Sorting.{sorted}
use Rattle.mp_pattern.specs.Value.{Subst}
use Rattle.mp_pattern.specs.Admission.{Rule}
use Rattle.mp_pattern.specs.Lists.{Pair, subst_cmp}
use Rattle.mp_theory.specs.OneList.{one_list}

module _ (sig : Sig) (t : Tree) where
  -- what a rule admits, in order
  abbrev pub sorted_substs : Rule → List Subst
  sorted_substs r = sorted subst_cmp (one_list sig r t)

  -- the pairs of rules that are numbered from i
  abbrev pub pairs_from : ℕ → List Rule → List Pair
  pairs_from i [] = []
  pairs_from i (r ∷ rs) = map (λ s. (i, s)) (sorted_substs r) ++ pairs_from (suc i) rs

-- the pairs of rules, which are numbered from 0
abbrev pub all_pairs : Sig → List Rule → Tree → List Pair
all_pairs sig rules t = pairs_from sig t 0 rules
