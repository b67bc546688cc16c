-- Tests of equality of terms, and of lists of terms.
use Rattle.std.proofs.Common.{◌≡◌, true, false, List, ap}
use Rattle.std.specs.Ordering.{is_eq}
use Rattle.std.specs.FinMap.{slice_cmp-IsAntisymmetric}
use Rattle.std.proofs.lemmas.Cmp.{tied_itself}
use Rattle.std.proofs.lemmas.Map.Views.{tells_apart}
use Rattle.std.proofs.lemmas.Bool.{false_from_ne_true}
use Rattle.mp_term.specs.Tree.{Tree}
use Rattle.mp_term.specs.OrderLaws.{tree_cmp_total, tree_same}
use Rattle.mp_pattern.specs.Value.{same_terms}
use Rattle.mp_pattern.specs.Holds.{same_term}

pub same_term-itself : (t : Tree) → same_term t t ≡ true
same_term-itself t = ap is_eq (tied_itself tree_cmp_total t)

pub equal-from_same_term : (t u : Tree) → same_term t u ≡ true → t ≡ u
equal-from_same_term = tells_apart tree_same

pub same_term-other : (t u : Tree) → (t ≡ u → ⊥) → same_term t u ≡ false
same_term-other t u h = false_from_ne_true (same_term t u) (λ e. h (equal-from_same_term t u e))

pub same_terms-other : (ts us : List Tree) → (ts ≡ us → ⊥) → same_terms ts us ≡ false
same_terms-other ts us h =
    false_from_ne_true (same_terms ts us) (λ e. h (tells_apart (slice_cmp-IsAntisymmetric tree_same) ts us e))
