-- A condition holds of two substitutions alike that give its operands the same values.
use Rattle.std.proofs.Common.{◌≡◌, Bool, ◌&&◌, ◌||◌, not, length, refl, ap}
use Rattle.std.specs.Prelude.{Option, sum_by, if◌then◌else◌}
use Rattle.std.specs.List.{AllByRecursion, list_all}
use Rattle.mp_term.specs.Order.{tree_cmp}
use Rattle.mp_term.specs.Size.{node_count}
use Rattle.mp_term.specs.Sorting.{sorted}
use Rattle.mp_term.specs.Signature.{Sig, in_kind}
use Rattle.mp_term.specs.NormalTest.{has_head}
use Rattle.mp_term.proofs.ListLaws.{all-split}
use Rattle.mp_pattern.specs.CondTree.{Operand, Amount, fixed, count, size, Cond, amounts, same, less, free}
use Rattle.mp_pattern.specs.CondTree.{of_kind, headed, negation, all_of, any_of, Conds, no_conds, more_conds}
use Rattle.mp_pattern.specs.Operands.{amount_operands, operands, all_operands}
use Rattle.mp_pattern.specs.Value.{Value, Subst, same_terms}
use Rattle.mp_pattern.specs.Holds.{value_at, listed, is_bag, comes_before, occurs, amount_of, compares}
use Rattle.mp_pattern.specs.Holds.{holds, all_hold, some_holds}

module _ (r s : Subst) where
  -- the operand has the same value
  abbrev pub Agrees : Operand → Type 0
  Agrees a = value_at r a ≡ value_at s a

  amount_of-agree : (m : Amount) → AllByRecursion Agrees (amount_operands m) → amount_of r m ≡ amount_of s m
  amount_of-agree (fixed n) h = refl
  amount_of-agree (count a) h = ap (λ v. length (listed v)) h.0
  amount_of-agree (size a) h = ap (λ v. sum_by node_count (listed v)) h.0

  -- whether two values are the same
  abbrev are_same : Option Value → Option Value → Bool
  are_same v w = if is_bag v || is_bag w then same_terms (sorted tree_cmp (listed v)) (sorted tree_cmp (listed w))
      else same_terms (listed v) (listed w)

  module _ (sig : Sig) where
    mutual
      pub holds-agree : (c : Cond) → AllByRecursion Agrees (operands c) → holds sig r c ≡ holds sig s c
      holds-agree (amounts m by n) h =
          let parts = all-split Agrees (amount_operands m) (amount_operands n) h in
          (λ i. compares by (amount_of-agree m parts.0 i) (amount_of-agree n parts.1 i))
      holds-agree (same a b) h = (λ i. are_same (h.0 i) (h.1.0 i))
      holds-agree (less a b) h = (λ i. comes_before (h.0 i) (h.1.0 i))
      holds-agree (free a b) h =
          (λ i. list_all (λ t. list_all (λ u. not (occurs t u)) (listed (h.1.0 i))) (listed (h.0 i)))
      holds-agree (of_kind a k) h = ap (λ v. list_all (in_kind sig k) (listed v)) h.0
      holds-agree (headed a f) h = ap (λ v. list_all (has_head f) (listed v)) h.0
      holds-agree (negation c) h = ap not (holds-agree c h)
      holds-agree (all_of cs) h = all_hold-agree cs h
      holds-agree (any_of cs) h = some_holds-agree cs h

      all_hold-agree : (cs : Conds) → AllByRecursion Agrees (all_operands cs) → all_hold sig r cs ≡ all_hold sig s cs
      all_hold-agree no_conds h = refl
      all_hold-agree (more_conds c cs) h =
          let parts = all-split Agrees (operands c) (all_operands cs) h in
          (λ i. holds-agree c parts.0 i && all_hold-agree cs parts.1 i)

      some_holds-agree : (cs : Conds) → AllByRecursion Agrees (all_operands cs)
          → some_holds sig r cs ≡ some_holds sig s cs
      some_holds-agree no_conds h = refl
      some_holds-agree (more_conds c cs) h =
          let parts = all-split Agrees (operands c) (all_operands cs) h in
          (λ i. holds-agree c parts.0 i || some_holds-agree cs parts.1 i)
