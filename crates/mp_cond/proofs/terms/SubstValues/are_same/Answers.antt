use Rattle.std.proofs.Common.{◌≡◌, false, ◌||◌, map, refl, sym, ap, ◌∙◌}
use Rattle.mp_term.specs.View.{tree}
use Rattle.mp_pattern.specs.CondView.{operand}
use Rattle.mp_pattern.specs.Value.{same_terms}
use Rattle.mp_pattern.specs.Holds.{value_at, list_of, is_bag}
use Rattle.mp_subst.specs.View.{subst_of}
use Rattle.mp_cond.proofs.Same.{pointwise-same_terms}
use Rattle.mp_cond.proofs.terms.SubstValues.are_same.Goals as goal
use Rattle.mp_cond.proofs.terms.SubstValues.are_same.Goals.{then-is_bag, else-is_bag}

pub returns-else-is_bag-2 : goal.returns-else-is_bag-2
returns-else-is_bag-2 c =
    let s = subst_of c.args.self.now in
    let v = operand c.args.a.now in
    let w = operand c.args.b.now in
    let none : is_bag (value_at s v) || is_bag (value_at s w) ≡ false = elim c.if-is_bag.branch [
      | then-is_bag u ↦ cc
      | else-is_bag u ↦ (
          let first : is_bag (value_at s v) ≡ false = sym c.is_bag.ensures ∙ u.if-is_bag.false in
          let second : is_bag (value_at s w) ≡ false = sym u.is_bag-else-is_bag.ensures ∙ sym u.value-is
          ∙ c.if-is_bag-2.false in
          rw (first, second) refl)
    ] in
    let same = pointwise-same_terms tree c.list_of-terms.result.now c.list_of-others.result.now in
    rw none (c.eq.ensures ∙ same ∙ ap (λ ts. same_terms ts (map tree c.list_of-others.result.now))
    c.list_of-terms.ensures ∙ ap (same_terms (list_of s v)) c.list_of-others.ensures)
