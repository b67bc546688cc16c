use Rattle.std.proofs.Common.{◌≡◌, false, refl, ap, sym, ◌∙◌, subst}
use Rattle.std.specs.Prelude.{if◌then◌else◌}
use Rattle.std.specs.Ordering.{is_eq}
use Rattle.mp_term.specs.declared.term.Terms.{Terms}
use Rattle.mp_subst.specs.declared.merging.Choice.TheVariants.{Old, Neither}
use Rattle.mp_subst.specs.declared.value.Value.{Value}
use Rattle.mp_subst.specs.declared.value.Value.TheVariants.{One, Seq, Bag}
use Rattle.mp_subst.specs.View.{value_of}
use Rattle.mp_subst.specs.Choice.{chosen}
use Rattle.mp_subst.proofs.Equality.{is_mixed, chosen-equal}
use Rattle.mp_subst.proofs.merging.choose.Goals.{in_default-via-in-Seq+in_default, in_default-via-in-Bag+in_default}
use Rattle.mp_subst.proofs.merging.choose.Goals.{in_default-via-in_default}
use Rattle.mp_subst.proofs.merging.choose.Goals as goal

tuple_with : (ts : Terms) (v : Value) → ((us : Terms) → v ≡ Bag us → ⊥)
    → is_mixed (value_of (Seq ts)) (value_of v) ≡ false
tuple_with ts (One t) h = refl
tuple_with ts (Seq us) h = refl
tuple_with ts (Bag us) h = absurd (h us refl)

multiset_with : (ts : Terms) (v : Value) → ((us : Terms) → v ≡ Seq us → ⊥)
    → is_mixed (value_of (Bag ts)) (value_of v) ≡ false
multiset_with ts (One t) h = refl
multiset_with ts (Seq us) h = absurd (h us refl)
multiset_with ts (Bag us) h = refl

pub returns-in_default : goal.returns-in_default
returns-in_default c =
    let new = c.args.new.now in
    let v = value_of c.args.old.now in
    let w = value_of new in
    let of_old = λ (u : Value). is_mixed (value_of u) w ≡ false in
    let unmixed : is_mixed v w ≡ false =
    elim c.in_default.branch [
      | in_default-via-in-Seq+in_default b ↦ subst of_old (sym b.in_default.is-0)
          (tuple_with b.in_default.field-0-0 new b.in_default.not-Bag-1)
      | in_default-via-in-Bag+in_default b ↦ subst of_old (sym b.in_default.is-0)
          (multiset_with b.in_default.field-0-0 new b.in_default.not-Seq-1)
      | in_default-via-in_default b ↦ subst of_old (sym b.in_default.is-0) refl
    ] in
    let is = ap (λ o. chosen v w (if is_eq o then Old else Neither)) c.compare_value.ensures.order in
    ap (chosen v w) (c.old_if-in_default.ensures ∙ ap (λ b. if b then Old else Neither) c.is_eq.ensures) ∙ is
    ∙ chosen-equal v w unmixed
