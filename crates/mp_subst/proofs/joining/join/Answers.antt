use Rattle.std.proofs.Common.{◌≡◌, false, ap, sym, ◌∙◌, subst}
use Rattle.std.specs.Prelude.{if◌then◌else◌}
use Rattle.mp_pattern.specs.PlanView.{form}
use Rattle.mp_pattern.specs.Value.{Form}
use Rattle.mp_subst.specs.declared.merging.Choice.TheVariants.{Old, New, Neither}
use Rattle.mp_subst.specs.Bound.{bound_of, value_in, value_from}
use Rattle.mp_subst.proofs.Equality.{is_mixed}
use Rattle.mp_subst.proofs.JoiningLaws.{join-seq_bag, join-bag_seq, join-equal, tuple_with, multiset_with, one_with}
use Rattle.mp_subst.proofs.joining.join.Goals.{in_default-via-in-Seq+in_default, in_default-via-in-Bag+in_default}
use Rattle.mp_subst.proofs.joining.join.Goals.{in_default-via-in_default}
use Rattle.mp_subst.proofs.joining.join.Goals as goal

pub returns-in-Seq-Bag : goal.returns-in-Seq-Bag
returns-in-Seq-Bag c t h p q =
    join-seq_bag t h (bound_of c.args.old.now) (bound_of c.args.new.now) p q c.old_if.result
    (c.old_if.ensures ∙ ap (λ b. if b then Old else Neither) c.same_items.ensures) (ap form c.in-Seq-Bag.is-0)
    (ap form c.in-Seq-Bag.is-1)

pub returns-in-Bag-Seq : goal.returns-in-Bag-Seq
returns-in-Bag-Seq c t h p q =
    join-bag_seq t h (bound_of c.args.old.now) (bound_of c.args.new.now) p q c.new_if.result
    (c.new_if.ensures ∙ ap (λ b. if b then New else Neither) c.same_items-in-Bag-Seq.ensures)
    (ap form c.in-Bag-Seq.is-0) (ap form c.in-Bag-Seq.is-1)

pub returns-in_default : goal.returns-in_default
returns-in_default c t h p q =
    let a = bound_of c.args.old.now in
    let b = bound_of c.args.new.now in
    let g = c.args.new.now.form in
    let of_form = λ (f : Form). is_mixed (value_from t f a.wrap a.ranks) (value_in t b) ≡ false in
    let unmixed : is_mixed (value_in t a) (value_in t b) ≡ false =
    elim c.in_default.branch [
      | in_default-via-in-Seq+in_default w ↦ subst of_form (sym (ap form w.in_default.is-0))
          (tuple_with t a.wrap b.wrap a.ranks b.ranks g w.in_default.not-Bag-1)
      | in_default-via-in-Bag+in_default w ↦ subst of_form (sym (ap form w.in_default.is-0))
          (multiset_with t a.wrap b.wrap a.ranks b.ranks g w.in_default.not-Seq-1)
      | in_default-via-in_default w ↦ subst of_form (sym (ap form w.in_default.is-0))
          (one_with t a.wrap b.wrap a.ranks b.ranks (value_in t b))
    ] in
    join-equal t h a b p q c.is_same.result c.old_if-in_default.result c.old_if-in_default.ensures c.is_same.ensures
    unmixed
