use Rattle.std.proofs.Common.{◌≡◌}
use Rattle.mp_term.specs.View.{tree}
use Rattle.mp_term.specs.Order.{tree_cmp, shortlex}
use Rattle.mp_pattern.specs.Value.{one, seq, bag}
use Rattle.mp_subst.proofs.Equality.{equal-value_cmp}
use Rattle.mp_subst.proofs.order.compare_value.Goals as goal

pub returns-in-One-One-clause-equal : goal.returns-in-One-One-clause-equal
returns-in-One-One-clause-equal c =
    rw (c.in-One-One.is-0, c.in-One-One.is-1)
    (equal-value_cmp (one (tree c.in-One-One.term))
    (one (tree c.in-One-One.other)) c.compare.result c.compare.ensures)

pub returns-in-Seq-Seq-clause-equal : goal.returns-in-Seq-Seq-clause-equal
returns-in-Seq-Seq-clause-equal c =
    let order : c.compare_all.result ≡ shortlex tree_cmp c.in-Seq-Seq.terms c.in-Seq-Seq.others = cc in
    rw (c.in-Seq-Seq.is-0, c.in-Seq-Seq.is-1)
    (equal-value_cmp (seq c.in-Seq-Seq.terms) (seq c.in-Seq-Seq.others) c.compare_all.result order)

pub returns-in-Bag-Bag-clause-equal : goal.returns-in-Bag-Bag-clause-equal
returns-in-Bag-Bag-clause-equal c =
    let order : c.compare_all-in-Bag-Bag.result ≡ shortlex tree_cmp c.in-Bag-Bag.terms c.in-Bag-Bag.others = cc in
    rw (c.in-Bag-Bag.is-0, c.in-Bag-Bag.is-1)
    (equal-value_cmp (bag c.in-Bag-Bag.terms) (bag c.in-Bag-Bag.others) c.compare_all-in-Bag-Bag.result order)
