use Rattle.std.proofs.Common.{◌≡◌, [], drop, arith}
use Rattle.std.proofs.Math.ListN.{drop_of_length-le}
use Rattle.mp_build.proofs.ConditionTrees.{condition_tree-slice}
use Rattle.mp_build.proofs.condition_size.+atom_count.Goals as goal

pub atom_count-returns : goal.atom_count-returns
atom_count-returns t c =
    let items = c.deref-alternative-items.result.now in
    let none : drop c.loop-alternative.alternative-index items ≡ [] = drop_of_length-le items (omega arith) in
    let rest = rw none at c.loop-alternative.invariant.rest in
    rw (condition_tree-slice c.args.condition.now items c.deref-alternative-items.ensures.value)
    (omega (arith, rest, c.loop-alternative.invariant.fits))
