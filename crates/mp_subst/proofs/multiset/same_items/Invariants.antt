use Rattle.std.proofs.Common.{drop}
use Rattle.std.specs.List.{AllByRecursion}
use Rattle.mp_subst.proofs.Multisets.{Alike}
use Rattle.mp_subst.proofs.multiset.same_items.Given as goal

abbrev pub invariant-loop-item : goal.invariant-loop-item
invariant-loop-item g l = AllByRecursion (Alike g.T.Ord.cmp l.items l.others) (drop l.item-index l.items)
    → AllByRecursion (Alike g.T.Ord.cmp l.items l.others) l.items
