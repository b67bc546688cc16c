use Rattle.std.proofs.Common.{◌≡◌, ◌+◌, ◌≤◌, drop}
use Rattle.std.specs.Prelude.{count_by}
use Rattle.std.specs.Ordering.{eq_by_cmp}
use Rattle.mp_subst.proofs.multiset.occurrences.Given as goal

abbrev pub invariant-loop-other : goal.invariant-loop-other
invariant-loop-other g l = record {
  at_most : l.count ≤ l.other-index;
  rest : l.count + count_by (eq_by_cmp g.T.Ord.cmp l.item) (drop l.other-index l.items)
      ≡ count_by (eq_by_cmp g.T.Ord.cmp l.item) l.items;
}
