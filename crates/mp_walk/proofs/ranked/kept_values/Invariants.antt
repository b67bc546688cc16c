use Rattle.std.proofs.Common.{◌≡◌, ◌++◌, drop, map}
use Rattle.mp_subst.specs.Trail.{bindings_from, subst_in}
use Rattle.mp_walk.specs.NamedItems.{called}
use Rattle.mp_walk.specs.RankedView.{kept_binding, AreKept}
use Rattle.mp_walk.proofs.ranked.kept_values.Given as goal

abbrev pub invariant-loop-var : goal.invariant-loop-var
invariant-loop-var l = record {
  values : map (kept_binding l.table) l.values.items
      ++ bindings_from l.table l.trail.stack l.var (called (drop l.var l.names))
      ≡ subst_in l.table (called l.names) l.trail;
  held : AreKept l.table l.values.items;
}
