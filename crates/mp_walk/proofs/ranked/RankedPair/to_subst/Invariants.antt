use Rattle.std.proofs.Common.{◌≡◌, ◌++◌, drop, map}
use Rattle.mp_walk.specs.RankedView.{kept_binding, AreKept}
use Rattle.mp_walk.proofs.ranked.RankedPair.to_subst.Given as goal

abbrev pub invariant-loop-kept : goal.invariant-loop-kept
invariant-loop-kept l =
    let t = l.self-inside.table.now in
    record {
      bindings : l.bindings ++ map (kept_binding t) (drop l.kept-index l.kept-items) ≡ l.self.pair.1;
      held : AreKept t (drop l.kept-index l.kept-items);
    }
