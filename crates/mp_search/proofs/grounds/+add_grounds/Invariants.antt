use Rattle.std.proofs.Common.{◌≡◌, ◌++◌, length, drop, map}
use Rattle.mp_pattern.specs.PatternTree.{patterns}
use Rattle.mp_pattern.specs.View.{pattern_tree}
use Rattle.mp_pattern.specs.Subpatterns.{subpatterns, all_subpatterns}
use Rattle.mp_search.specs.Grounds.{ground_in}
use Rattle.mp_search.proofs.grounds.+add_grounds.Given as goal

abbrev pub decreases-add_grounds : goal.decreases-add_grounds
decreases-add_grounds l = length (subpatterns (pattern_tree l.pattern.now))

abbrev pub invariant-loop-arg : goal.invariant-loop-arg
invariant-loop-arg l = record {
  added : l.list.items.items
      ++ map (ground_in l.table) (all_subpatterns (patterns (map pattern_tree (drop l.arg-index l.arg-items))))
      ≡ l.fn.list.items.items ++ map (ground_in l.table) (subpatterns (pattern_tree l.pattern));
  room : l.list.room ≡ l.fn.list.room;
}
