use Rattle.std.proofs.Common.{◌≡◌, ◌≤◌, drop, length, map, take}
use Rattle.mp_pattern.specs.Firsts.{firsts_after}
use Rattle.mp_pattern.specs.PatternTree.{patterns}
use Rattle.mp_pattern.specs.Subpatterns.{subpatterns}
use Rattle.mp_pattern.specs.UsedNames.{all_used_names, used_names}
use Rattle.mp_pattern.specs.Value.{same_name}
use Rattle.mp_pattern.specs.View.{pattern_tree}
use Rattle.mp_many.proofs.names.+read_names.Given as goal

abbrev pub decreases-read_names : goal.decreases-read_names
decreases-read_names l = length (subpatterns (pattern_tree l.pattern.now))

abbrev pub invariant-loop-arg : goal.invariant-loop-arg
invariant-loop-arg l = record {
  within : l.read ≤ length l.names;
  read : firsts_after same_name (take l.read l.names)
      (all_used_names (patterns (map pattern_tree (drop l.arg-index l.arg-items))))
      ≡ firsts_after same_name (take l.before l.names) (used_names (pattern_tree l.pattern));
}
