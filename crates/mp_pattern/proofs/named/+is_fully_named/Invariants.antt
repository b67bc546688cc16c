use Rattle.std.proofs.Common.{◌≡◌, map, drop}
use Rattle.mp_pattern.specs.PatternTree.{patterns}
use Rattle.mp_pattern.specs.View.{pattern_tree}
use Rattle.mp_pattern.specs.Instance.{is_fully_named, all_fully_named}
use Rattle.mp_pattern.proofs.named.+is_fully_named.Given as goal

abbrev pub invariant-loop-arg : goal.invariant-loop-arg
invariant-loop-arg l = all_fully_named (patterns (map pattern_tree (drop l.arg-index l.arg-items)))
    ≡ is_fully_named (pattern_tree l.pattern)
