use Rattle.std.proofs.Common.{◌≡◌, ◌++◌, drop, map}
use Rattle.mp_term.specs.View.{tree}
use Rattle.mp_pattern.specs.PatternTree.{patterns}
use Rattle.mp_pattern.specs.View.{pattern_tree}
use Rattle.mp_pattern.specs.Constants.{pattern_constants, all_pattern_constants}
use Rattle.mp_pattern.proofs.constant.+push_pattern_constants.Given as goal

abbrev pub invariant-loop-arg : goal.invariant-loop-arg
invariant-loop-arg l =
    map tree l.found.items ++ all_pattern_constants (patterns (map pattern_tree (drop l.arg-index l.arg-items)))
    ≡ map tree l.fn.found.items ++ pattern_constants (pattern_tree l.pattern)
