use Rattle.std.proofs.Common.{◌≡◌, map, drop}
use Rattle.mp_pattern.specs.PatternTree.{patterns}
use Rattle.mp_pattern.specs.View.{pattern_tree}
use Rattle.mp_pattern.specs.Syntactic.{is_syntactic, all_syntactic}
use Rattle.mp_pattern.proofs.syntactic.+is_syntactic.Given as goal

abbrev pub invariant-loop-arg : goal.invariant-loop-arg
invariant-loop-arg l = all_syntactic l.sig (patterns (map pattern_tree (drop l.arg-index l.arg-items)))
    ≡ is_syntactic l.sig (pattern_tree l.pattern)
