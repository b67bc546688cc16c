use Rattle.std.proofs.Common.{◌≡◌, ◌+◌, ◌*◌, map, drop}
use Rattle.mp_pattern.specs.PatternTree.{patterns}
use Rattle.mp_pattern.specs.Size.{pattern_nodes, all_pattern_nodes}
use Rattle.mp_pattern.specs.View.{pattern_tree}
use Rattle.mp_program.specs.RightForm.{are_flat}
use Rattle.mp_line.proofs.comm.+is_flat.Given as goal

abbrev pub decreases-is_flat : goal.decreases-is_flat
decreases-is_flat l = 2 * pattern_nodes (pattern_tree l.pattern.now)

abbrev pub decreases-are_flat : goal.decreases-are_flat
decreases-are_flat l = 2 * all_pattern_nodes (patterns (map pattern_tree l.args.now)) + 1

abbrev pub invariant-are_flat-loop-arg : goal.invariant-are_flat-loop-arg
invariant-are_flat-loop-arg l = are_flat l.sig l.op.0 (patterns (map pattern_tree (drop l.arg-index l.args)))
    ≡ are_flat l.sig l.op.0 (patterns (map pattern_tree l.args))
