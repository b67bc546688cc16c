use Rattle.std.proofs.Common.{◌≡◌, ◌++◌, drop, map}
use Rattle.mp_pattern.specs.PatternTree.{patterns}
use Rattle.mp_pattern.specs.Size.{pattern_nodes}
use Rattle.mp_pattern.specs.View.{pattern_tree}
use Rattle.mp_vm.specs.Looks.{use_view, placed_in, all_placed_in}
use Rattle.mp_vm.proofs.look.+add_pattern_uses.Given as goal

abbrev pub decreases-add_pattern_uses : goal.decreases-add_pattern_uses
decreases-add_pattern_uses l = pattern_nodes (pattern_tree l.pattern.now)

abbrev pub invariant-loop-arg : goal.invariant-loop-arg
invariant-loop-arg l =
    map use_view l.uses.items ++ all_placed_in (patterns (map pattern_tree (drop l.arg-index l.arg-items)))
    ≡ map use_view l.fn.uses.items ++ placed_in (pattern_tree l.pattern)
