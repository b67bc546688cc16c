use Rattle.std.proofs.Common.{◌≡◌, map, drop}
use Rattle.mp_pattern.specs.PatternTree.{patterns}
use Rattle.mp_pattern.specs.View.{pattern_tree}
use Rattle.mp_pattern.specs.Order.{all_ground}
use Rattle.mp_pattern.proofs.order.+ground.Given as goal

abbrev pub invariant-all_ground-loop-item : goal.invariant-all_ground-loop-item
invariant-all_ground-loop-item l = all_ground (patterns (map pattern_tree (drop l.item-index l.items)))
    ≡ all_ground (patterns (map pattern_tree l.items))
