use Rattle.std.proofs.Common.{◌≡◌, map, take}
use Rattle.mp_pattern.specs.View.{pattern_tree}
use Rattle.mp_pattern.specs.Normal.{normal_pattern}
use Rattle.mp_pattern.proofs.normal.+normalise.Given as goal

abbrev pub invariant-loop-arg : goal.invariant-loop-arg
invariant-loop-arg l = goal.unvisited-loop-arg l × (map pattern_tree (take l.arg-index l.arg-items)
    ≡ map (λ p. normal_pattern l.sig (pattern_tree p)) (take l.arg-index l.initial.arg-items))
