use Rattle.std.proofs.Common.{◌≡◌, map, drop}
use Rattle.mp_pattern.specs.View.{pattern_tree}
use Rattle.mp_ac.proofs.comm_plans.are_same.Given as goal

abbrev pub invariant-loop-i : goal.invariant-loop-i
invariant-loop-i l = map pattern_tree (drop l.i l.list) ≡ map pattern_tree (drop l.i l.other)
    → map pattern_tree l.list ≡ map pattern_tree l.other
