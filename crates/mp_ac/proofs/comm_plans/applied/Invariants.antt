use Rattle.std.proofs.Common.{◌≡◌, ◌++◌, map, drop}
use Rattle.mp_pattern.specs.View.{pattern_tree}
use Rattle.mp_ac.proofs.comm_plans.applied.Given as goal

abbrev pub invariant-loop-child : goal.invariant-loop-child
invariant-loop-child l = l.copies ++ map pattern_tree (drop l.child-index l.children) ≡ map pattern_tree l.children
