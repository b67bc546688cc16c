use Rattle.std.proofs.Common.{◌≡◌, ◌++◌, map, drop}
use Rattle.mp_pattern.specs.View.{pattern_tree}
use Rattle.mp_pattern.proofs.copy.+copy_pattern.Given as goal

abbrev pub invariant-copy_patterns-loop-part : goal.invariant-copy_patterns-loop-part
invariant-copy_patterns-loop-part l = l.copies ++ map pattern_tree (drop l.part-index l.part-items) ≡ l.parts
