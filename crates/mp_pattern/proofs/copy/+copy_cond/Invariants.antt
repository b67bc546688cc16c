use Rattle.std.proofs.Common.{◌≡◌, ◌++◌, map, drop}
use Rattle.mp_pattern.specs.CondView.{cond_tree}
use Rattle.mp_pattern.proofs.copy.+copy_cond.Given as goal

abbrev pub invariant-copy_conds-loop-part : goal.invariant-copy_conds-loop-part
invariant-copy_conds-loop-part l = l.copies ++ map cond_tree (drop l.part-index l.part-items) ≡ l.parts
