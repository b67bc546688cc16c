use Rattle.std.proofs.Common.{◌≡◌, ◌+◌, ◌-◌, ◌^◌, ◌≤◌, min, length, map, drop}
use Rattle.mp_term.specs.Tree.{trees}
use Rattle.mp_term.specs.View.{tree}
use Rattle.mp_term.specs.Edited.{edited_args}
use Rattle.mp_term.proofs.edited.count_after.Given as goal

abbrev pub invariant-loop-next : goal.invariant-loop-next
invariant-loop-next l = record {
  fits : l.count ≤ 2 ^ 64 - 1;
  within : l.index ≤ length l.terms;
  rest : min (l.count + length (edited_args l.edits l.position l.index (trees (map tree (drop l.index l.terms)))))
      (2 ^ 64 - 1)
      ≡ min (length (edited_args l.edits l.position 0 (trees (map tree l.terms)))) (2 ^ 64 - 1);
}

abbrev pub decreases-loop-next : goal.decreases-loop-next
decreases-loop-next l = length l.terms - l.index
