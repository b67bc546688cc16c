use Rattle.std.proofs.Common.{◌≡◌, ◌+◌, ◌-◌, ◌^◌, ◌≤◌, min, max, map, drop}
use Rattle.mp_term.specs.Tree.{trees}
use Rattle.mp_term.specs.View.{tree}
use Rattle.mp_term.specs.Size.{depth, greatest_depth}
use Rattle.mp_term.proofs.term.+depth.Given as goal

abbrev pub invariant-loop-arg : goal.invariant-loop-arg
invariant-loop-arg l = record {
  fits : l.deepest ≤ 2 ^ 64 - 1;
  rest : min (max l.deepest (greatest_depth (trees (map tree (drop l.arg-index l.arg-items)))) + 1) (2 ^ 64 - 1)
      ≡ min (depth (tree l.term)) (2 ^ 64 - 1);
}
