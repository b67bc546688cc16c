use Rattle.std.proofs.Common.{◌≡◌, ◌+◌, ◌-◌, ◌^◌, ◌≤◌, min, map, drop}
use Rattle.mp_term.specs.View.{tree}
use Rattle.mp_term.specs.Size.{all_nodes}
use Rattle.mp_cond.proofs.lists.total_nodes.Given as goal

abbrev pub invariant-loop-term : goal.invariant-loop-term
invariant-loop-term l = record {
  fits : l.total ≤ 2 ^ 64 - 1;
  rest : min (l.total + all_nodes (map tree (drop l.term-index l.terms))) (2 ^ 64 - 1)
      ≡ min (all_nodes (map tree l.terms)) (2 ^ 64 - 1);
}
