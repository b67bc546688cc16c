use Rattle.std.proofs.Common.{◌≡◌, ◌+◌, ◌-◌, ◌^◌, drop, map}
use Rattle.std.specs.Prelude.{min}
use Rattle.mp_term.specs.Size.{all_nodes}
use Rattle.mp_term.specs.View.{tree}
use Rattle.mp_walk.proofs.constants.are_few.Given as goal

abbrev pub invariant-loop-term : goal.invariant-loop-term
invariant-loop-term l =
    min (l.nodes + all_nodes (map tree (drop l.term-index l.terms))) (2 ^ 64 - 1)
    ≡ min (all_nodes (map tree l.terms)) (2 ^ 64 - 1)
