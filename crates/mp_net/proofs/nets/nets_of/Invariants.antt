use Rattle.std.proofs.Common.{◌≤◌, ◌-◌, length}
use Rattle.mp_net.specs.Items.{tables}
use Rattle.mp_net.proofs.NetsLaws.{AreFront}
use Rattle.mp_net.proofs.nets.nets_of.Given as goal

abbrev pub invariant-loop-first : goal.invariant-loop-first
invariant-loop-first l = record {
  front : AreFront l.first (tables l.marks.items) l.nets.items;
  within : l.first ≤ length l.marks.items;
}

abbrev pub decreases-loop-first : goal.decreases-loop-first
decreases-loop-first l = length l.marks.items - l.first
