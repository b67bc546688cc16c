use Rattle.std.proofs.Common.{◌<◌, ◌≤◌, ◌-◌, ◌+◌, length, drop, unwrap_or}
use Rattle.std.specs.Prelude.{IfSome}
use Rattle.mp_net.specs.Items.{tables}
use Rattle.mp_net.specs.NetOf.{IsGroup}
use Rattle.mp_net.proofs.group.largest_group.Given as goal

abbrev pub invariant-loop-group : goal.invariant-loop-group
invariant-loop-group l = record {
  group : IsGroup l.first (drop l.first (tables l.marks)) l.group.count l.group.net;
  fails : IfSome l.fails (λ n. (l.group.count < n) × (n ≤ length l.marks - l.first));
}

abbrev pub decreases-loop-group : goal.decreases-loop-group
decreases-loop-group l = unwrap_or l.fails (length l.marks - l.first + 1) - l.group.count
