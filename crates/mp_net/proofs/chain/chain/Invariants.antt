use Rattle.std.proofs.Common.{◌≡◌, ◌++◌, drop, map}
use Rattle.std.specs.List.{AllByRecursion}
use Rattle.mp_net.specs.View.{mark_of, turn_of}
use Rattle.mp_net.specs.NetOf.{IsState, accepted}
use Rattle.mp_net.specs.Chain.{asking_turns}
use Rattle.mp_net.proofs.ChainLaws.{nones}
use Rattle.mp_net.proofs.chain.chain.Given as goal

abbrev pub invariant-loop-index : goal.invariant-loop-index
invariant-loop-index l = record {
  turns : map turn_of l.states.items ++ asking_turns l.index (map mark_of (drop l.index l.marks))
      ≡ asking_turns 0 (map mark_of l.marks);
  accepted : map accepted l.states.items ++ nones (map mark_of (drop l.index l.marks))
      ≡ nones (map mark_of l.marks);
  states : AllByRecursion IsState l.states.items;
}
