use Rattle.std.proofs.Common.{◌-◌, length}
use Rattle.mp_net.specs.Items.{tables, opens}
use Rattle.mp_net.proofs.StateLaws.{Built}
use Rattle.mp_net.specs.declared.limits.TheConstants.{MAX_STATES}
use Rattle.mp_net.proofs.build.build_net.Given as goal

abbrev pub invariant-loop-alloc : goal.invariant-loop-alloc
invariant-loop-alloc l =
    Built (tables l.marks) (opens (tables l.marks) l.fn.start.items) l.rules.items l.states.items

abbrev pub decreases-loop-alloc : goal.decreases-loop-alloc
decreases-loop-alloc l = MAX_STATES - length l.states.items
