use Rattle.std.proofs.Common.{◌≡◌, take}
use Rattle.mp_cond.specs.Ready.{AreCountable}
use Rattle.mp_net.specs.Walk.{taken_subst}
use Rattle.mp_net.proofs.taken.to_subst.Given as goal

abbrev pub invariant-loop-one : goal.invariant-loop-one
invariant-loop-one l = (l.bindings ≡ taken_subst l.table (take l.one-index l.taken)) × AreCountable l.bindings
