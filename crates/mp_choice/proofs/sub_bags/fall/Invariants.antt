use Rattle.mp_choice.proofs.SubBagLoops.{StuckFrom}
use Rattle.mp_choice.proofs.sub_bags.fall.Given as goal

abbrev pub invariant-loop-i : goal.invariant-loop-i
invariant-loop-i l = StuckFrom l.counts l.bag l.i l.size l.room
