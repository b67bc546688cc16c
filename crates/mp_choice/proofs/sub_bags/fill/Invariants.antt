use Rattle.mp_choice.proofs.SubBagLoops.{FilledUpTo}
use Rattle.mp_choice.proofs.sub_bags.fill.Given as goal

abbrev pub invariant-loop-i : goal.invariant-loop-i
invariant-loop-i l = FilledUpTo l.counts l.initial.bag l.bag l.from l.i l.size l.left
