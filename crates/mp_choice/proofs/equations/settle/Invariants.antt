use Rattle.mp_choice.proofs.EquationLoops.{Searches, lists_left}
use Rattle.mp_choice.proofs.equations.settle.Given as goal

abbrev pub invariant-loop-rest : goal.invariant-loop-rest
invariant-loop-rest l = Searches l.coefficients l.total l.initial.numbers l.numbers l.rest

abbrev pub decreases-loop-rest : goal.decreases-loop-rest
decreases-loop-rest l = lists_left l.coefficients l.total l.numbers
