use Rattle.mp_choice.proofs.EquationLoops.{StuckFrom}
use Rattle.mp_choice.proofs.equations.rise.Given as goal

abbrev pub invariant-loop-i : goal.invariant-loop-i
invariant-loop-i l = StuckFrom l.coefficients l.numbers l.i l.rest l.free
