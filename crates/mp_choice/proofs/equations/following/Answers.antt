use Rattle.mp_choice.proofs.EquationListing.{next_solution, last_solution}
use Rattle.mp_choice.proofs.equations.following.Goals as goal

pub returns-in-Some : goal.returns-in-Some
returns-in-Some c = next_solution c.settle.result c.args.coefficients.now c.args.total c.in-Some.rest
    c.args.numbers.now c.advance.new.numbers c.settle.new.numbers c.requires.solution c.in-Some.ensures
    c.settle.ensures

pub returns-in-None : goal.returns-in-None
returns-in-None c = last_solution c.args.coefficients.now c.args.total c.args.numbers.now c.requires.solution
    c.in-None.ensures
