use Rattle.std.proofs.lemmas.Cmp.{nat_list_cmp_total}
use Rattle.mp_choice.specs.Equations.{IsSolution}
use Rattle.mp_choice.specs.EquationList.{solutions_of}
use Rattle.mp_choice.proofs.Lexicographic.{lex}
use Rattle.mp_choice.proofs.Listed.{after-first, after-next}
use Rattle.mp_choice.proofs.EquationListing.{solutions_of-listing}
use Rattle.mp_choice.proofs.equations.step.Goals as goal

pub returns-in-Before : goal.returns-in-Before
returns-in-Before c = after-first lex nat_list_cmp_total (IsSolution c.args.coefficients.now c.args.total)
    (solutions_of c.args.coefficients.now c.args.total)
    (solutions_of-listing c.args.coefficients.now c.args.total c.requires.positive)
    c.first.result c.args.stage c.args.numbers.now c.first.new.numbers c.in-Before.is c.first.ensures

pub returns-in-Standing : goal.returns-in-Standing
returns-in-Standing c = after-next lex nat_list_cmp_total (IsSolution c.args.coefficients.now c.args.total)
    (solutions_of c.args.coefficients.now c.args.total)
    (solutions_of-listing c.args.coefficients.now c.args.total c.requires.positive)
    c.following.result c.args.stage c.args.numbers.now c.following.new.numbers c.in-Standing.is c.following.ensures
