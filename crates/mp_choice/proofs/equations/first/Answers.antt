use Rattle.std.proofs.Common.{arith, ap, length, ◌-◌}
use Rattle.mp_choice.specs.Equations.{weighed}
use Rattle.mp_choice.proofs.EquationLaws.{weighed-zeros}
use Rattle.mp_choice.proofs.EquationListing.{first_solution}
use Rattle.mp_choice.proofs.equations.first.Goals as goal

pub settle-requires-clause-lacks : goal.settle-requires-clause-lacks
settle-requires-clause-lacks c = omega (
  arith,
  ap (λ ns. weighed c.args.coefficients.now ns) c.clear_from.ensures,
  weighed-zeros c.args.coefficients.now (length c.args.numbers.now - 0),
)

pub returns : goal.returns
returns c = first_solution c.settle.result c.args.coefficients.now c.args.total (length c.args.numbers.now - 0)
    c.clear_from.new.numbers c.settle.new.numbers (omega (arith, c.requires.one_each)) c.clear_from.ensures
    c.settle.ensures
