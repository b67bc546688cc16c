use Rattle.std.proofs.Common.{arith, ◌-◌, get_or, length}
use Rattle.mp_choice.proofs.EquationLaws.{filled_le, fills-last}
use Rattle.mp_choice.proofs.equations.fill_last.Goals as goal

pub overflow_add-numbers : goal.overflow_add-numbers
overflow_add-numbers c =
    omega (
      arith,
      filled_le c.args.coefficients.now c.args.numbers.now (length c.args.coefficients.now - 1) c.args.rest
          (get_or c.args.coefficients.now (length c.args.coefficients.now - 1) 0) c.requires.one_each
          c.requires.positive,
    )

pub returns : goal.returns
returns c = fills-last c.args.coefficients.now c.args.numbers.now (length c.args.coefficients.now - 1) c.args.rest
    c.requires.one_each (omega arith) c.requires.positive
