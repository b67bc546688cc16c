use Rattle.std.proofs.Common.{arith, ◌+◌, ◌-◌, length-set, take, replicate, ◌++◌, set, get_or, ap, ◌∙◌}
use Rattle.mp_choice.proofs.EquationLoops.{next-risen, risen_le}
use Rattle.mp_choice.proofs.equations.advance.Goals as goal

pub overflow_add-numbers : goal.overflow_add-numbers
overflow_add-numbers c =
    omega (
      arith,
      risen_le c.args.coefficients.now c.args.numbers.now c.in_ok-i.i c.args.rest c.in_ok-i.free c.requires.one_each
          c.requires.positive c.in_ok-i.ensures,
    )

pub returns : goal.returns
returns c = next-risen c.args.coefficients.now c.args.numbers.now c.clear_from.new.numbers c.in_ok-i.i c.args.rest
    c.in_ok-i.free c.requires.one_each c.in_ok-i.ensures
    (c.clear_from.ensures
    ∙ ap (λ k. take (c.in_ok-i.i + 1) (set c.args.numbers.now c.in_ok-i.i (get_or c.args.numbers.now c.in_ok-i.i 0 + 1))
    ++ replicate (k - (c.in_ok-i.i + 1)) 0)
    (length-set c.args.numbers.now c.in_ok-i.i (get_or c.args.numbers.now c.in_ok-i.i 0 + 1)))
