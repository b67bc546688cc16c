use Rattle.std.proofs.Common.{arith, ◌-◌}
use Rattle.mp_choice.proofs.EquationLoops.{stuck-more, free_bounds, product_bounds}
use Rattle.mp_choice.proofs.equations.rise.Goals as goal

pub overflow_mul-free : goal.overflow_mul-free
overflow_mul-free c =
    omega (
      arith,
      product_bounds c.args.coefficients.now c.args.numbers.now c.loop-i.i (c.loop-i.i - 1) c.args.rest c.loop-i.free
          (omega arith) c.requires.one_each (omega arith) c.loop-i.invariant,
    )

pub overflow_add-free : goal.overflow_add-free
overflow_add-free c =
    omega (
      arith,
      free_bounds c.args.coefficients.now c.args.numbers.now c.loop-i.i (c.loop-i.i - 1) c.args.rest c.loop-i.free
          (omega arith) c.requires.one_each (omega arith) c.loop-i.invariant,
    )

pub loop-i-preserved : goal.loop-i-preserved
loop-i-preserved c = stuck-more c.args.coefficients.now c.args.numbers.now c.loop-i.i (c.loop-i.i - 1) c.args.rest
    c.loop-i.free (omega arith) c.requires.one_each (omega arith) c.loop-i.invariant (omega arith)
