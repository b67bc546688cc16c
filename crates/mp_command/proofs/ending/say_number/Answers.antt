use Rattle.std.proofs.Common.{subst}
use Rattle.mp_io.specs.Devices.{Text}
use Rattle.mp_io.specs.Moments.{sunk}
use Rattle.mp_io.specs.Printing.{Prints}
use Rattle.mp_command.specs.Messages.{said_number}
use Rattle.mp_command.proofs.ending.say_number.Goals as goal

pub returns : goal.returns
returns g c =
    subst (λ (digits : Text). Prints (sunk g.E.Sink c.args.err.now c.say_digits.new.err)
    (said_number c.args.name.now c.args.before.now digits c.args.behind.now) c.say_digits.result)
    c.format.ensures.text c.say_digits.ensures
