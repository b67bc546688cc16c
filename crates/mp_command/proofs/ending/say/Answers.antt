use Rattle.std.proofs.Common.{subst}
use Rattle.mp_io.specs.Devices.{Text}
use Rattle.mp_io.specs.Moments.{sunk}
use Rattle.mp_io.specs.Printing.{Prints}
use Rattle.mp_command.specs.Messages.{read_line}
use Rattle.mp_command.proofs.ending.say.Goals as goal

pub returns-in-Memory : goal.returns-in-Memory
returns-in-Memory g c = rw c.in-Memory.is c.put.ensures

pub returns-in-CannotRead : goal.returns-in-CannotRead
returns-in-CannotRead g c =
    rw c.in-CannotRead.is
    (subst (λ (name : Text). Prints (sunk g.E.Sink c.args.err.now c.say_of-in-CannotRead.new.err) (read_line name)
    c.say_of-in-CannotRead.result) c.as_bytes-in-CannotRead.ensures.value c.say_of-in-CannotRead.ensures)
