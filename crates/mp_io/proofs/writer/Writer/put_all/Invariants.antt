use Rattle.std.proofs.Common.{take}
use Rattle.mp_io.specs.Printing.{joined}
use Rattle.mp_io.specs.Writing.{Puts}
use Rattle.mp_io.proofs.writer.Writer.put_all.Given as goal

-- the parts so far were put
abbrev pub invariant-loop-part : goal.invariant-loop-part
invariant-loop-part g l = Puts g.K.Sink l.fn.self l.self (joined (take l.part-index l.parts))
