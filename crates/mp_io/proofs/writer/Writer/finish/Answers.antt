use Rattle.mp_io.proofs.WritingLaws.{HasPut-ended}
use Rattle.mp_io.proofs.writer.Writer.finish.Goals as goal

pub returns-clause-prints : goal.returns-clause-prints
returns-clause-prints g c = λ start text h.
    HasPut-ended g.K.Sink start c.put.new.sink text c.args.self c.put.result c.if-failed.false
    h (rw (← c.bytes.ensures) c.put.ensures)
