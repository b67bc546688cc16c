use Rattle.std.proofs.Common.{refl, append-nil, []}
use Rattle.mp_io.proofs.WritingLaws.{Puts-written}
use Rattle.mp_io.proofs.writer.Writer.flush.Goals as goal

pub returns-clause-puts : goal.returns-clause-puts
returns-clause-puts g c =
    Puts-written _ _ _ [] c.put.result refl c.if-self.false c.is_err-self.ensures.value c.clear.ensures
    (rw (append-nil c.args.self.now.room, ← c.bytes.ensures) c.put.ensures)
