use Rattle.std.proofs.Common.{refl}
use Rattle.mp_io.proofs.WritingLaws.{Puts-written}
use Rattle.mp_io.proofs.writer.Writer.pass.Goals as goal

pub returns : goal.returns
returns g c =
    let none = c.requires c.if-self.false in
    Puts-written _ _ _ c.args.text.now c.put.result refl c.if-self.false c.is_err-self.ensures.value none
    (rw none c.put.ensures)
