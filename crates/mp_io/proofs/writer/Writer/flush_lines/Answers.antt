use Rattle.std.proofs.Common.{take, ◌++◌, refl, sym, ◌∙◌, ap}
use Rattle.std.proofs.lemmas.List.{take-append-drop}
use Rattle.mp_io.proofs.WritingLaws.{Puts-front}
use Rattle.mp_io.proofs.writer.Writer.flush_lines.Goals as goal

pub returns : goal.returns
returns g c =
    let held = c.args.self.now.room in
    let count = c.lines_len-count.result in
    Puts-front g.K.Sink c.args.self.now _ (take count held) c.put.result refl c.if-self.false
    c.is_err-self.ensures.value
    (sym (take-append-drop count held) ∙ ap (λ l. take count held ++ l) (sym c.drop_front.ensures))
    (rw (← c.bytes.ensures) c.put.ensures)
