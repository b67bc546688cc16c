use Rattle.std.proofs.Common.{[]}
use Rattle.mp_io.proofs.WritingLaws.{Puts-held, Puts-kept, Puts-then}
use Rattle.mp_io.proofs.writer.Writer.put_at_once.Goals as goal

pub returns-then-take : goal.returns-then-take
returns-then-take g c =
    Puts-held g.K.Sink c.args.self.now c.take.new.self c.args.text.now (rw c.if-take.true at c.take.ensures)

pub returns-then-not-take : goal.returns-then-not-take
returns-then-not-take g c =
    let u = c.args.self.now in
    let text = c.args.text.now in
    let kept = Puts-kept g.K.Sink u c.take.new.self (rw c.if-take.false at c.take.ensures) in
    let still = Puts-kept g.K.Sink c.flush.new.self c.take-2.new.self (rw c.if-not-take.true at c.take-2.ensures) in
    Puts-then g.K.Sink u _ _ [] text kept
    (Puts-then g.K.Sink _ c.flush.new.self _ [] text c.flush.ensures.puts
    (Puts-then g.K.Sink c.flush.new.self _ _ [] text still c.pass.ensures))

pub returns-else-not-take : goal.returns-else-not-take
returns-else-not-take g c =
    let u = c.args.self.now in
    let text = c.args.text.now in
    let kept = Puts-kept g.K.Sink u c.take.new.self (rw c.if-take.false at c.take.ensures) in
    let taken = Puts-held g.K.Sink c.flush.new.self c.take-2.new.self text
    (rw c.if-not-take.false at c.take-2.ensures) in
    Puts-then g.K.Sink u _ _ [] text kept (Puts-then g.K.Sink _ c.flush.new.self _ [] text c.flush.ensures.puts taken)
