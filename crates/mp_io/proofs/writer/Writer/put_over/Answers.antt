use Rattle.std.proofs.Common.{[]}
use Rattle.mp_io.proofs.WritingLaws.{Puts-then}
use Rattle.mp_io.proofs.writer.Writer.put_over.Goals as goal

pub returns : goal.returns
returns g c = Puts-then g.K.Sink c.args.self.now c.flush_lines.new.self c.put_at_once.new.self [] c.args.text.now
    (c.flush_lines.ensures) c.put_at_once.ensures
