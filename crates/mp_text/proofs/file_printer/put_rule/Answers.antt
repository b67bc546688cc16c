use Rattle.std.proofs.Common.{append-nil, subst}
use Rattle.mp_io.specs.Writing.{Puts}
use Rattle.mp_io.proofs.WritingLaws.{Puts-then}
use Rattle.mp_pattern.specs.RuleView.{rule_tree}
use Rattle.mp_text.specs.PrintedFile.{rule_text}
use Rattle.mp_text.proofs.file_printer.put_rule.Goals as goal

pub returns : goal.returns
returns g c =
    let words = g.K.Sink in
    subst (Puts words c.args.out.now c.flush.new.self)
    (append-nil (rule_text c.args.sig.now (rule_tree c.args.rule.now)))
    (Puts-then words _ _ _ _ _
    (Puts-then words _ _ _ _ _ (rw c.bytes.ensures.bytes at c.put_head.ensures)
    (Puts-then words _ _ _ _ _ c.put_pattern.ensures
    (Puts-then words _ _ _ _ _ c.put_result.ensures c.put_ending.ensures)))
    c.flush.ensures.puts)
