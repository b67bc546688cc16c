use Rattle.std.proofs.Common.{[], ◌++◌, sym, ap, append-nil, ◌∙◌}
use Rattle.std.specs.Prelude.{codes}
use Rattle.mp_io.proofs.WritingLaws.{Puts-then, Puts-nothing}
use Rattle.mp_table.specs.Table.{term_at}
use Rattle.mp_print.specs.KeptTexts.{part_of}
use Rattle.mp_print.specs.Printing.{term_text}
use Rattle.mp_print.proofs.KeptTextLaws.{IsWithin-beside, part_of-beside, part_of-empty}
use Rattle.mp_print.proofs.rank_printer.put_next_to.Goals as goal

pub returns-in-Some-clause-within : goal.returns-in-Some-clause-within
returns-in-Some-clause-within g c =
    let kept = c.in-Some.ensures c.args.sig.now c.requires.kept in
    IsWithin-beside c.args.base.now.texts.now c.args.run c.in-Some.part c.requires.within kept.0 c.if-part-run.true

pub returns-in-Some-clause-puts : goal.returns-in-Some-clause-puts
returns-in-Some-clause-puts g c =
    let kept = c.in-Some.ensures c.args.sig.now c.requires.kept in
    record {
      front = [];
      split = part_of-beside c.args.base.now.texts.now _ c.args.run c.in-Some.part c.requires.within kept.0
          c.if-part-run.true kept.1;
      put = Puts-nothing g.K.Sink c.args.out.now;
    }

pub returns-in-Some-2-clause-within : goal.returns-in-Some-2-clause-within
returns-in-Some-2-clause-within g c = (c.in-Some.ensures c.args.sig.now c.requires.kept).0

pub returns-in-None-clause-puts : goal.returns-in-None-clause-puts
returns-in-None-clause-puts g c =
    let bytes = c.args.base.now.texts.now in
    let run = part_of bytes c.args.run in
    let next = codes ", " ++ term_text c.args.sig.now (term_at c.args.base.now.table.now c.args.rank) in
    record {
      front = run ++ next;
      split = sym (append-nil (run ++ next)) ∙ ap (λ l. (run ++ next) ++ l) (sym (part_of-empty bytes c.args.run.to));
      put = Puts-then g.K.Sink _ _ _ run next c.put_part-in-None.ensures c.put_next.ensures;
    }
