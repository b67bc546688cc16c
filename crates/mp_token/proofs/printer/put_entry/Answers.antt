use Rattle.std.proofs.Common.{◌++◌, subst, sym, ◌∙◌, ap}
use Rattle.std.specs.Prelude.{codes}
use Rattle.mp_io.specs.Writing.{Puts}
use Rattle.mp_io.proofs.WritingLaws.{Puts-then}
use Rattle.mp_io.specs.Printing.{gap_text}
use Rattle.mp_token.specs.Entry.{Entry}
use Rattle.mp_token.specs.TokenText.{front_text, next_entry_text, ranks_text, mark_text}
use Rattle.mp_token.proofs.JoinedTexts.{front_text-push}
use Rattle.mp_token.proofs.printer.put_entry.Goals as goal

pub returns : goal.returns
returns g c =
    let e : Entry = (c.args.ranks.now, c.args.collapsed) in
    let text = next_entry_text c.args.index e in
    let put : Puts g.K.Sink c.args.out.now c.put.new.self text =
    Puts-then g.K.Sink c.args.out.now c.put_gap.new.out c.put.new.self (gap_text (codes ";") c.args.index)
    (ranks_text c.args.ranks.now ++ mark_text c.args.collapsed) c.put_gap.ensures
    (Puts-then g.K.Sink c.put_gap.new.out c.put_ranks.new.out c.put.new.self (ranks_text c.args.ranks.now)
    (mark_text c.args.collapsed) c.put_ranks.ensures.puts
    (subst (Puts g.K.Sink c.put_ranks.new.out c.put.new.self) c.mark.ensures c.put.ensures)) in
    record {
      puts = put;
      grows = λ start subject rule before same h.
          subst (Puts g.K.Sink start c.put.new.self)
          (ap (λ n. front_text subject rule before ++ next_entry_text n e) (sym same)
          ∙ sym (front_text-push subject rule before e))
          (Puts-then g.K.Sink start c.args.out.now c.put.new.self (front_text subject rule before) text h put);
      fit = c.put_ranks.ensures.fit;
    }
