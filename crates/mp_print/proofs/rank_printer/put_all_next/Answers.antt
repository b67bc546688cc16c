use Rattle.std.proofs.Common.{◌<◌, ◌++◌, ◌∙◌, [], ap, append_assoc, append-nil, arith, get_or, length, map, refl, subst}
use Rattle.std.proofs.Common.{sym, take}
use Rattle.std.specs.Prelude.{codes}
use Rattle.std.proofs.lemmas.List.{get_or_default, length-map, take_all}
use Rattle.mp_io.specs.Devices.{Text}
use Rattle.mp_io.specs.Writing.{Puts}
use Rattle.mp_io.proofs.WritingLaws.{Puts-nothing}
use Rattle.mp_table.specs.Table.{term_at}
use Rattle.mp_table.specs.declared.rank.Rank.{Rank}
use Rattle.mp_print.specs.KeptTexts.{PutsBut, part_of}
use Rattle.mp_print.specs.Printing.{preceded, term_text}
use Rattle.mp_print.proofs.KeptTextLaws.{PutsBut-ended, PutsBut-more, PutsBut-then}
use Rattle.mp_print.proofs.Separated.{preceded-next}
use Rattle.mp_print.proofs.rank_printer.put_all_next.Goals as goal

pub loop-rank-init : goal.loop-rank-init
loop-rank-init g c = record {
  within = c.requires.within;
  puts = record {
    front = [];
    split = append-nil (part_of c.args.base.now.texts.now c.args.first);
    put = Puts-nothing g.K.Sink c.args.out.now;
  };
}

pub loop-rank-preserved : goal.loop-rank-preserved
loop-rank-preserved g c =
    let ranks = c.args.ranks.now in
    let index = c.loop-rank.rank-index in
    let within : index < length ranks = c.loop-rank-test.true in
    let rank : Rank = get_or ranks index (record { 0 = 0 }) in
    let text_of : Rank → Text = λ r. term_text c.args.sig.now (term_at c.args.base.now.table.now r) in
    let first = part_of c.args.base.now.texts.now c.args.first in
    let before = preceded (codes ", ") (take index (map text_of ranks)) in
    let next = codes ", " ++ text_of rank in
    let is = preceded-next g.K.Sink text_of (codes ", ") ranks (map text_of ranks) refl index rank within
    (sym (get_or_default ranks index rank (record { 0 = 0 }) within)) in
    record {
      within = c.put_next_to-run.ensures.within;
      puts = subst
          (λ l. PutsBut g.K.Sink c.args.out.now c.put_next_to-run.new.out l
          (part_of c.args.base.now.texts.now c.put_next_to-run.result))
          (append_assoc first before next ∙ ap (λ l. first ++ l) (sym is))
          (PutsBut-then g.K.Sink _ _ _ _ _ _
          (PutsBut-more g.K.Sink _ _ _ _ next c.loop-rank.invariant.puts) c.put_next_to-run.ensures.puts);
    }

pub returns : goal.returns
returns g c =
    let ranks = c.args.ranks.now in
    let text_of : Rank → Text = λ r. term_text c.args.sig.now (term_at c.args.base.now.table.now r) in
    let first = part_of c.args.base.now.texts.now c.args.first in
    let all = take_all c.loop-rank.rank-index (map text_of ranks)
    (omega (arith, c.loop-rank-test.false, length-map ranks text_of)) in
    subst (λ l. Puts g.K.Sink c.args.out.now c.put_part.new.out (first ++ preceded (codes ", ") l)) all
    (PutsBut-ended g.K.Sink _ _ _ _ _ c.loop-rank.invariant.puts c.put_part.ensures)
