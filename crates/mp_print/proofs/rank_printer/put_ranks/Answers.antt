use Rattle.std.proofs.Common.{refl, subst, sym}
use Rattle.std.specs.Prelude.{codes}
use Rattle.mp_io.specs.Writing.{Puts}
use Rattle.mp_table.specs.Table.{term_at}
use Rattle.mp_print.specs.Printing.{term_text}
use Rattle.mp_print.proofs.KeptTextLaws.{PutsBut-ended, PutsBut-more}
use Rattle.mp_print.proofs.Separated.{separated-first}
use Rattle.mp_print.proofs.rank_printer.put_ranks.Goals as goal

pub returns-in-len1-up : goal.returns-in-len1-up
returns-in-len1-up g c =
    subst (Puts g.K.Sink c.args.out.now c.put_all_next.new.out)
    (sym (separated-first g.K.Sink (λ r. term_text c.args.sig.now (term_at c.args.base.now.table.now r)) (codes ", ")
    c.args.ranks.now _ refl (record { 0 = 0 }) c.in-len1-up.len_at_least))
    (PutsBut-ended g.K.Sink _ _ _ _ _
    (PutsBut-more g.K.Sink _ _ _ _ _ c.put_first-run.ensures.puts) c.put_all_next.ensures)
