use Rattle.std.proofs.Common.{refl, sym, subst}
use Rattle.std.specs.Prelude.{slice_get}
use Rattle.mp_io.specs.Writing.{Puts}
use Rattle.mp_term.specs.Tree.{trees}
use Rattle.mp_table.specs.Table.{term_at, terms_at}
use Rattle.mp_print.specs.Printing.{term_text, term_texts}
use Rattle.mp_print.proofs.Arguments.{text-app}
use Rattle.mp_print.proofs.rank_printer.put_single.Goals as goal

pub returns-in-Some : goal.returns-in-Some
returns-in-Some g c =
    let sig = c.args.sig.now in
    let T = c.args.base.now.table.now in
    let rs = c.args.ranks.now in
    let text = text-app (term_at T) trees (term_text sig) (term_texts sig) refl (λ t ts. refl)
    (slice_get sig.ops c.in-Some.op.0) (terms_at T rs) rs refl in
    rw c.in-Some.is
    (subst (Puts g.K.Sink c.args.out.now c.put_application.new.out) (sym text) c.put_application.ensures)
