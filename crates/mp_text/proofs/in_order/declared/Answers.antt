use Rattle.std.proofs.Common.{map}
use Rattle.mp_parser.specs.View.{statement_tree}
use Rattle.mp_text.proofs.InOrderLaws.{IsDraftRead-given}
use Rattle.mp_text.proofs.in_order.declared.Goals as goal

pub returns : goal.returns
returns c = IsDraftRead-given c.draft_of.result c.args.parser.now c.declarations.new.parser
    (map statement_tree c.in_ok-declarations.declarations.items) c.in_ok-declarations.ensures
    (rw c.deref.ensures.value at c.draft_of.ensures)
