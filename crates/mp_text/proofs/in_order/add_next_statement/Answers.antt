use Rattle.std.proofs.Common.{◌∙◌, sym}
use Rattle.mp_parser.specs.View.{statement_tree}
use Rattle.mp_build.specs.Build.{sig_of}
use Rattle.mp_text.proofs.InOrderLaws.{IsDraftRead-push}
use Rattle.mp_text.proofs.in_order.add_next_statement.Goals as goal

pub returns-clause-added : goal.returns-clause-added
returns-clause-added c = λ yes bytes was.
    let added = c.in_ok-add_statement.ensures (sig_of was.statements) was.statements was.draft in
    IsDraftRead-push bytes c.args.parser.now c.read_statement.new.parser c.args.draft.now c.add_statement.new.draft
    (statement_tree c.in_ok-statement.statement) was (sym c.is_declaration.ensures ∙ c.if-is_declaration.false)
    (c.in_ok-statement.ensures.read was.statements) added.0 added.1
