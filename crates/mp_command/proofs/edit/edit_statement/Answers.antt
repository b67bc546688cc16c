use Rattle.std.proofs.Common.{sym, subst}
use Rattle.mp_io.specs.Moments.{sunk}
use Rattle.mp_command.specs.Answers.{GoesOn}
use Rattle.mp_command.specs.Outcome.{statement_before}
use Rattle.mp_command.proofs.edit.edit_statement.Goals as goal

pub returns : goal.returns
returns g c = λ rest.
    subst (λ s. GoesOn (statement_before c.args.sig.now c.args.set.now.edits s rest) rest
    (sunk g.O.Sink c.args.out.now c.edit_subject.new.out) c.edit_subject.result)
    (sym c.in-Some.ensures) (c.edit_subject.ensures rest)
