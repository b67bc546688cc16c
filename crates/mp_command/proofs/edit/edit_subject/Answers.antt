use Rattle.std.proofs.Common.{sym, subst}
use Rattle.mp_io.specs.Moments.{sunk}
use Rattle.mp_term.specs.View.{tree}
use Rattle.mp_command.specs.Answers.{Acts}
use Rattle.mp_command.specs.Outcome.{edited_line}
use Rattle.mp_command.specs.declared.ending.Ending.TheVariants as ending
use Rattle.mp_command.proofs.Edits.{edited_before-made}
use Rattle.mp_command.proofs.Parted.{GoesOn-err, write-failed}
use Rattle.mp_command.proofs.edit.edit_subject.Goals as goal

pub returns-in_err-write_edited : goal.returns-in_err-write_edited
returns-in_err-write_edited g c = λ rest.
    let line = edited_line c.args.sig.now c.args.subject.now.name (tree c.in-Ok.term) in
    let printed = c.in_err-write_edited.ensures in
    GoesOn-err _ rest _ ending.CannotWrite _ c.from_residual-in_err-write_edited.ensures.1
    (subst (λ p. Acts p (sunk g.O.Sink c.args.out.now c.write_edited.new.out) ending.CannotWrite)
    (sym (edited_before-made c.args.sig.now c.args.subject.now.name _ _ (tree c.in-Ok.term) rest
    c.in-Ok.ensures.ok c.in-Ok.ensures.term))
    (write-failed line rest _ _ _ _ printed.front printed.cause.failed))
