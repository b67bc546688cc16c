use Rattle.std.proofs.Common.{refl, ap, sym, subst}
use Rattle.mp_io.specs.Moments.{sunk}
use Rattle.mp_term.specs.View.{tree}
use Rattle.mp_command.specs.Answers.{Acts}
use Rattle.mp_command.specs.Messages.{limit_line}
use Rattle.mp_command.specs.Outcome.{rewritten_line}
use Rattle.mp_command.specs.declared.ending.Told.TheVariants as told
use Rattle.mp_command.specs.declared.ending.Ending.TheVariants as ending
use Rattle.mp_command.proofs.Parted.{GoesOn-err, memory-late, told-late, write-failed}
use Rattle.mp_command.proofs.Rewrites.{line-first, line-goes_on, line-last}
use Rattle.mp_command.proofs.rewrite.finish_subject.Goals as goal

pub returns-in_err-write_rewritten : goal.returns-in_err-write_rewritten
returns-in_err-write_rewritten g c = λ rest.
    let r = c.args.rewritten.now in
    let (o, is) = line-first c.args.sig.now c.args.max c.args.name.now r rest in
    let line = rewritten_line c.args.sig.now c.args.name.now (tree r.term) r.turns in
    let printed = c.in_err-write_rewritten.ensures in
    GoesOn-err _ rest _ ending.CannotWrite _ c.from_residual.ensures.1
    (subst (λ p. Acts p (sunk g.O.Sink c.args.out.now c.write_rewritten.new.out) ending.CannotWrite) (sym is)
    (write-failed line o _ _ _ _ printed.front printed.cause.failed))

pub returns-in_err-copy : goal.returns-in_err-copy
returns-in_err-copy g c = λ rest.
    let r = c.args.rewritten.now in
    let (o, is) = line-first c.args.sig.now c.args.max c.args.name.now r rest in
    let line = rewritten_line c.args.sig.now c.args.name.now (tree r.term) r.turns in
    GoesOn-err _ rest _ ending.Memory _ c.from_residual-in_err-copy.ensures.1
    (subst (λ p. Acts p (sunk g.O.Sink c.args.out.now c.write_rewritten.new.out) ending.Memory) (sym is)
    (memory-late line o _ _ (g.O.Sink.faults c.args.out.now) (g.O.Sink.faults c.write_rewritten.new.out)
    c.in_ok-write_rewritten.ensures.whole))

pub returns-then-rewritten : goal.returns-then-rewritten
returns-then-rewritten g c = λ rest.
    let r = c.args.rewritten.now in
    let name = c.args.name.now in
    let line = rewritten_line c.args.sig.now name (tree r.term) r.turns in
    let limit = told.TurnLimit c.in_ok-copy.field-0 c.args.max in
    let printed = c.in_ok-write_rewritten.ensures in
    subst (λ p. Acts p (sunk g.O.Sink c.args.out.now c.write_rewritten.new.out) (ending.Told limit))
    (sym (line-last c.args.sig.now c.args.max name r rest c.if-rewritten.true))
    (told-late line 6 (limit_line name c.args.max) limit _ _ _ _ printed.whole printed.cause.stays refl
    (ap (λ n. limit_line n c.args.max) c.in_ok-copy.ensures))

pub returns : goal.returns
returns g c = λ rest.
    let r = c.args.rewritten.now in
    let line = rewritten_line c.args.sig.now c.args.name.now (tree r.term) r.turns in
    let printed = c.in_ok-write_rewritten.ensures in (
      line,
      line-goes_on c.args.sig.now c.args.max c.args.name.now r rest c.if-rewritten.false,
      printed.whole,
      printed.cause.stays,
    )
