use Rattle.std.proofs.Common.{◌≡◌, ◌≤◌, refl, rules, subst, sym, ◌∙◌}
use Rattle.std.specs.List.{Contains}
use Rattle.mp_io.specs.Moments.{shelved, sunk}
use Rattle.mp_words.specs.Words.{request_of}
use Rattle.mp_command.specs.Endings.{line_of}
use Rattle.mp_command.specs.Outcome.{IsOutcomeAt}
use Rattle.mp_command.specs.Run.{IsUnreadLine, statuses, wanted_by, words_behind, words_of}
use Rattle.mp_command.specs.declared.ending.Ending.TheVariants as ending
use Rattle.mp_command.proofs.Chain.{Answers-nothing}
use Rattle.mp_command.proofs.Runs.{HasOutcome-answers, Says-done, status_of-listed}
use Rattle.mp_command.proofs.command.run.Goals as goal

pub returns-in-Ok-clause-statuses : goal.returns-in-Ok-clause-statuses
returns-in-Ok-clause-statuses g c = subst (Contains statuses) (sym c.finish.ensures.status)
    (status_of-listed c.answer.result)

pub returns-in-Ok-clause-outcome : goal.returns-in-Ok-clause-outcome
returns-in-Ok-clause-outcome g c =
    let asked_for = request_of (words_behind c.deref.result.now) in
    let same : asked_for ≡ request_of (words_of c.args.words.now) = cc (c.in-Ok.ensures) in
    HasOutcome-answers _ _ asked_for _ _ c.answer.result _ (c.there_is_an_outcome.ensures _) same
    c.finish.ensures.status
    c.answer.ensures.answers c.finish.ensures.says

pub returns-in-Ok-clause-tells : goal.returns-in-Ok-clause-tells
returns-in-Ok-clause-tells g c =
    let asked_for = request_of (words_behind c.deref.result.now) in
    let same : asked_for ≡ request_of (words_of c.args.words.now) = cc (c.in-Ok.ensures) in
    let line = line_of c.answer.result in
    record {
      usage = search rules;
      unread = λ e. (
        line,
        subst (λ r. IsUnreadLine (wanted_by r) (shelved g.S.Shelf c.args.shelf.now c.answer.new.shelf) line)
            same (c.answer.ensures.causes (sym c.finish.ensures.status ∙ e)),
        c.finish.ensures.says,
      );
      write = search rules;
      memory = search rules;
      done = λ few. Says-done _ c.answer.result c.finish.ensures.says
          (subst (λ n. n ≤ 1) c.finish.ensures.status few);
    }

pub returns-in-Err-clause-outcome : goal.returns-in-Err-clause-outcome
returns-in-Err-clause-outcome g c =
    let asked_for = request_of (words_of c.args.words.now) in
    let shelf = shelved g.S.Shelf c.args.shelf.now c.args.shelf.now in
    let out = sunk g.O.Sink c.args.out.now c.args.out.now in
    HasOutcome-answers shelf _ asked_for out _ ending.Memory _ (c.there_is_an_outcome.ensures _) refl
    c.finish-in-Err.ensures.status
    (Answers-nothing (wanted_by asked_for) (λ fs. IsOutcomeAt fs asked_for) shelf out refl)
    c.finish-in-Err.ensures.says
