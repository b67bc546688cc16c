use Rattle.std.proofs.Common.{refl, sym, subst}
use Rattle.mp_io.specs.Moments.{sunk}
use Rattle.mp_text.specs.File.{file_tree}
use Rattle.mp_words.specs.Requests.{asked}
use Rattle.mp_command.specs.Answers.{ActsAs}
use Rattle.mp_command.specs.Outcome.{IsOutcomeOver}
use Rattle.mp_command.specs.Programs.{named}
use Rattle.mp_command.specs.declared.ending.Ending.TheVariants as ending
use Rattle.mp_command.specs.declared.ending.Told.TheVariants as told
use Rattle.mp_command.proofs.Acted.{acted-file, acted-nothing, acted-text_fault}
use Rattle.mp_command.proofs.Actions.{acts-apart}
use Rattle.mp_command.proofs.answer.act_over.Goals as goal

pub returns-in-Ok-clause-acts : goal.returns-in-Ok-clause-acts
returns-in-Ok-clause-acts g c =
    acted-file (asked c.args.request) (named c.args.text) c.args.bytes.now
    (sunk g.O.Sink c.args.out.now c.act_with-ending.new.out) (file_tree c.in-Ok.file) c.act_with-ending.result
    c.in-Ok.ensures.found c.in-Ok.ensures.only c.in-Ok.ensures.only_fault c.act_with-ending.ensures

pub returns-in-Ok-clause-used : goal.returns-in-Ok-clause-used
returns-in-Ok-clause-used g c =
    (acts-apart (asked c.args.request) (named c.args.text) c.args.bytes.now _ _ (returns-in-Ok-clause-acts g c)).0

pub returns-in-Ok-clause-read : goal.returns-in-Ok-clause-read
returns-in-Ok-clause-read g c =
    (acts-apart (asked c.args.request) (named c.args.text) c.args.bytes.now _ _ (returns-in-Ok-clause-acts g c)).1

pub returns-in-Err-Text-clause-acts : goal.returns-in-Err-Text-clause-acts
returns-in-Err-Text-clause-acts g c =
    let out = sunk g.O.Sink c.args.out.now c.args.out.now in
    let IsOne = IsOutcomeOver (asked c.args.request) (named c.args.text) c.args.bytes.now in
    subst (λ f. ActsAs IsOne out (ending.Told (told.BadText c.args.request.file f))) (sym c.in-Err-Text.fault-is)
    (acted-text_fault (asked c.args.request) (named c.args.text) c.args.bytes.now out c.in-Err-Text.fault
    c.args.request.file (rw c.in-Err-Text.field-0-is at c.in-Err-Text.ensures.fault)
    (rw c.in-Err-Text.field-0-is at c.in-Err-Text.ensures.only_fault)
    (rw c.in-Err-Text.field-0-is at c.in-Err-Text.ensures.only) refl refl refl)

pub returns-in-Err-Memory-clause-acts : goal.returns-in-Err-Memory-clause-acts
returns-in-Err-Memory-clause-acts g c =
    acted-nothing (IsOutcomeOver (asked c.args.request) (named c.args.text) c.args.bytes.now)
    (sunk g.O.Sink c.args.out.now c.args.out.now) refl
