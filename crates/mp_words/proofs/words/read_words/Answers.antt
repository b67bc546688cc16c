use Rattle.std.proofs.Common.{◌∙◌}
use Rattle.clap.specs.Words.{app_of}
use Rattle.mp_words.proofs.Command.{request_at-taken, request_of-refused}
use Rattle.mp_words.proofs.words.read_words.Goals as goal

pub returns-in-Ok : goal.returns-in-Ok
returns-in-Ok c = c.request_in.ensures ∙ request_at-taken (app_of c.in_ok-command.command) _ c.in-Ok.matches
    c.in_ok-command.ensures c.in-Ok.ensures.kinds c.in-Ok.ensures.matches

pub returns : goal.returns
returns c = request_of-refused (app_of c.in_ok-command.command) _ c.in-Err.error c.in_ok-command.ensures
    c.in-Err.ensures.kinds (λ e. c.in_default.not-OutOfMemory (c.kind.ensures ∙ e))
