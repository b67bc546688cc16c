use Rattle.std.proofs.Common.{◌∙◌, ap, subst, Bool}
use Rattle.std.specs.Prelude.{Err, Result}
use Rattle.mp_matches.specs.Left.{printed}
use Rattle.mp_matches.specs.Printed.{PrintsMatches}
use Rattle.mp_matches.specs.declared.stop.Stop.{Stop}
use Rattle.mp_matches.proofs.AnswerLaws.{answers-More}
use Rattle.mp_matches.proofs.list.answer.Goals as goal

pub returns-in-Err-More-clause-lists : goal.returns-in-Err-More-clause-lists
returns-in-Err-More-clause-lists c sig before after ms out h =
    answers-More sig before after ms out
    (subst (λ (r : Result Bool Stop). PrintsMatches (printed sig before ms) out after r)
    (c.in-Err-More.is ∙ ap Err (rw c.in-Err-More.is at c.in-Err-More.field-0-is)) h)
