use Rattle.std.proofs.Common.{ap, ◌∙◌}
use Rattle.std.specs.Prelude.{Err}
use Rattle.mp_line.proofs.NameLaws.{name-found, name-none}
use Rattle.mp_line.proofs.names.name.Goals as goal

pub returns-in-Ok : goal.returns-in-Ok
returns-in-Ok c = name-found c.args.word.now c.in-Ok.name c.in-Ok.ensures.ok
    (λ e. (let wrong = c.in-Ok.ensures.spelling.1 e in cc))

pub returns-in-Err-Spelling : goal.returns-in-Err-Spelling
returns-in-Err-Spelling c = name-none c.args.word.now
    (c.new.ensures.spelling.0 (c.in-Err-Spelling.is ∙ ap Err c.in-Err-Spelling.field-0-is))
