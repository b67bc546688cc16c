use Rattle.mp_words.specs.Words.{request_of}
use Rattle.mp_command.proofs.OneOutcome.{outcome-single}
use Rattle.mp_command.proofs.laws.an_outcome_is_unique.Goals as goal

pub returns : goal.returns
returns c = λ words files.
    let one = c.a_text_is_one_program_at_most.ensures in
    outcome-single one.program one.faultless one.fault files (request_of words)
