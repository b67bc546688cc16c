use Rattle.mp_words.specs.Words.{request_of}
use Rattle.mp_command.proofs.SomeOutcome.{outcome-there}
use Rattle.mp_command.proofs.laws.there_is_an_outcome.Goals as goal

pub returns : goal.returns
returns c = λ words files. outcome-there c.a_text_is_a_program_or_has_a_fault.ensures files (request_of words)
