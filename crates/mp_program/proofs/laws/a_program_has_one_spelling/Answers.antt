use Rattle.std.proofs.Common.{subst}
use Rattle.mp_program.specs.Reading.{IsProgramOf}
use Rattle.mp_program.proofs.OneSpelling.{one-spelling}
use Rattle.mp_program.proofs.laws.a_program_has_one_spelling.Goals as goal

pub returns-clause-only : goal.returns-clause-only
returns-clause-only c = one-spelling

pub returns-clause-again : goal.returns-clause-again
returns-clause-again c = λ sig bytes p h two. subst (λ t. IsProgramOf sig t p) (one-spelling sig bytes p h two) h
