use Rattle.mp_round_trip.proofs.AloneAgain.{template-readable, template-again}
use Rattle.mp_round_trip.proofs.alone.printed_template_is_read.Goals as goal

pub returns-clause-readable : goal.returns-clause-readable
returns-clause-readable c sig p x h formed r = template-readable sig h p formed x r

pub returns-clause-read : goal.returns-clause-read
returns-clause-read c sig p bytes x h formed b = template-again sig h p formed bytes x b
