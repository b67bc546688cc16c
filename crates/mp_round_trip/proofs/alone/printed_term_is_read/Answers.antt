use Rattle.mp_round_trip.proofs.AloneAgain.{term-readable, term-again}
use Rattle.mp_round_trip.proofs.alone.printed_term_is_read.Goals as goal

pub returns-clause-readable : goal.returns-clause-readable
returns-clause-readable c sig t h r = term-readable sig h t r

pub returns-clause-read : goal.returns-clause-read
returns-clause-read c sig bytes t h b = term-again sig h bytes t b
