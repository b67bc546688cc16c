use Rattle.mp_round_trip.proofs.AloneAgain.{pattern-readable, pattern-again}
use Rattle.mp_round_trip.proofs.alone.printed_pattern_is_read.Goals as goal

pub returns-clause-readable : goal.returns-clause-readable
returns-clause-readable c sig p h r = pattern-readable sig h p r

pub returns-clause-read : goal.returns-clause-read
returns-clause-read c sig bytes p h b = pattern-again sig h bytes p b
