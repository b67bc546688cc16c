use Rattle.mp_round_trip.proofs.AloneAgain.{condition-readable, readable-cond, cond-again}
use Rattle.mp_round_trip.proofs.AloneAgain.{rule_condition-again}
use Rattle.mp_round_trip.proofs.alone.printed_condition_is_read.Goals as goal

pub returns-clause-readable : goal.returns-clause-readable
returns-clause-readable c sig scope d h r = condition-readable sig h scope d r

pub returns-clause-read : goal.returns-clause-read
returns-clause-read c sig scope bytes d h b = cond-again sig h scope bytes d b

pub returns-clause-passes : goal.returns-clause-passes
returns-clause-passes c sig scope bytes d h b = readable-cond sig h scope bytes d b

pub returns-clause-rule : goal.returns-clause-rule
returns-clause-rule c sig p d h formed sound shallow = rule_condition-again sig h p d formed sound shallow
