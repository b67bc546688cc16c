use Rattle.mp_theory.proofs.Narrow.{load-onward, load-wildcard}
use Rattle.mp_theory.proofs.laws.less_is_left_behind_an_entry.Goals as goal

pub returns-clause-falls : goal.returns-clause-falls
returns-clause-falls c = load-onward

pub returns-clause-wildcard : goal.returns-clause-wildcard
returns-clause-wildcard c = load-wildcard
