use Rattle.mp_syntax.proofs.Cases.{parts-begin, first-begins, behind-begins}
use Rattle.mp_syntax.proofs.laws.fronts_of_parts.Goals as goal

pub returns-clause-cases : goal.returns-clause-cases
returns-clause-cases c = parts-begin

pub returns-clause-first : goal.returns-clause-first
returns-clause-first c = first-begins

pub returns-clause-behind : goal.returns-clause-behind
returns-clause-behind c = behind-begins
