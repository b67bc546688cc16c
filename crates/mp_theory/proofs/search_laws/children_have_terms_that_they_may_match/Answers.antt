use Rattle.mp_theory.proofs.Matching.{matched}
use Rattle.mp_theory.proofs.SupplyLaws.{supply-behind}
use Rattle.mp_theory.proofs.search_laws.children_have_terms_that_they_may_match.Goals as goal

pub returns-clause-own : goal.returns-clause-own
returns-clause-own c = matched

pub returns-clause-later : goal.returns-clause-later
returns-clause-later c = supply-behind
