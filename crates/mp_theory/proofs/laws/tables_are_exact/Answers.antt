use Rattle.mp_theory.proofs.FitsSolves.{fits-solves}
use Rattle.mp_theory.proofs.Tables.{tables-exact, tables-ascending}
use Rattle.mp_theory.proofs.laws.tables_are_exact.Goals as goal

pub returns-clause-complete : goal.returns-clause-complete
returns-clause-complete c = λ sig p t s T normal h. (tables-exact sig p t T).1 (fits-solves sig p t s T normal h).0

pub returns-clause-exact : goal.returns-clause-exact
returns-clause-exact c = tables-exact

pub returns-clause-ascending : goal.returns-clause-ascending
returns-clause-ascending c = tables-ascending
