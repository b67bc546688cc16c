use Rattle.std.proofs.Common.{◌≡◌, sym, ◌∙◌}
use Rattle.std.specs.Prelude.{Some}
use Rattle.mp_theory.proofs.FitsSolves.{fits-solves}
use Rattle.mp_theory.proofs.TrailLaws.{fits-fitted}
use Rattle.mp_theory.proofs.laws.a_table_decides_its_substitution.Goals as goal

pub returns-clause-unique : goal.returns-clause-unique
returns-clause-unique c = λ sig p t T r s normal h k.
    let q : Some r ≡ Some s = sym (fits-solves sig p t r T normal h).1 ∙ (fits-solves sig p t s T normal k).1 in
    cc

pub returns-clause-found : goal.returns-clause-found
returns-clause-found c = λ sig p t s T normal. fits-fitted sig p t s T normal
