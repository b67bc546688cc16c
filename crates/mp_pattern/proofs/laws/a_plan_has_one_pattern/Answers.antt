use Rattle.std.proofs.Common.{◌∙◌, ap, sym}
use Rattle.mp_pattern.specs.Plan.{Plan}
use Rattle.mp_pattern.proofs.laws.a_plan_has_one_pattern.Goals as goal

pub returns : goal.returns
returns c = λ sig other p q plan h k. ap (λ (l : Plan). l.pattern) (sym h ∙ k)
