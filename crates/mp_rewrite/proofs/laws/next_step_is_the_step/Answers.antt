use Rattle.mp_rewrite.proofs.Steps.{IsStep-next_step, IsDead-next_step}
use Rattle.mp_rewrite.proofs.laws.next_step_is_the_step.Goals as goal

pub returns : goal.returns
returns c = record {
  step = λ sig rules t result signature sound rewritable.
      IsStep-next_step sig rules signature sound t rewritable result;
  dead = λ sig rules t signature sound rewritable. IsDead-next_step sig rules signature sound t rewritable;
}
