use Rattle.mp_rewrite.proofs.Steps.{IsRewritable-step}
use Rattle.mp_rewrite.proofs.laws.steps_keep_terms_rewritable.Goals as goal

pub returns : goal.returns
returns c = λ sig rules t u signature sound rewritable. IsRewritable-step sig rules signature sound t rewritable u
