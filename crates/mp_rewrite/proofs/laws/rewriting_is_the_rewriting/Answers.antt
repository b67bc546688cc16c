use Rattle.mp_rewrite.proofs.Steps.{IsRewriting-rewriting}
use Rattle.mp_rewrite.proofs.laws.rewriting_is_the_rewriting.Goals as goal

pub returns : goal.returns
returns c = λ sig rules limit t result signature sound rewritable.
    IsRewriting-rewriting sig rules signature sound limit t rewritable result
