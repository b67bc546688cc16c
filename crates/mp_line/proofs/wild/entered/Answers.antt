use Rattle.std.specs.Prelude.{Some, None}
use Rattle.mp_term.specs.declared.term.OpId.{OpId}
use Rattle.mp_line.proofs.TokenLaws.{enter-through}
use Rattle.mp_line.proofs.wild.entered.Goals as goal

pub returns-in-Some : goal.returns-in-Some
returns-in-Some c = λ format.
    enter-through c.args.sig.now format (λ (id : OpId). id.0) c.args.name.now (Some c.in-Some.op) c.in-Some.ensures

pub returns-in-None : goal.returns-in-None
returns-in-None c = λ format.
    enter-through c.args.sig.now format (λ (id : OpId). id.0) c.args.name.now None c.in-None.ensures
