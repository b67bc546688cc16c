use Rattle.mp_term.specs.declared.signature.KindId.{KindId}
use Rattle.mp_line.proofs.HeldLaws.{Finds-kind}
use Rattle.mp_line.proofs.held.held_kind.Goals as goal

pub returns : goal.returns
returns c = Finds-kind (λ (id : KindId). id.0) c.args.sig.now c.args.name.now c.find_kind.result
    c.signature_is_valid.ensures.kinds_distinct c.find_kind.ensures
