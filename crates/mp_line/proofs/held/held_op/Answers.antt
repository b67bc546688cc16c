use Rattle.mp_term.specs.declared.term.OpId.{OpId}
use Rattle.mp_line.proofs.HeldLaws.{Finds-op}
use Rattle.mp_line.proofs.held.held_op.Goals as goal

pub returns : goal.returns
returns c = Finds-op (λ (id : OpId). id.0) c.args.sig.now c.args.name.now c.find_op.result
    c.signature_is_valid.ensures.ops_distinct c.find_op.ensures
