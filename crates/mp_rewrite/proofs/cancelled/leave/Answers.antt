use Rattle.mp_rewrite.proofs.cancelled.leave.Goals as goal

pub returns-in-Some-clause-nodes : goal.returns-in-Some-clause-nodes
returns-in-Some-clause-nodes c = λ rest e.
    c.take_out-in-Some.ensures.nodes rest (c.take_out-left.ensures.nodes rest e)
