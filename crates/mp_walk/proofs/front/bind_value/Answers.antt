use Rattle.mp_subst.specs.Bound.{bound_of, value_in}
use Rattle.mp_ac.proofs.NumberedLaws.{bind-numbered}
use Rattle.mp_walk.proofs.front.bind_value.Goals as goal

pub returns-clause-bound : goal.returns-clause-bound
returns-clause-bound c =
    bind-numbered c.args.table.now c.args.trail.now c.bind.new.self c.args.var
    (value_in c.args.table.now (bound_of c.args.bound.now)) c.requires.var c.bind.result c.bind.ensures.bound
    c.bind.ensures.clash
