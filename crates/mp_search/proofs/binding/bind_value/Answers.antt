use Rattle.mp_subst.specs.Bound.{bound_of, value_in}
use Rattle.mp_search.proofs.BindLaws.{bind-outcome}
use Rattle.mp_search.proofs.OnlyLaws.{only-bound}
use Rattle.mp_search.proofs.binding.bind_value.Goals as goal

pub returns-clause-bound : goal.returns-clause-bound
returns-clause-bound c x n =
    bind-outcome c.args.query.now c.args.trail.now c.bind.new.self c.args.var
    (value_in c.args.query.now.table.now (bound_of c.args.bound.now)) c.bind.result c.bind.ensures.bound
    c.bind.ensures.clash x n

pub returns-clause-only : goal.returns-clause-only
returns-clause-only c i =
    only-bound c.args.query.now.vars.now c.args.query.now.table.now c.args.trail.now c.bind.new.self c.args.var
    (value_in c.args.query.now.table.now (bound_of c.args.bound.now)) c.bind.result c.bind.ensures.bound
    c.bind.ensures.refused i
