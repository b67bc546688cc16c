use Rattle.mp_search.proofs.NumberedLaws.{number-found, number-none}
use Rattle.mp_search.proofs.variable.number_at.Goals as goal

pub bounds-query-number : goal.bounds-query-number
bounds-query-number c =
    (number-found c.args.query.now c.requires.query c.args.node c.in-Some.number _ _ c.requires.child
    c.variable_at.ensures c.in-Some.is).0

pub returns-in-Some : goal.returns-in-Some
returns-in-Some c = (number-found c.args.query.now c.requires.query c.args.node c.in-Some.number _ _ c.requires.child
    c.variable_at.ensures c.in-Some.is).1

pub returns-in-None : goal.returns-in-None
returns-in-None c = number-none c.args.query.now c.requires.query c.args.node _ _ c.requires.child
    c.variable_at.ensures c.in-None.is
