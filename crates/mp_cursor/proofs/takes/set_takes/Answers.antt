use Rattle.std.proofs.Common.{rules}
use Rattle.mp_cursor.proofs.takes.set_takes.Goals as goal

pub returns-clause-levels : goal.returns-clause-levels
returns-clause-levels c = λ width a. c.put_takes.ensures.levels c.args.table.now width a
    (c.may_take.ensures.0 (search (rules, c.if-not-may_take.false))).1
