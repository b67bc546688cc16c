use Rattle.std.proofs.Common.{sym, ◌∙◌}
use Rattle.mp_search.proofs.FirstPlace.{missing-left}
use Rattle.mp_search.proofs.lists.take_one_out.Goals as goal

pub returns-in-None-clause-list : goal.returns-in-None-clause-list
returns-in-None-clause-list c =
    c.refill.ensures.items ∙ sym (missing-left c.args.rank c.args.items.now c.in-None.ensures)
