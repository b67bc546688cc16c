use Rattle.std.proofs.Common.{◌∙◌, sym}
use Rattle.mp_term.specs.OrderLaws.{app_cmp-same_head}
use Rattle.mp_table.specs.Table.{terms_at}
use Rattle.mp_walk.proofs.rank_order.compare_apps.Goals as goal

pub returns : goal.returns
returns c = c.compare_lists.ensures
    ∙ sym (app_cmp-same_head c.args.f.0 c.args.g.0 (terms_at c.args.table.now c.args.ranks.now)
    (terms_at c.args.beside.now c.args.others.now) c.if-f-g.false)
