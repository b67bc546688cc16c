use Rattle.std.proofs.Common.{◌∙◌, ap}
use Rattle.mp_term.specs.Order.{tree_cmp}
use Rattle.mp_table.specs.Table.{term_at, terms_at}
use Rattle.mp_table.proofs.HeadLaws.{app_is}
use Rattle.mp_cond.specs.Ranked.{app_at}
use Rattle.mp_walk.proofs.rank_order.compare_app_with.Goals as goal

pub returns-in-App : goal.returns-in-App
returns-in-App c =
    let t = c.args.beside.now in
    c.compare_apps.ensures
    ∙ ap (tree_cmp (app_at c.args.table.now c.args.f c.args.ranks.now)) (app_is (term_at t c.args.other)
    c.in-App.g (terms_at t c.args-in-App.result.now) c.in-App.ensures c.args-in-App.ensures.terms)
