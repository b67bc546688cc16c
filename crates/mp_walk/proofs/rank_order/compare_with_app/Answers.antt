use Rattle.std.proofs.Common.{◌∙◌, ap}
use Rattle.mp_term.specs.Order.{tree_cmp}
use Rattle.mp_table.specs.Table.{term_at, terms_at}
use Rattle.mp_table.proofs.HeadLaws.{app_is}
use Rattle.mp_cond.specs.Ranked.{app_at}
use Rattle.mp_walk.proofs.rank_order.compare_with_app.Goals as goal

pub returns-in-App : goal.returns-in-App
returns-in-App c =
    let t = c.args.table.now in
    c.compare_apps.ensures
    ∙ ap (λ u. tree_cmp u (app_at c.args.beside.now c.args.g c.args.others.now)) (app_is (term_at t c.args.rank)
    c.in-App.f (terms_at t c.args-in-App.result.now) c.in-App.ensures c.args-in-App.ensures.terms)
