use Rattle.std.proofs.Common.{◌∙◌, ap}
use Rattle.mp_term.specs.Order.{tree_cmp}
use Rattle.mp_term.specs.Tree.{app, trees}
use Rattle.mp_table.specs.Table.{term_at, terms_at}
use Rattle.mp_table.proofs.HeadLaws.{app_is}
use Rattle.mp_table.proofs.table.Table.compare_app.Goals as goal

pub returns-in-App : goal.returns-in-App
returns-in-App c =
    let t = c.args.self.now in
    c.compare_apps.ensures t c.len.ensures.valid c.args-in-App.ensures.within c.requires.ranks
    ∙ ap (λ u. tree_cmp u (app c.args.op.0 (trees (terms_at t c.args.ranks.now))))
    (app_is (term_at t c.args.rank) c.in-App.own (terms_at t c.args-in-App.result.now) c.in-App.ensures
    c.args-in-App.ensures.terms)
