use Rattle.std.proofs.Common.{◌∙◌, ap}
use Rattle.std.specs.Ordering.{is_gt}
use Rattle.mp_term.specs.OrderLaws.{tree_cmp_total}
use Rattle.mp_table.specs.Table.{term_at}
use Rattle.mp_cond.specs.Ranked.{app_at}
use Rattle.mp_cond.proofs.RankOrder.{is_gt-reverse}
use Rattle.mp_cond.proofs.RankedLaws.{comes_before-ranks}
use Rattle.mp_cond.proofs.ranked_atoms.comes_before.Goals as goal

pub returns-in-One-One : goal.returns-in-One-One
returns-in-One-One c =
    c.lt.ensures
    ∙ comes_before-ranks c.args.table.now c.requires.table c.args.a.now c.args.b.now c.in-One-One.rank
    c.in-One-One.other c.requires.first c.requires.second c.in-One-One.is-0 c.in-One-One.is-1

pub returns-in-Wrap-One : goal.returns-in-Wrap-One
returns-in-Wrap-One c =
    let t = c.args.table.now in
    let w = app_at t c.in-Wrap-One.op c.in-Wrap-One.ranks.now in
    let u = term_at t c.in-Wrap-One.rank in
    rw (c.in-Wrap-One.is-0, c.in-Wrap-One.is-1) (c.is_gt.ensures ∙ ap is_gt c.compare_app-in-Wrap-One.ensures
    ∙ is_gt-reverse _ _ (tree_cmp_total.antisymm w u))
