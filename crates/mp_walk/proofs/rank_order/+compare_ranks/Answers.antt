use Rattle.std.proofs.Common.{◌∙◌, ◌<◌, length, sym, ap, arith}
use Rattle.std.proofs.lemmas.List.Elements.{All-from_recursion}
use Rattle.mp_term.specs.Order.{tree_cmp}
use Rattle.mp_term.specs.OrderLaws.{app_cmp-same_head}
use Rattle.mp_term.specs.Size.{all_nodes}
use Rattle.mp_term.specs.Tree.{app, trees}
use Rattle.mp_term.proofs.SizeLaws.{node_count-element}
use Rattle.mp_table.specs.Table.{term_at, terms_at, HasRank}
use Rattle.mp_table.proofs.HeadLaws.{app_is}
use Rattle.mp_table.proofs.PreorderLaws.{node_count_is}
use Rattle.mp_walk.proofs.rank_order.+compare_ranks.Goals as goal

pub compare_ranks-compare_lists-requires : goal.compare_ranks-compare_lists-requires
compare_ranks-compare_lists-requires t c =
    let own = node_count_is (term_at c.args.table.now c.args.rank) in (
      omega (arith, c.decreases, own, ap all_nodes c.args-in-App-App.ensures.terms),
      (c.args-in-App-App.ensures.within, c.args-in-App-App-2.ensures.within),
    )

pub compare_ranks-returns-else-f-g : goal.compare_ranks-returns-else-f-g
compare_ranks-returns-else-f-g t c =
    let T = c.args.table.now in
    let B = c.args.beside.now in
    let f = c.in-App-App.f in
    let g = c.in-App-App.g in
    let xs = terms_at T c.args-in-App-App.result.now in
    let ys = terms_at B c.args-in-App-App-2.result.now in
    let x = app_is (term_at T c.args.rank) f xs c.in-App-App.ensures c.args-in-App-App.ensures.terms in
    let y = app_is (term_at B c.args.other) g ys c.in-App-App.ensures' c.args-in-App-App-2.ensures.terms in
    c.compare_lists.ensures ∙ sym (app_cmp-same_head f.0 g.0 xs ys c.if-f-g.false)
    ∙ ap (λ u. tree_cmp u (app g.0 (trees ys))) x ∙ ap (tree_cmp (term_at T c.args.rank)) y

pub compare_lists-compare_ranks-order-requires : goal.compare_lists-compare_ranks-order-requires
compare_lists-compare_ranks-order-requires t c =
    let T = c.args.table.now in
    let rs = c.args.ranks.now in
    let os = c.args.others.now in
    let i = c.loop-i.i in
    let beside : i < length os = omega (arith, c.loop-i-test.true, c.if-ranks-others.false) in
    let small = node_count-element (term_at T) rs i (record { 0 = 0 }) c.loop-i-test.true in (
      omega (arith, c.decreases, small),
      (
        All-from_recursion (HasRank T) rs c.requires.ranks i _ c.loop-i-test.true,
        All-from_recursion (HasRank c.args.beside.now) os c.requires.others i _ beside,
      ),
    )
