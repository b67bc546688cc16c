use Rattle.std.proofs.Common.{◌-◌, ◌++◌, length, drop, sym, ap, ◌∙◌, append-nil, length-drop, arith}
use Rattle.std.proofs.lemmas.List.{take_all}
use Rattle.std.proofs.Math.ListN.{drop_of_length-le}
use Rattle.mp_table.specs.Table.{rank_cmp}
use Rattle.mp_search.proofs.PieceLaws.{length-prefix, without-prefix}
use Rattle.mp_search.proofs.RankOrder.{without-nothing}
use Rattle.mp_search.proofs.lists.take_out.Goals as goal

pub returns-clause-list : goal.returns-clause-list
returns-clause-list c =
    let zs = c.loop-item.list.items.items in
    let l = drop c.loop-item.taken c.args.ranks.now in
    sym (rw (drop_of_length-le c.args.items.now {i = c.loop-item.item-index} c.loop-item-test.false)
    (ap (λ ys. zs ++ ys) (without-nothing l) ∙ append-nil zs)) ∙ c.loop-item.invariant.rest

pub slice_bounds-refill-count : goal.slice_bounds-refill-count
slice_bounds-refill-count c = omega (
  arith,
  length-prefix rank_cmp c.args.ranks.now c.args.items.now (sym c.is_prefix.ensures ∙ c.if-is_prefix.true),
)

pub slice_bounds-refill-start : goal.slice_bounds-refill-start
slice_bounds-refill-start c = omega (
  arith,
  length-prefix rank_cmp c.args.ranks.now c.args.items.now (sym c.is_prefix.ensures ∙ c.if-is_prefix.true),
)

pub returns-then-is_prefix-clause-list : goal.returns-then-is_prefix-clause-list
returns-then-is_prefix-clause-list c =
    let l = c.args.ranks.now in
    let xs = c.args.items.now in
    c.refill.ensures.items
    ∙ take_all (length xs - length l) (drop (length l) xs) (omega (arith, length-drop (length l) xs))
    ∙ sym (without-prefix rank_cmp l xs (sym c.is_prefix.ensures ∙ c.if-is_prefix.true))
