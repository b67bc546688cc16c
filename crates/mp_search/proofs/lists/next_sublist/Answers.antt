use Rattle.std.proofs.Common.{◌≡◌, ◌+◌, ◌++◌, ◌-◌, length, take, drop, sym, ap, ◌∙◌, subst, arith}
use Rattle.mp_table.specs.Table.{rank_cmp}
use Rattle.mp_search.specs.Sublists.{IsNextSublist, IsStuck, Rises}
use Rattle.mp_search.proofs.RankOrder.{ascending-ranks}
use Rattle.mp_search.proofs.Sublists.{last-stuck, last-whole, next-rises}
use Rattle.mp_search.proofs.lists.next_sublist.Goals as goal
use Rattle.mp_subst.proofs.RankLists.{rank_same, rank_cmp_total}

pub returns-then-len-pool-clause-list : goal.returns-then-len-pool-clause-list
returns-then-len-pool-clause-list c =
    last-whole rank_cmp rank_cmp_total rank_same c.args.pool.now c.args.list.now.items.items c.requires.sublist
    (omega (arith, c.len.ensures, c.if-len-pool.true))

pub returns-in-None-clause-list : goal.returns-in-None-clause-list
returns-in-None-clause-list c =
    let pool = c.args.pool.now in
    let l = c.args.list.now.items.items in
    last-stuck rank_cmp rank_cmp_total rank_same pool l (ascending-ranks pool c.requires.pool)
    (subst (IsStuck rank_cmp pool) c.as_slice.ensures c.in-None.ensures)

pub returns-in-Some-clause-list : goal.returns-in-Some-clause-list
returns-in-Some-clause-list c =
    let pool = c.args.pool.now in
    let l = c.args.list.now.items.items in
    let i = c.in-Some.i in
    let j = c.in-Some.j in
    let next = next-rises rank_cmp rank_cmp_total rank_same pool l i j (ascending-ranks pool c.requires.pool)
    c.requires.sublist (subst (λ m. Rises rank_cmp pool m i j) c.as_slice.ensures c.in-Some.ensures) in
    let count : (j + (c.len-in-Some.result - i)) - j ≡ length l - i = omega (arith, c.len-in-Some.ensures) in
    subst (IsNextSublist rank_cmp pool l)
    (sym (c.append.ensures.items
    ∙ ap (λ ys. ys ++ take ((j + (c.len-in-Some.result - i)) - j) (drop j pool)) c.truncate.ensures.items
    ∙ ap (λ n. take i l ++ take n (drop j pool)) count)) next
