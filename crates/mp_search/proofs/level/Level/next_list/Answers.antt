use Rattle.std.proofs.Common.{◌≡◌, true, false, subst, ◌∙◌, sym, arith}
use Rattle.mp_table.specs.Table.{rank_cmp}
use Rattle.mp_search.specs.Levels.{IsDrawable}
use Rattle.mp_search.specs.Sublists.{IsLastSublist}
use Rattle.mp_search.proofs.DrawnLaws as laws
use Rattle.mp_search.proofs.RankOrder.{ascending-ranks}
use Rattle.mp_search.proofs.level.Level.next_list.Goals as goal
use Rattle.mp_search.proofs.level.Level.next_list.Goals.{then-not-whole-via-then-not-whole}
use Rattle.mp_search.proofs.level.Level.next_list.Goals.{then-not-whole-via-else-not-whole+then-len-longer}
use Rattle.mp_subst.proofs.RankLists.{rank_same, rank_cmp_total}

pub lengthen_front-requires-clause-front : goal.lengthen_front-requires-clause-front
lengthen_front-requires-clause-front c =
    laws.front_drawn rank_cmp rank_cmp_total rank_same c.in-Front.field-0 c.in-Front.most
    c.args.self.now.take.items.items
    c.args.left.now (rw c.in-Front.is at c.requires.drawn)

pub next_sublist-requires-clause-sublist : goal.next_sublist-requires-clause-sublist
next_sublist-requires-clause-sublist c =
    let w = c.args.self.now.take.items.items in
    let pool = c.args.self.now.pool.items.items in
    rw c.as_slice.ensures
    ((laws.among-exact rank_cmp rank_cmp_total rank_same true c.in-Bag.field-0 c.in-Bag.most w pool).0
    (rw c.in-Bag.is at c.requires.drawn)).2

pub returns-in-Front-clause-list : goal.returns-in-Front-clause-list
returns-in-Front-clause-list c =
    let w = c.args.self.now.take.items.items in
    let left = c.args.left.now in
    let there = rw c.in-Front.is at c.requires.drawn in
    let last = laws.last_front rank_cmp rank_cmp_total rank_same w left
    (laws.front_drawn rank_cmp rank_cmp_total rank_same c.in-Front.field-0 c.in-Front.most w left there) in
    rw c.in-Front.is (laws.next-moved rank_cmp rank_cmp_total rank_same false c.lengthen_front.result c.in-Front.field-0
    c.in-Front.most w left c.lengthen_front.new.list.items.items tt there last c.lengthen_front.ensures.list)

pub returns-then-next_sublist-clause-list : goal.returns-then-next_sublist-clause-list
returns-then-next_sublist-clause-list c =
    let w = c.args.self.now.take.items.items in
    let pool = c.args.self.now.pool.items.items in
    rw (c.if-next_sublist.true, c.in-Bag.is) (laws.next_sublist rank_cmp rank_cmp_total rank_same c.in-Bag.field-0
    c.in-Bag.most w pool c.next_sublist.new.list.items.items (rw c.in-Bag.is at c.requires.drawn)
    (rw c.as_slice.ensures at c.if-next_sublist.ensures.list))

pub returns-else-next_sublist-clause-list : goal.returns-else-next_sublist-clause-list
returns-else-next_sublist-clause-list c =
    let w = c.args.self.now.take.items.items in
    let pool = c.args.self.now.pool.items.items in
    let up = ascending-ranks pool (subst (λ s. IsDrawable s pool) c.in-Bag.is c.requires.pool.1) in
    let last = laws.last_sublist rank_cmp rank_cmp_total rank_same w pool
    (subst (λ us. IsLastSublist rank_cmp us w) c.as_slice.ensures c.if-next_sublist.ensures.list) in
    rw c.in-Bag.is (laws.next-moved rank_cmp rank_cmp_total rank_same true c.move_to_front.result c.in-Bag.field-0
    c.in-Bag.most w pool c.move_to_front.new.list.items.items up (rw c.in-Bag.is at c.requires.drawn) last
    (rw (c.as_slice-else-next_sublist.ensures, c.len-longer.ensures) at c.move_to_front.ensures.list))

pub returns-then-not-whole-clause-list : goal.returns-then-not-whole-clause-list
returns-then-not-whole-clause-list c =
    let w = c.args.self.now.take.items.items in
    let pool = c.args.self.now.pool.items.items in
    rw c.in-Whole.is (laws.no-whole rank_cmp rank_cmp_total rank_same c.in-Whole.field-0 c.in-Whole.whole pool
    c.args.left.now w (rw c.in-Whole.is at c.requires.drawn) (λ t. elim c.then-not-whole.branch [
      | then-not-whole-via-then-not-whole v ↦ let wrong : true ≡ false = sym t ∙ v.if-not-whole.true in cc
      | then-not-whole-via-else-not-whole+then-len-longer v ↦
          omega (arith, v.if-len-longer.true, v.len.ensures, c.len-longer.ensures)
    ]))
