use Rattle.std.proofs.Common.{true, false, subst}
use Rattle.mp_table.specs.Table.{rank_cmp}
use Rattle.mp_search.specs.Levels.{IsDrawable}
use Rattle.mp_search.proofs.DrawnLaws.{first-moved}
use Rattle.mp_search.proofs.RankOrder.{ascending-ranks}
use Rattle.mp_search.proofs.level.Level.first_list.Goals as goal
use Rattle.mp_subst.proofs.RankLists.{rank_same, rank_cmp_total}

pub returns-in-Front-clause-list : goal.returns-in-Front-clause-list
returns-in-Front-clause-list c =
    rw c.in-Front.is (first-moved rank_cmp rank_cmp_total rank_same false c.move_to_front.result c.in-Front.least
    c.in-Front.most c.args.left.now c.move_to_front.new.list.items.items tt c.move_to_front.ensures.list)

pub returns-in-Bag-clause-list : goal.returns-in-Bag-clause-list
returns-in-Bag-clause-list c =
    let pool = c.args.self.now.pool.items.items in
    let up = ascending-ranks pool (subst (λ s. IsDrawable s pool) c.in-Bag.is c.requires.pool.1) in
    rw c.in-Bag.is (first-moved rank_cmp rank_cmp_total rank_same true c.move_to_front-in-Bag.result c.in-Bag.least
    c.in-Bag.most pool c.move_to_front-in-Bag.new.list.items.items up
    (rw c.as_slice.ensures at c.move_to_front-in-Bag.ensures.list))
