use Rattle.std.proofs.Common.{arith, length, subst, sym, []}
use Rattle.std.specs.List.Sorted.{IsStrictlyIncreasing}
use Rattle.mp_pair.specs.Bipartite.{lists}
use Rattle.mp_pair.proofs.Lists.{length-lists, items_at}
use Rattle.mp_pair.proofs.NextLaws.{next-found, none-found}
use Rattle.mp_pair.proofs.search.next_class.Goals as goal

pub returns-then-leads_on : goal.returns-then-leads_on
returns-then-leads_on c =
    next-found c.args.capacities.now (lists c.args.left.now) c.args.chosen.now c.args.bound
    c.as_slice-classes.result.now
    (λ d. items_at c.args.left.now (length c.args.chosen.now) c.index-left-chosen.result c.as_slice-classes.result.now d
    c.requires.within c.index-left-chosen.is c.as_slice-classes.ensures.value)
    c.loop-class.class-index
    (subst IsStrictlyIncreasing (sym (items_at c.args.left.now
    (length c.args.chosen.now) c.index-left-chosen.result c.as_slice-classes.result.now [] c.requires.within
    c.index-left-chosen.is c.as_slice-classes.ensures.value))
    (c.requires.ascending (length c.args.chosen.now) []
    (omega (arith, length-lists c.args.left.now, c.requires.within))))
    (omega arith) (omega arith) c.if-leads_on.ensures c.loop-class.invariant

pub returns : goal.returns
returns c =
    none-found c.args.capacities.now (lists c.args.left.now) c.args.chosen.now c.args.bound
    c.as_slice-classes.result.now
    (λ d. items_at c.args.left.now (length c.args.chosen.now) c.index-left-chosen.result c.as_slice-classes.result.now d
    c.requires.within c.index-left-chosen.is c.as_slice-classes.ensures.value)
    c.loop-class.class-index (omega arith) c.loop-class.invariant
