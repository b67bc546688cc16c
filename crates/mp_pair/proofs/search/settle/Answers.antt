use Rattle.std.proofs.Common.{◌<◌, ◌-◌, ◌+◌, arith, subst, sym, length, take}
use Rattle.mp_pair.specs.Bipartite.{lists}
use Rattle.mp_pair.proofs.Lists.{length-lists}
use Rattle.mp_pair.proofs.SearchLaws.{Stands, places_left, stands-start, stands-push, push-falls, stands-back}
use Rattle.mp_pair.proofs.SearchLaws.{back-falls, stands-none, stands-found}
use Rattle.mp_pair.proofs.search.settle.Goals as goal

pub loop-count-init : goal.loop-count-init
loop-count-init c = stands-start c.args.capacities.now
    (lists c.args.left.now) c.args.choice.now c.args.count c.args.bound c.requires.within c.requires.begun
    c.requires.front

pub loop-count-preserved-in-Some : goal.loop-count-preserved-in-Some
loop-count-preserved-in-Some c =
    stands-push c.args.capacities.now (lists c.args.left.now)
    (take c.args.count c.args.choice.now) c.args.bound c.loop-count.choice c.loop-count.count c.loop-count.bound
    c.in-Some.class
    (omega (arith, length-lists c.args.left.now)) (omega arith) c.loop-count.invariant c.in-Some.ensures

pub loop-count-smaller-in-Some : goal.loop-count-smaller-in-Some
loop-count-smaller-in-Some c =
    push-falls c.args.capacities.now (lists c.args.left.now)
    (take c.args.count c.args.choice.now) c.args.bound c.loop-count.choice c.loop-count.count c.loop-count.bound
    c.in-Some.class
    (omega (arith, length-lists c.args.left.now))
    (omega arith) c.loop-count.invariant c.in-Some.ensures.from (loop-count-preserved-in-Some c)

pub returns-then-count-eq0 : goal.returns-then-count-eq0
returns-then-count-eq0 c =
    stands-none c.args.capacities.now (lists c.args.left.now)
    (take c.args.count c.args.choice.now) c.args.bound c.loop-count.choice c.loop-count.count c.loop-count.bound
    (omega (arith, length-lists c.args.left.now))
    (omega arith) c.if-count-eq0.true c.loop-count.invariant c.in-None.ensures

pub loop-count-preserved : goal.loop-count-preserved
loop-count-preserved c =
    subst (λ b. Stands c.args.capacities.now (lists c.args.left.now)
    (take c.args.count c.args.choice.now) c.args.bound c.loop-count.choice (c.loop-count.count - 1) (b + 1))
    (sym c.from-bound.ensures)
    (stands-back c.args.capacities.now (lists c.args.left.now)
    (take c.args.count c.args.choice.now) c.args.bound c.loop-count.choice c.loop-count.count
    (c.loop-count.count - 1) c.loop-count.bound
    (omega (arith, length-lists c.args.left.now)) (omega arith) (omega arith) c.loop-count.invariant c.in-None.ensures)

pub loop-count-smaller : goal.loop-count-smaller
loop-count-smaller c =
    subst (λ b. places_left (length c.args.capacities.now) (length (lists c.args.left.now))
    (take (c.loop-count.count - 1) c.loop-count.choice) (b + 1) <
    places_left (length c.args.capacities.now) (length (lists c.args.left.now))
    (take c.loop-count.count c.loop-count.choice) c.loop-count.bound) (sym c.from-bound.ensures)
    (back-falls c.args.capacities.now (lists c.args.left.now)
    (take c.args.count c.args.choice.now) c.args.bound c.loop-count.choice c.loop-count.count
    (c.loop-count.count - 1) c.loop-count.bound
    (omega (arith, length-lists c.args.left.now)) (omega arith) (omega arith) c.loop-count.invariant)

pub returns : goal.returns
returns c = stands-found c.args.capacities.now (lists c.args.left.now)
    (take c.args.count c.args.choice.now) c.args.bound c.loop-count.choice c.loop-count.count c.loop-count.bound
    (omega (arith, length-lists c.args.left.now)) (omega arith) c.loop-count.invariant
