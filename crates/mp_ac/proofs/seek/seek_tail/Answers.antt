use Rattle.std.proofs.Common.{◌≡◌, ◌≤◌, length, refl, sym, subst, arith}
use Rattle.std.specs.Prelude.{[], false, slice_set, true}
use Rattle.mp_search.specs.Levels.{IsOver, IsRoomy}
use Rattle.mp_ac.specs.Asked.{levels_table}
use Rattle.mp_ac.specs.Numbered.{numbered_subst}
use Rattle.mp_ac.specs.Seek.{IsFoundOf, items_sought}
use Rattle.mp_ac.specs.Star.{IsOfStar}
use Rattle.mp_subst.proofs.TrailLaws.{cut-whole}
use Rattle.mp_ac.proofs.SeekTail.{tail-finds, tail-spare, tail-standing, tail-trail}
use Rattle.mp_ac.proofs.StarLaws as laws
use Rattle.mp_ac.proofs.seek.seek_tail.Goals as goal

pub look-requires-clause-trail : goal.look-requires-clause-trail
look-requires-clause-trail c = tail-trail c.args.sought c.requires.sought c.args.left.now c.args.trail.now
    c.requires.trail c.requires.spare

pub look-requires-clause-standing : goal.look-requires-clause-standing
look-requires-clause-standing c = tail-standing c.args.sought c.requires.sought c.args.left.now c.args.trail.now
    c.args.mode (levels_table c.args.sought.asked c.args.levels.now) c.requires.standing

pub returns-then-asked-clause-found : goal.returns-then-asked-clause-found
returns-then-asked-clause-found c = tail-finds c.args.sought c.requires.sought c.args.left.now c.args.trail.now
    c.args.mode (levels_table c.args.sought.asked c.args.levels.now)
    (levels_table c.args.sought.asked c.look.new.levels)
    c.look.new.trail c.look.result c.look.ensures.kept c.look.ensures.only c.look.ensures.found

pub returns-then-asked-clause-spare : goal.returns-then-asked-clause-spare
returns-then-asked-clause-spare c = tail-spare c.args.sought c.requires.sought c.args.left.now c.args.trail.now
    c.args.trail.now.spare c.look.new.trail.spare c.look.ensures.spare

pub returns-in_default : goal.returns-in_default
returns-in_default c =
    let x = c.args.sought in
    let one = subst IsOfStar c.pattern.ensures (c.if-not-is_of_star.ensures refl) in
    record {
      found = laws.star-behind x c.requires.sought one c.if-asked.false c.args.left.now c.args.mode
          (levels_table x.asked c.args.levels.now) (numbered_subst x.asked.table.now c.args.trail.now.stack)
          c.in_default.not-First c.requires.mode;
      count = refl;
      levels = c.requires.levels;
      kept = cut-whole c.args.trail.now;
      spare = omega arith;
      trail = c.requires.trail;
    }

pub bind_bag-requires-clause-ascending : goal.bind_bag-requires-clause-ascending
bind_bag-requires-clause-ascending c =
    laws.star-sorted c.args.sought c.requires.sought
    (subst IsOfStar c.pattern.ensures (c.if-not-is_of_star.ensures refl)) c.if-asked.false c.args.left.now
    c.requires.left

pub bind_bag-requires-clause-spare : goal.bind_bag-requires-clause-spare
bind_bag-requires-clause-spare c =
    let one = subst IsOfStar c.pattern.ensures (c.if-not-is_of_star.ensures refl) in
    omega (
      arith,
      laws.star-cost c.args.sought c.requires.sought one c.if-asked.false c.args.left.now,
      c.requires.spare,
    )

pub returns-then-not-bind_bag-clause-found : goal.returns-then-not-bind_bag-clause-found
returns-then-not-bind_bag-clause-found c =
    let x = c.args.sought in
    let one = subst IsOfStar c.pattern.ensures (c.if-not-is_of_star.ensures refl) in
    let s = numbered_subst x.asked.table.now c.args.trail.now.stack in
    let r = numbered_subst x.asked.table.now c.bind_bag.new.trail.stack in
    let W = levels_table x.asked c.args.levels.now in
    subst (λ m. IsFoundOf m W W (items_sought x.asked [] c.args.left.now s) r false) (sym c.in-First.is)
    (laws.star-sought x c.requires.sought one c.if-asked.false c.args.left.now W W s r false
    c.if-not-bind_bag.ensures.bound (λ e. absurd (let f : false ≡ true = e in cc)))

pub returns-then-not-bind_bag-clause-spare : goal.returns-then-not-bind_bag-clause-spare
returns-then-not-bind_bag-clause-spare c =
    let one = subst IsOfStar c.pattern.ensures (c.if-not-is_of_star.ensures refl) in
    omega (
      arith,
      laws.star-cost c.args.sought c.requires.sought one c.if-asked.false c.args.left.now,
      c.bind_bag.ensures.kept.spare,
    )

pub set-requires : goal.set-requires
set-requires c =
    let x = c.args.sought in
    let one = subst IsOfStar c.pattern.ensures (c.if-not-is_of_star.ensures refl) in
    let nodes = laws.star-nodes x c.requires.sought one c.if-asked.false c.args.left.now in
    let own = laws.first-has (λ l. IsRoomy x.width l × IsOver x.asked.table.now l) c.args.levels.now
    c.index-levels-0.result (omega (arith, nodes, c.requires.count)) c.requires.levels in
    omega (
      arith,
      laws.star-few x c.requires.sought one c.if-asked.false c.args.left.now,
      c.requires.wide,
      own.0.0,
    )

pub returns-clause-found : goal.returns-clause-found
returns-clause-found c =
    let x = c.args.sought in
    let one = subst IsOfStar c.pattern.ensures (c.if-not-is_of_star.ensures refl) in
    let nodes = laws.star-nodes x c.requires.sought one c.if-asked.false c.args.left.now in
    let s = numbered_subst x.asked.table.now c.args.trail.now.stack in
    let r = numbered_subst x.asked.table.now c.bind_bag.new.trail.stack in
    let W = levels_table x.asked c.args.levels.now in
    let V = levels_table x.asked (slice_set c.args.levels.now 0 c.set.new.self) in
    let some : 1 ≤ length c.args.levels.now = omega (arith, nodes, c.requires.count) in
    subst (λ m. IsFoundOf m W V (items_sought x.asked [] c.args.left.now s) r true) (sym c.in-First.is)
    (laws.star-sought x c.requires.sought one c.if-asked.false c.args.left.now W V s r true
    c.if-not-bind_bag.ensures.bound (λ e. laws.star-level x c.requires.sought one c.if-asked.false c.args.left.now
    c.args.levels.now c.set.new.self some c.set.ensures.take))

pub returns-clause-levels : goal.returns-clause-levels
returns-clause-levels c =
    let x = c.args.sought in
    let one = subst IsOfStar c.pattern.ensures (c.if-not-is_of_star.ensures refl) in
    let nodes = laws.star-nodes x c.requires.sought one c.if-asked.false c.args.left.now in
    laws.levels-set x.asked.table.now x.width c.args.left.now c.args.levels.now c.index-levels-0.result c.set.new.self
    (omega (arith, nodes, c.requires.count)) c.requires.levels c.requires.left.ranks c.set.ensures.take
    c.set.ensures.draws c.set.ensures.rest c.set.ensures.rooms

pub returns-clause-spare : goal.returns-clause-spare
returns-clause-spare c =
    let one = subst IsOfStar c.pattern.ensures (c.if-not-is_of_star.ensures refl) in
    omega (
      arith,
      laws.star-cost c.args.sought c.requires.sought one c.if-asked.false c.args.left.now,
      c.bind_bag.ensures.kept.spare,
    )
