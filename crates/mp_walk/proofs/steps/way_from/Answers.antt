use Rattle.std.proofs.Common.{◌≡◌, ℕ, [], refl, ap, sym, subst}
use Rattle.std.specs.Prelude.{Option, Some, None, MatchOption}
use Rattle.mp_pattern.specs.NetTokenView.{net_token}
use Rattle.mp_subst.specs.Trail.{Trail}
use Rattle.mp_table.specs.Table.{Table}
use Rattle.mp_walk.specs.Course.{entries_by, opens_by, way_cost}
use Rattle.mp_walk.specs.OpenOnes.{open_of}
use Rattle.mp_ac.specs.Numbered.{numbered_subst, IsTrailOf, LiesOver}
use Rattle.mp_walk.specs.Trails.{shape_of, number_of}
use Rattle.mp_walk.specs.Ways.{HasNoWay, IsFirstWay}
use Rattle.mp_walk.proofs.StepLaws.{wild-way, wild-valid, wild-cost}
use Rattle.mp_ac.proofs.NumberedLaws.{lies-same}
use Rattle.mp_walk.proofs.steps.way_from.Goals as goal

pub returns-in-Enter-clause-way : goal.returns-in-Enter-clause-way
returns-in-Enter-clause-way c fs =
    let sig = c.args.sig.now in
    let f = open_of c.args.table.now c.args.frame.now in
    let s = numbered_subst c.args.table.now c.args.trail.now.stack in
    subst (λ k. MatchOption c.begin_way.result (HasNoWay sig f fs s k c.args.from)
    (λ w. IsFirstWay sig f fs s k c.args.from w
    (entries_by k f w [], record { open_ones = opens_by k f fs w; trail = s })))
    (sym (ap net_token c.in-Enter.is)) (c.begin_way.ensures.way fs s)

kept : (t : Table) (cost : ℕ → ℕ) (u : Trail) → IsTrailOf t u → (r : Option ℕ)
    → MatchOption r (u ≡ u) (λ w. LiesOver t (cost w) u u)
kept t cost u h None = refl
kept t cost u h (Some w) = lies-same t (cost w) u h

pub returns-in-Enter-clause-kept : goal.returns-in-Enter-clause-kept
returns-in-Enter-clause-kept c =
    kept c.args.table.now (way_cost (net_token c.args.token.now)) c.args.trail.now c.requires.trail c.begin_way.result

pub returns-in_default : goal.returns-in_default
returns-in_default c =
    let k = net_token c.args.token.now in
    let f = open_of c.args.table.now c.args.frame.now in
    let s = numbered_subst c.args.table.now c.args.trail.now.stack in
    let u = numbered_subst c.args.table.now c.take_front.new.trail.stack in
    let is = c.take_front.ensures.wild in
    record {
      way = λ fs. wild-way c.args.sig.now f fs s u k (shape_of k) (number_of k) is c.args.from c.take_front.result
          (c.take_front.ensures.way fs);
      valid = wild-valid c.args.sig.now f [] s u k (shape_of k) (number_of k) is c.args.from c.take_front.result
          c.take_front.ensures.within;
      short = c.take_front.ensures.short;
      kept = wild-cost c.args.sig.now f [] s u k (shape_of k) (number_of k) is c.args.from c.take_front.result
          c.args.table.now c.args.trail.now c.take_front.new.trail c.take_front.ensures.kept;
    }
