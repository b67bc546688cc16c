use Rattle.std.proofs.Common.{◌≡◌, get_or, true, ap, sym, subst}
use Rattle.std.specs.Prelude.{IfOk, IfSome, IsSome, slice_get}
use Rattle.std.proofs.lemmas.Result.{IfOk-weaker}
use Rattle.std.proofs.lemmas.Option.{slice_get_within}
use Rattle.mp_pattern.specs.Fits.{Fits}
use Rattle.mp_pattern.specs.Instance.{is_fully_named, IsPatternApplied}
use Rattle.mp_pattern.specs.Lists.{Pair}
use Rattle.mp_theory.specs.NoOptional.{HasNoOptional}
use Rattle.mp_subst.specs.Trail.{GoesWith, subst_in}
use Rattle.mp_walk.specs.NamedItems.{called}
use Rattle.mp_walk.specs.Ranked.{Ranked}
use Rattle.mp_many.specs.RuleWalk.{given}
use Rattle.mp_many.specs.Laid.{tree_of}
use Rattle.mp_table.specs.Table.{subject_of}
use Rattle.mp_many.proofs.SubstLaws.{applied-fits, few-names, fits-given, given-number, given-some}
use Rattle.mp_many.proofs.SubstLaws.{has-trail, rule-left}
use Rattle.mp_many.proofs.WalkLaws.{subject-normal}
use Rattle.mp_many.proofs.walk.Walk.ranked.Goals as goal

pub names-requires : goal.names-requires
names-requires c =
    let w = c.self.inside in
    let m = w.many.now in
    let some = subst (λ v. IsSome v.item) (sym c.self.view_is) c.requires in
    let full = (given-some w.accepts.now w.leaves.item some).0 in
    let here = c.self.invariant.here full in
    let r = rule-left m (subject_of w.table.now) w.accepts.now here.item here.leaf here.front here.rules full in
    slice_get_within m.rules (get_or w.accepts.now 0 0) r.rule r.held

pub new-requires-clause-goes : goal.new-requires-clause-goes
new-requires-clause-goes c = subst (λ t. GoesWith t c.trail.result.now) c.self.invariant.table c.trail.ensures.goes

pub new-requires-clause-few : goal.new-requires-clause-few
new-requires-clause-few c =
    let w = c.self.inside in
    let m = w.many.now in
    let inv = c.self.invariant in
    let ns = w.accepts.now in
    let o = w.leaves.item in
    let full = (given-some ns o (subst (λ v. IsSome v.item) (sym c.self.view_is) c.requires)).0 in
    let here = inv.here full in
    let trail = c.trail.result.now in
    let trail_of = has-trail w.leaves.sig m.sig w.leaves.code (tree_of m.sig m.rules) w.leaves.table w.table.now trail o
    inv.sig inv.code inv.table c.trail.ensures.fits in
    few-names m c.names.ensures.sound w.table.now ns full o here.item here.stands here.leaf here.front here.rules trail
    trail_of c.names.result.now c.names.ensures.names

pub returns-clause-rule : goal.returns-clause-rule
returns-clause-rule c =
    let w = c.self.inside in
    let ns = w.accepts.now in
    subst (λ v. IfOk c.new.result (λ p. IfSome v.item (λ i. p.pair.0 ≡ i.0))) c.self.view_is
    (IfOk-weaker c.new.result
    (λ (p : Ranked). p.pair ≡ (get_or ns 0 0, subst_in w.table.now (called c.names.result.now) c.trail.result.now))
    (λ p. IfSome (slice_get (given ns w.leaves.item) 0) (λ i. p.pair.0 ≡ i.0))
    (λ p e. subst (λ n. IfSome (slice_get (given ns w.leaves.item) 0) (λ i. n ≡ i.0)) (sym (ap (λ (q : Pair). q.0) e))
    (given-number ns w.leaves.item)) c.new.ensures.pair)

pub returns-clause-fits : goal.returns-clause-fits
returns-clause-fits c =
    let w = c.self.inside in
    let m = w.many.now in
    let inv = c.self.invariant in
    let ns = w.accepts.now in
    let o = w.leaves.item in
    let t = subject_of w.table.now in
    let full = (given-some ns o (subst (λ v. IsSome v.item) (sym c.self.view_is) c.requires)).0 in
    let here = inv.here full in
    let trail = c.trail.result.now in
    let names = c.names.result.now in
    let trail_of = has-trail w.leaves.sig m.sig w.leaves.code (tree_of m.sig m.rules) w.leaves.table w.table.now trail o
    inv.sig inv.code inv.table c.trail.ensures.fits in
    let fits = fits-given m c.names.ensures.sound w.table.now ns full o here.item here.stands here.leaf here.front
    here.rules trail trail_of names c.names.ensures.names in
    subst (λ v. IfOk c.new.result (λ p. IfSome v.item (λ i. IfSome (slice_get v.many.rules i.0)
    (λ r. Fits v.many.sig r.pattern (subject_of v.table) p.pair.1 i.1)))) c.self.view_is
    (IfOk-weaker c.new.result (λ (p : Ranked). p.pair ≡ (get_or ns 0 0, subst_in w.table.now (called names) trail))
    (λ p. IfSome (slice_get (given ns o) 0) (λ i. IfSome (slice_get m.rules i.0)
    (λ r. Fits m.sig r.pattern t p.pair.1 i.1)))
    (λ p e. subst (λ s. IfSome (slice_get (given ns o) 0) (λ i. IfSome (slice_get m.rules i.0)
    (λ r. Fits m.sig r.pattern t s i.1))) (sym (ap (λ (q : Pair). q.1) e)) fits) c.new.ensures.pair)

pub returns-clause-applied : goal.returns-clause-applied
returns-clause-applied c =
    let w = c.self.inside in
    let m = w.many.now in
    let inv = c.self.invariant in
    let ns = w.accepts.now in
    let o = w.leaves.item in
    let t = subject_of w.table.now in
    let full = (given-some ns o (subst (λ v. IsSome v.item) (sym c.self.view_is) c.requires)).0 in
    let here = inv.here full in
    let trail = c.trail.result.now in
    let names = c.names.result.now in
    let trail_of = has-trail w.leaves.sig m.sig w.leaves.code (tree_of m.sig m.rules) w.leaves.table w.table.now trail o
    inv.sig inv.code inv.table c.trail.ensures.fits in
    let fits = fits-given m c.names.ensures.sound w.table.now ns full o here.item here.stands here.leaf here.front
    here.rules trail trail_of names c.names.ensures.names in
    let normal = subject-normal m.sig w.table.now.terms w.table.now.root inv.walked.normal in
    let applied = applied-fits m.sig m.rules t (subst_in w.table.now (called names) trail) (slice_get (given ns o) 0)
    normal fits in
    subst (λ v. IfOk c.new.result (λ p. IfSome v.item (λ i. IfSome (slice_get v.many.rules i.0)
    (λ r. is_fully_named r.pattern ≡ true → HasNoOptional r.pattern
    → IsPatternApplied v.many.sig r.pattern p.pair.1 (subject_of v.table))))) c.self.view_is
    (IfOk-weaker c.new.result (λ (p : Ranked). p.pair ≡ (get_or ns 0 0, subst_in w.table.now (called names) trail))
    (λ p. IfSome (slice_get (given ns o) 0) (λ i. IfSome (slice_get m.rules i.0)
    (λ r. is_fully_named r.pattern ≡ true → HasNoOptional r.pattern → IsPatternApplied m.sig r.pattern p.pair.1 t)))
    (λ p e. subst (λ s. IfSome (slice_get (given ns o) 0) (λ i. IfSome (slice_get m.rules i.0)
    (λ r. is_fully_named r.pattern ≡ true → HasNoOptional r.pattern → IsPatternApplied m.sig r.pattern s t)))
    (sym (ap (λ (q : Pair). q.1) e)) applied) c.new.ensures.pair)

pub returns-clause-table : goal.returns-clause-table
returns-clause-table c = subst (λ v. IfOk c.new.result (λ p. p.table ≡ v.table)) c.self.view_is c.new.ensures.table
