use Rattle.std.proofs.Common.{◌≡◌, ◌≤◌, ◌-◌, [], drop, refl, ap, sym, ◌∙◌, subst, arith}
use Rattle.std.specs.Prelude.{IsSome, MatchBool, if◌then◌else◌}
use Rattle.std.specs.List.{AllByRecursion}
use Rattle.std.proofs.lemmas.Result.{IfOk-weaker}
use Rattle.mp_pattern.specs.NetTokenView.{net_token}
use Rattle.mp_pattern.specs.View.{pattern_tree}
use Rattle.mp_table.specs.Table.{rank_of}
use Rattle.mp_subst.specs.Trail.{Trail, length_at}
use Rattle.mp_ac.specs.Store.{IsStoreOf}
use Rattle.mp_walk.specs.declared.level.Level.{Level}
use Rattle.mp_walk.specs.Below.{below_ahead, unboxed}
use Rattle.mp_walk.specs.CodeConstants.{token_constants}
use Rattle.mp_walk.specs.Course.{IsStepTaken, IsWayValid, steps_left}
use Rattle.mp_walk.specs.InstrView.{plain_instr}
use Rattle.mp_walk.specs.Levels.{search_of}
use Rattle.mp_walk.specs.Levels.{read_of, state_of, trail_before, search_cost, step_cost, innermost_left, HasSearch}
use Rattle.mp_walk.specs.OpenOnes.{opens}
use Rattle.mp_walk.specs.SoundTokens.{IsSoundToken}
use Rattle.mp_ac.specs.Numbered.{numbered_subst, IsTrailOf, LiesOver}
use Rattle.mp_walk.proofs.ReadOnLaws.{default-held}
use Rattle.mp_walk.proofs.ReadingLaws.{single-token, single-search, none-search, step-ended, lies-step, none-searched}
use Rattle.mp_walk.proofs.ReadingLaws.{none-left, search-of, search-kept, cost-same, below-step, below-valid}
use Rattle.mp_walk.proofs.ReadingLaws.{below-lies, ok-both}
use Rattle.mp_ac.proofs.NumberedLaws.{lies-same}
use Rattle.mp_walk.proofs.reading.read.Goals as goal

-- ---- a token that isn't that of a commutative application

pub step-requires-clause-single : goal.step-requires-clause-single
step-requires-clause-single c = single-token c.args.instr.now.token c.in_default.not-Comm

pub step-requires-clause-search : goal.step-requires-clause-search
step-requires-clause-search c =
    let before = trail_before c.args.trail.now c.args.level.now in
    single-search c.args.set.table.now (net_token c.args.instr.now.token)
    (opens c.args.set.table.now c.args.frames.now c.args.level.now.place) before (search_of c.args.level.now)
    (single-token c.args.instr.now.token c.in_default.not-Comm) c.requires.search

pub step-requires-clause-held : goal.step-requires-clause-held
step-requires-clause-held c = default-held c.args.set.table.now (net_token c.args.instr.now.token) c.requires.held

pub returns-in_default-clause-step : goal.returns-in_default-clause-step
returns-in_default-clause-step c =
    step-ended c.args.set.sig.now c.args.set.table.now c.args.frames.now (net_token c.args.instr.now.token)
    c.args.trail.now c.step.new.trail c.args.level.now c.step.new.level c.requires.mark c.step.result
    c.step.ensures.step c.step.ensures.refused

pub returns-in_default-clause-kept : goal.returns-in_default-clause-kept
returns-in_default-clause-kept c =
    let os = opens c.args.set.table.now c.args.frames.now c.args.level.now.place in
    let before = trail_before c.args.trail.now c.args.level.now in
    lies-step c.args.set.table.now (net_token c.args.instr.now.token) os (c.step.new.level.next - 1) before
    c.step.new.trail c.step.result c.step.ensures.kept

pub returns-in_default-clause-back : goal.returns-in_default-clause-back
returns-in_default-clause-back c = λ e. (c.step.ensures.refused e).0

pub returns-in_default-clause-search : goal.returns-in_default-clause-search
returns-in_default-clause-search c =
    let os = opens c.args.set.table.now c.args.frames.now c.args.level.now.place in
    let before = trail_before c.args.trail.now c.args.level.now in
    none-search c.args.set.table.now (net_token c.args.instr.now.token) os before (search_of c.step.new.level)
    (single-token c.args.instr.now.token c.in_default.not-Comm) c.step.ensures.search

-- ---- a commutative application, where no term is left

pub below-requires-clause-instr : goal.below-requires-clause-instr
below-requires-clause-instr c = (plain_instr c.args.instr.now, c.requires.instr, ap net_token c.in-Comm.is)

pub below-requires-clause-sound : goal.below-requires-clause-sound
below-requires-clause-sound c = subst (IsSoundToken c.args.set.sig.now) (ap net_token c.in-Comm.is) c.requires.sound

pub below-requires-clause-held : goal.below-requires-clause-held
below-requires-clause-held c =
    subst (λ k. AllByRecursion (λ u. IsSome (rank_of c.args.set.table.now u)) (token_constants k))
    (ap net_token c.in-Comm.is) c.requires.held

pub returns-in_default-below-clause-step : goal.returns-in_default-below-clause-step
returns-in_default-below-clause-step c =
    let t = c.args.set.table.now in
    let sig = c.args.set.sig.now in
    let l = c.args.level.now in
    let os = opens t c.args.frames.now l.place in
    let before = trail_before c.args.trail.now l in
    let p = pattern_tree c.in-Comm.pattern in
    let is = ap net_token c.in-Comm.is in
    let sound = subst (IsSoundToken sig) is c.requires.sound in
    let none = none-searched t p (innermost_left os) before (search_of l) c.in_default-below.ensures
    (subst (λ j. HasSearch t j os before (search_of l)) is c.requires.search) in
    let over = λ (w : Trail). subst (λ j. steps_left sig j (read_of t c.args.frames.now w l) ≡ []) (sym is)
    (none-left sig p sound (read_of t c.args.frames.now w l) os refl c.in_default-below.ensures
    (ap (λ o. below_ahead o (numbered_subst t (trail_before w l).stack)) none)) in
    (over c.args.trail.now, over c.undo.new.self)

pub returns-in_default-below-clause-kept : goal.returns-in_default-below-clause-kept
returns-in_default-below-clause-kept c =
    let t = c.args.set.table.now in
    let before = trail_before c.args.trail.now c.args.level.now in
    let same : IsTrailOf t before = subst (IsTrailOf t) c.undo.ensures.trail (record {
      goes = c.undo.ensures.goes_with t c.requires.trail.goes;
      vars = ap (λ w. w.vars) c.undo.ensures.trail ∙ c.requires.trail.vars;
    }) in
    subst (LiesOver t 0 before) (sym c.undo.ensures.trail) (lies-same t 0 before same)

-- ---- where a term stands first

pub step_below-requires-clause-below : goal.step_below-requires-clause-below
step_below-requires-clause-below c = c.in-Some.ensures.0

pub step_below-requires-clause-search : goal.step_below-requires-clause-search
step_below-requires-clause-search c =
    let t = c.args.set.table.now in
    let l = c.args.level.now in
    let os = opens t c.args.frames.now l.place in
    let before = trail_before c.args.trail.now l in
    let h = c.in-Some.ensures in
    search-of c.in-Some.below _ t (innermost_left os) (drop 1 (innermost_left os)) before (search_of l) h.1 h.3 h.4
    (subst (λ j. HasSearch t j os before (search_of l)) (ap net_token c.in-Comm.is) c.requires.search)

pub step_below-requires-clause-above : goal.step_below-requires-clause-above
step_below-requires-clause-above c = record {
  long = c.requires.mark;
  cut = refl;
  trail = subst (λ z. IsTrailOf z c.args.trail.now) (sym c.in-Some.ensures.3) c.requires.trail;
}

pub step_below-requires-clause-spare : goal.step_below-requires-clause-spare
step_below-requires-clause-spare c =
    let os = opens c.args.set.table.now c.args.frames.now c.args.level.now.place in
    let before = trail_before c.args.trail.now c.args.level.now in
    let h = c.in-Some.ensures in
    let cost = subst (λ j. search_cost j (innermost_left os) ≤ before.spare) (ap net_token c.in-Comm.is)
    c.requires.cost in
    let same = cost-same c.in-Some.below _ (innermost_left os) (drop 1 (innermost_left os)) h.1 h.4 in
    omega (arith, cost, same)

pub step_below-requires-clause-store : goal.step_below-requires-clause-store
step_below-requires-clause-store c =
    let h = c.in-Some.ensures in
    subst (λ z. IsStoreOf c.in-Some.below.table.now z c.args.store.now) (sym h.5)
    (subst (λ z. IsStoreOf z c.args.set.code.now.plans.plans c.args.store.now) (sym h.3) c.requires.store)

pub returns-clause-store : goal.returns-clause-store
returns-clause-store c =
    let h = c.in-Some.ensures in
    IfOk-weaker c.step_below.result _ _
    (λ found e. subst (λ z. IsStoreOf z c.args.set.code.now.plans.plans c.step_below.new.store) h.3
    (subst (λ z. IsStoreOf c.in-Some.below.table.now z c.step_below.new.store) h.5 e)) c.step_below.ensures.store

pub returns-clause-step : goal.returns-clause-step
returns-clause-step c =
    let t = c.args.set.table.now in
    let sig = c.args.set.sig.now in
    let fs = c.args.frames.now in
    let l = c.args.level.now in
    let u = c.args.trail.now in
    let h = c.in-Some.ensures in
    let v = c.step_below.new.trail in
    let n = c.step_below.new.next in
    let q = unboxed c.step_below.new.search in
    let m : Level = record l { next = n; search = c.step_below.new.search } in
    IfOk-weaker c.step_below.result _ _
    (λ found e. subst (λ j. MatchBool found
    (IsStepTaken sig j (read_of t fs u l) (read_of t fs v m) (numbered_subst t v.stack))
    ((steps_left sig j (read_of t fs u l) ≡ []) × (steps_left sig j (read_of t fs v m) ≡ [])))
    (sym (ap net_token c.in-Comm.is))
    (below-step sig t _ c.in-Some.below h.1 h.2 h.3 (opens t fs l.place) h.4 found (trail_before u l) v
    (read_of t fs u l) (read_of t fs v m) l.next n (search_of l) q refl refl refl refl
    (ap (state_of t fs l.place) e.1.cut) refl (ap (λ w. below_ahead q (numbered_subst t w.stack)) e.1.cut) refl
    e.0.0 e.0.1))
    (ok-both _ _ c.step_below.result (ok-both _ _ c.step_below.result c.step_below.ensures.step
    c.step_below.ensures.ended) c.step_below.ensures.above)

pub returns-clause-kept : goal.returns-clause-kept
returns-clause-kept c =
    let t = c.args.set.table.now in
    let os = opens c.args.set.table.now c.args.frames.now c.args.level.now.place in
    let before = trail_before c.args.trail.now c.args.level.now in
    let h = c.in-Some.ensures in
    let v = c.step_below.new.trail in
    let n = c.step_below.new.next in
    IfOk-weaker c.step_below.result _ _
    (λ found e. subst (λ j. LiesOver t (if found then step_cost j os (n - 1) else 0) before v)
    (sym (ap net_token c.in-Comm.is))
    (below-lies c.args.set.sig.now t _ c.in-Some.below h.1 h.2 h.3 os h.4 found (length_at c.args.level.now.mark)
    (n - 1) before v c.args.trail.now c.requires.mark refl e.1 e.0.0 e.0.1))
    (ok-both _ _ c.step_below.result (ok-both _ _ c.step_below.result c.step_below.ensures.spare
    c.step_below.ensures.back) c.step_below.ensures.above)

pub returns-clause-valid : goal.returns-clause-valid
returns-clause-valid c =
    let os = opens c.args.set.table.now c.args.frames.now c.args.level.now.place in
    let h = c.in-Some.ensures in
    let n = c.step_below.new.next in
    IfOk-weaker c.step_below.result _ _
    (λ found e truth f gs at. subst (λ j. IsWayValid j f (n - 1)) (sym (ap net_token c.in-Comm.is))
    (below-valid _ _ _ c.in-Some.below h.1 h.2 h.3 os h.4 n (e truth).0 (e truth).1 f gs at))
    c.step_below.ensures.next

pub returns-clause-search : goal.returns-clause-search
returns-clause-search c =
    let t = c.args.set.table.now in
    let os = opens c.args.set.table.now c.args.frames.now c.args.level.now.place in
    let before = trail_before c.args.trail.now c.args.level.now in
    let h = c.in-Some.ensures in
    let q = unboxed c.step_below.new.search in
    IfOk-weaker c.step_below.result _ _
    (λ found e. subst (λ j. HasSearch t j os before q) (sym (ap net_token c.in-Comm.is))
    (search-kept c.in-Some.below _ t (innermost_left os) (drop 1 (innermost_left os)) before q h.1 h.3 h.4 e))
    c.step_below.ensures.search
