use Rattle.std.proofs.Common.{◌≡◌, ◌≤◌, ◌<◌, ◌+◌, ◌-◌, Bool, true, List, [], ◌∷◌, length, map, take, ap}
use Rattle.std.proofs.Common.{sym, ◌∙◌, subst}
use Rattle.std.specs.Prelude.{Some, option_map, MatchBool, if◌then◌else◌}
use Rattle.std.proofs.lemmas.Bool.{MatchBool-at_true, MatchBool-at_false}
use Rattle.mp_subst.specs.Trail.{Trail, length_at, cut}
use Rattle.mp_pattern.specs.NetTokenView.{net_token}
use Rattle.mp_walk.specs.declared.course.Course.{Course}
use Rattle.mp_walk.specs.declared.frame.Frame.{Frame}
use Rattle.mp_walk.specs.declared.level.Level.{Level}
use Rattle.mp_walk.specs.Course.{Read, IsStepTaken, steps_left}
use Rattle.mp_walk.specs.CourseView.{IsTakenBehind, IsLeftBehind}
use Rattle.mp_walk.specs.Instrs.{Instr, instr_at}
use Rattle.mp_walk.specs.InstrView.{plain_instr}
use Rattle.mp_walk.specs.Levels.{read_of, trail_before, step_cost, search_cost, innermost_left, HasSearch, search_of}
use Rattle.mp_walk.specs.OpenOnes.{AreFrames, IsPlaceBelow, opens}
use Rattle.mp_ac.specs.Numbered.{numbered_subst, IsTrailOf, LiesOver}
use Rattle.mp_walk.proofs.StandingLaws.{sound, constants, front-frames, front-place, front-search, search-spare, spare}
use Rattle.mp_walk.specs.CourseVisits.{course_visits, read_visits, visits_behind}
use Rattle.mp_walk.specs.Visits.{total}
use Rattle.mp_walk.proofs.StandingLaws.{kept-reads, none-visits}
use Rattle.mp_walk.proofs.StandingLaws.{front-read, taken, left, none-to_come, lies-back, kept-to_come, behind_to_come}
use Rattle.mp_walk.proofs.FirstLaws.{fewer_by_result, by_result}
use Rattle.mp_walk.proofs.course.Course.read_on.Goals as goal
use Rattle.mp_walk.proofs.course.Course.read_on.Goals.{In_ok-found}

module _ (c : In_ok-found) where
  abbrev self : Course
  self = c.args.self.now

  -- the token before the step and after it, the trail after it, and the instruction
  abbrev l : Level
  l = c.args.level

  abbrev m : Level
  m = c.read.new.level

  abbrev v : Trail
  v = c.read.new.trail

  abbrev i : Instr
  i = plain_instr c.in-Some.instr.now

  -- the frames of the token
  abbrev front : List Frame
  front = take l.frames self.frames.items

  -- what is read, before the step and after it
  abbrev before : Read
  before = read_of self.set.table.now front self.trail l

  abbrev after : Read
  after = read_of self.set.table.now front v m

  -- the instruction is there
  held : instr_at self.set.code.now.instrs l.instr ≡ Some i
  held = c.instr.ensures ∙ ap (option_map (λ j. plain_instr j.now)) c.in-Some.is

  -- the token is read among its frames
  same : c.deref.result.now ≡ front
  same = c.deref.ensures.value ∙ c.truncate.ensures.items

  -- among them the trail lies over what it was before the token
  abbrev Lies : List Frame → Bool → Type 0
  Lies fs found = LiesOver self.set.table.now
      (if found then step_cost i.token (opens self.set.table.now fs l.place) (m.next - 1) else 0)
      (trail_before self.trail l) v

  lies : Lies front c.in_ok-found.found
  lies = subst (λ fs. Lies fs c.in_ok-found.found) same c.in_ok-found.ensures.kept

  back : cut (length_at l.mark) v ≡ trail_before self.trail l
  back = lies-back self.set self.frames.items self.trail self.levels.items l c.requires.standing _ v lies

  -- among them a step is taken, or none is left
  abbrev Steps : List Frame → Type 0
  Steps fs =
      let t = self.set.table.now in
      let sig = self.set.sig.now in
      MatchBool c.in_ok-found.found
      (IsStepTaken sig i.token (read_of t fs self.trail l) (read_of t fs v m) (numbered_subst t v.stack))
      ((steps_left sig i.token (read_of t fs self.trail l) ≡ []) × (steps_left sig i.token (read_of t fs v m) ≡ []))

  steps : Steps front
  steps = subst Steps same c.in_ok-found.ensures.step

  -- and the search is one of the token
  search : HasSearch self.set.table.now i.token (opens self.set.table.now front l.place) (trail_before self.trail l)
      (search_of m)
  search = subst (λ fs. HasSearch self.set.table.now i.token (opens self.set.table.now fs l.place)
      (trail_before self.trail l) (search_of m)) same c.in_ok-found.ensures.search

  -- the tokens before it stay as they are
  reads-same : map (read_of self.set.table.now c.truncate.new.self.items v) self.levels.items
      ≡ map (read_of self.set.table.now self.frames.items self.trail) self.levels.items
  reads-same =
      ap (λ fs. map (read_of self.set.table.now fs v) self.levels.items) c.truncate.ensures.items
      ∙ kept-reads self.set self.frames.items self.trail self.levels.items l c.requires.standing v back

  to_come-same : (r : Read) → behind_to_come self.set c.truncate.new.self.items v self.levels.items r
      ≡ behind_to_come self.set self.frames.items self.trail self.levels.items r
  to_come-same r =
      ap (λ fs. behind_to_come self.set fs v self.levels.items r) c.truncate.ensures.items
      ∙ kept-to_come self.set self.frames.items self.trail self.levels.items l c.requires.standing v back r

  before-same : before ≡ read_of self.set.table.now self.frames.items self.trail l
  before-same = front-read self.set self.frames.items self.trail self.levels.items l c.requires.standing

  -- a step is taken
  is_taken : c.in_ok-found.found ≡ true
      → IsTakenBehind self.set c.truncate.new.self.items v self.levels.items before m i
  is_taken found =
      subst (λ fs. IsTakenBehind self.set fs v self.levels.items before m i) (sym c.truncate.ensures.items)
      (taken self.set self.frames.items self.trail self.levels.items l c.requires.standing i held v m
      c.in_ok-found.ensures.same (subst (Lies front) found lies) (MatchBool-at_true _ _ found steps)
      (λ f gs e. c.in_ok-found.ensures.valid found f gs
      (subst (λ fs. opens self.set.table.now fs l.place ≡ f ∷ gs) (sym same) e)) search c.in_ok-found.ensures.way)

pub read-requires-clause-instr : goal.read-requires-clause-instr
read-requires-clause-instr c = c.instr.ensures ∙ ap (option_map (λ i. plain_instr i.now)) c.in-Some.is

pub read-requires-clause-sound : goal.read-requires-clause-sound
read-requires-clause-sound c =
    let self = c.args.self.now in
    sound self.set self.frames.items self.trail self.levels.items c.args.level c.requires.standing
    (plain_instr c.in-Some.instr.now) (c.instr.ensures ∙ ap (option_map (λ i. plain_instr i.now)) c.in-Some.is)

pub read-requires-clause-held : goal.read-requires-clause-held
read-requires-clause-held c =
    let self = c.args.self.now in
    constants self.set self.frames.items self.trail self.levels.items c.args.level c.requires.standing
    (plain_instr c.in-Some.instr.now) (c.instr.ensures ∙ ap (option_map (λ i. plain_instr i.now)) c.in-Some.is)

pub read-requires-clause-frames : goal.read-requires-clause-frames
read-requires-clause-frames c =
    let self = c.args.self.now in
    subst (AreFrames self.set.sig.now self.set.table.now) (sym (c.deref.ensures.value ∙ c.truncate.ensures.items))
    (front-frames self.set self.frames.items self.trail self.levels.items c.args.level c.requires.standing)

pub read-requires-clause-place : goal.read-requires-clause-place
read-requires-clause-place c =
    let self = c.args.self.now in
    subst (λ (fs : List Frame). IsPlaceBelow (length fs) c.args.level.place)
    (sym (c.deref.ensures.value ∙ c.truncate.ensures.items))
    (front-place self.set self.frames.items self.trail self.levels.items c.args.level c.requires.standing)

pub read-requires-clause-spare : goal.read-requires-clause-spare
read-requires-clause-spare c f gs e =
    let self = c.args.self.now in
    spare self.set self.frames.items self.trail self.levels.items c.args.level c.requires.standing
    (plain_instr c.in-Some.instr.now) (c.instr.ensures ∙ ap (option_map (λ i. plain_instr i.now)) c.in-Some.is) f gs
    (subst (λ fs. opens self.set.table.now fs c.args.level.place ≡ f ∷ gs)
    (c.deref.ensures.value ∙ c.truncate.ensures.items) e)

pub read-requires-clause-cost : goal.read-requires-clause-cost
read-requires-clause-cost c =
    let self = c.args.self.now in
    subst (λ fs. search_cost (net_token c.in-Some.instr.now.token)
    (innermost_left (opens self.set.table.now fs c.args.level.place)) ≤ (trail_before self.trail c.args.level).spare)
    (sym (c.deref.ensures.value ∙ c.truncate.ensures.items))
    (search-spare self.set self.frames.items self.trail self.levels.items c.args.level c.requires.standing
    (plain_instr c.in-Some.instr.now) (c.instr.ensures ∙ ap (option_map (λ i. plain_instr i.now)) c.in-Some.is))

pub read-requires-clause-search : goal.read-requires-clause-search
read-requires-clause-search c =
    let self = c.args.self.now in
    subst (λ fs. HasSearch self.set.table.now (net_token c.in-Some.instr.now.token)
    (opens self.set.table.now fs c.args.level.place) (trail_before self.trail c.args.level) (search_of c.args.level))
    (sym (c.deref.ensures.value ∙ c.truncate.ensures.items))
    (front-search self.set self.frames.items self.trail self.levels.items c.args.level c.requires.standing
    (plain_instr c.in-Some.instr.now) (c.instr.ensures ∙ ap (option_map (λ i. plain_instr i.now)) c.in-Some.is))

pub go_down-requires-clause-taken : goal.go_down-requires-clause-taken
go_down-requires-clause-taken c =
    let known = (goal.at.go_down-requires-clause-taken c).In_ok-found in
    (before known, is_taken known c.if-found.true)

pub go_down-requires-clause-store : goal.go_down-requires-clause-store
go_down-requires-clause-store c = c.in_ok-found.ensures.store

pub go_over-requires-clause-store : goal.go_over-requires-clause-store
go_over-requires-clause-store c = c.in_ok-found.ensures.store

pub returns-then-found-clause-turn : goal.returns-then-found-clause-turn
returns-then-found-clause-turn c =
    let self = c.args.self.now in
    let known = (goal.at.returns-then-found-clause-turn c).In_ok-found in
    by_result (is_taken known c.if-found.true) c.go_down.result c.go_down.new.self _
    (to_come-same known (before known)
    ∙ ap (behind_to_come self.set self.frames.items self.trail self.levels.items) (before-same known))
    c.go_down.ensures.turn

pub returns-then-found-clause-less : goal.returns-then-found-clause-less
returns-then-found-clause-less c =
    let self = c.args.self.now in
    let sig = self.set.sig.now in
    let code = self.set.code.now.instrs in
    let known = (goal.at.returns-then-found-clause-less c).In_ok-found in
    fewer_by_result (is_taken known c.if-found.true) c.go_down.result (course_visits c.go_down.new.self) _
    (ap (λ rs. visits_behind sig code rs (before known)) (reads-same known)
    ∙ ap (visits_behind sig code (map (read_of self.set.table.now self.frames.items self.trail) self.levels.items))
    (before-same known)) c.go_down.ensures.less

pub go_over-requires-clause-left : goal.go_over-requires-clause-left
go_over-requires-clause-left c =
    let self = c.args.self.now in
    let t = self.set.table.now in
    let l = c.args.level in
    let m = c.read.new.level in
    let i = plain_instr c.in-Some.instr.now in
    let known = (goal.at.go_over-requires-clause-left c).In_ok-found in
    let none = MatchBool-at_false _ _ c.if-found.false (steps known) in
    let back = c.in_ok-found.ensures.back c.if-found.false in
    let h = left self.set self.frames.items self.trail self.levels.items l c.requires.standing i (held known) m
    c.in_ok-found.ensures.same (subst (IsTrailOf t) back c.in_ok-found.ensures.kept.trail)
    (subst (λ w. steps_left self.set.sig.now i.token (read_of t (front known) w m) ≡ []) back none.1)
    (search known) c.in_ok-found.ensures.way in
    subst (λ fs. IsLeftBehind self.set fs c.read.new.trail self.levels.items m i) (sym c.truncate.ensures.items)
    (subst (λ w. IsLeftBehind self.set (front known) w self.levels.items m i) (sym back) h)

pub returns-clause-turn : goal.returns-clause-turn
returns-clause-turn c =
    let self = c.args.self.now in
    let m = c.read.new.level in
    let v = c.read.new.trail in
    let known = (goal.at.returns-clause-turn c).In_ok-found in
    let none = MatchBool-at_false _ _ c.if-found.false (steps known) in
    let behind = behind_to_come self.set self.frames.items self.trail self.levels.items in (
      c.go_over.ensures.course,
      c.go_over.ensures.to_come
          ∙ to_come-same known (read_of self.set.table.now c.truncate.new.self.items v m)
          ∙ ap (λ fs. behind (read_of self.set.table.now fs v m)) c.truncate.ensures.items
          ∙ none-to_come self.set self.frames.items self.trail self.levels.items c.args.level c.requires.standing v
          (back known) (i known) (held known) m c.in_ok-found.ensures.same none.0 none.1
          ∙ ap behind (before-same known),
    )

pub returns-clause-less : goal.returns-clause-less
returns-clause-less c =
    let self = c.args.self.now in
    let sig = self.set.sig.now in
    let code = self.set.code.now.instrs in
    let m = c.read.new.level in
    let v = c.read.new.trail in
    let known = (goal.at.returns-clause-less c).In_ok-found in
    let none = MatchBool-at_false _ _ c.if-found.false (steps known) in
    subst (λ n. course_visits c.go_over.new.self < n)
    (ap (λ fs. visits_behind sig code (map (read_of self.set.table.now c.truncate.new.self.items v) self.levels.items)
    (read_of self.set.table.now fs v m)) c.truncate.ensures.items
    ∙ ap (λ rs. visits_behind sig code rs (after known)) (reads-same known)
    ∙ ap (λ n. n + total (map (read_visits sig code)
    (map (read_of self.set.table.now self.frames.items self.trail) self.levels.items)))
    (none-visits self.set self.frames.items self.trail self.levels.items c.args.level c.requires.standing v
    (back known) (i known) (held known) m c.in_ok-found.ensures.same none.0 none.1
    ∙ ap (read_visits sig code) (before-same known)))
    c.go_over.ensures.less
