-- The first step of a token of which nothing is read yet, where it isn't that of a commutative application.
use Rattle.std.proofs.Common.{◌≡◌, ◌≤◌, ◌<◌, ◌+◌, ◌-◌, ℕ, suc, List, [], ◌∷◌, ◌++◌, map, length, take, true}
use Rattle.std.proofs.Common.{false, refl, ap}
use Rattle.std.proofs.Math.Seq.{take-length}
use Rattle.std.proofs.Common.{sym, ◌∙◌, subst, arith}
use Rattle.std.specs.Prelude.{Some, None, Result, Ok, Err, IfOk, flat_map}
use Rattle.mp_term.specs.declared.memory.Memory.{Memory}
use Rattle.mp_term.specs.Listing.{In}
use Rattle.mp_term.specs.Signature.{Sig}
use Rattle.mp_term.proofs.ListLaws.{some-same}
use Rattle.mp_pattern.specs.Fits.{Table}
use Rattle.mp_pattern.specs.Value.{Subst}
use Rattle.mp_subst.specs.declared.trail.Mark.{Mark}
use Rattle.mp_subst.specs.Trail.{Trail, length_at, cut}
use Rattle.mp_subst.proofs.TrailLaws.{cut-whole}
use Rattle.mp_walk.specs.declared.course.Course.{Course}
use Rattle.mp_walk.specs.declared.course.Turn.{Turn}
use Rattle.mp_walk.specs.declared.frame.Frame.{Frame}
use Rattle.mp_walk.specs.declared.level.Level.{Level}
use Rattle.mp_walk.specs.declared.setting.Setting.{Setting}
use Rattle.mp_walk.specs.Below.{below_ahead, below_table, IsAtWay}
use Rattle.mp_walk.specs.Chained.{IsOwed}
use Rattle.mp_walk.specs.Course.{Read, after_step, reads_to_come, table_read, unread, entries_by, opens_by, way_cost}
use Rattle.mp_walk.specs.Course.{is_comm_token, steps_left}
use Rattle.mp_walk.specs.Course.{IsStepTaken, IsWayValid}
use Rattle.mp_walk.specs.CourseView.{course_of, course_to_come, IsCourse, IsTakenBehind, StandsBehind}
use Rattle.mp_walk.specs.CourseView.{IsBroughtOn}
use Rattle.mp_walk.specs.CourseVisits.{course_visits, visits_after, visits_behind, IsFewer}
use Rattle.mp_walk.specs.Instrs.{Instr, instr_at}
use Rattle.mp_walk.specs.Levels.{read_of, state_of, trail_before, step_cost, HasSearch, AreOfOneToken, search_of}
use Rattle.mp_walk.specs.Most.{IsIdle}
use Rattle.mp_walk.specs.OpenOnes.{opens}
use Rattle.mp_walk.specs.SoundTokens.{IsSoundToken}
use Rattle.mp_walk.specs.TokenMachine.{Open}
use Rattle.mp_ac.specs.Numbered.{numbered_subst, LiesOver}
use Rattle.mp_walk.specs.Trails.{shape_of, HoldsDefault}
use Rattle.mp_walk.specs.Visits.{total}
use Rattle.mp_walk.specs.Ways.{Step, way_steps, ways_from, HasNoWay, IsFirstWay}
use Rattle.mp_walk.proofs.CourseLaws.{later-to_come}
use Rattle.mp_walk.proofs.LastLaws.{last-new, new-owed, new-standing, visits-new}
use Rattle.mp_walk.proofs.LaterWays.{later-in, later-flat, later-total}
use Rattle.mp_walk.proofs.ReadOnLaws.{default-held}
use Rattle.mp_walk.proofs.ReadingLaws.{none-search, lies-step}
use Rattle.mp_walk.proofs.SpentLaws.{IsPassed}
use Rattle.mp_walk.proofs.StandingLaws.{sound, constants, spare, taken, behind_to_come, kept-to_come, kept-reads}
use Rattle.mp_walk.proofs.StepLaws.{left-ways, step-taken}
use Rattle.mp_walk.proofs.VisitLaws.{later-visits}
use Rattle.mp_walk.proofs.WayLaws.{ways-none}

module _ {x : Setting} {fs : List Frame} {v : Trail} {ls : List Level} {b : Read} {m : Level} {i : Instr}
    (h : IsTakenBehind x fs v ls b m i) where
  -- what each token makes less the one that was read does
  pub fewer_by_result : (r : Result Turn Memory) (visits many : ℕ)
      → visits_behind x.sig.now x.code.now.instrs (map (read_of x.table.now fs v) ls) b ≡ many
      → IfOk r (λ turn. (before : Read) → IsTakenBehind x fs v ls before m i
      → IsFewer visits (visits_behind x.sig.now x.code.now.instrs (map (read_of x.table.now fs v) ls) before) turn)
      → IfOk r (IsFewer visits many)
  fewer_by_result (Ok turn) visits many e g = subst (λ n. IsFewer visits n turn) e (g b h)
  fewer_by_result (Err w) visits many e g = tt

  -- what holds of each token holds of the one that was read
  pub by_result : (r : Result Turn Memory) (d : Course) (is : List (ℕ × Table)) → behind_to_come x fs v ls b ≡ is
      → IfOk r (λ turn. (before : Read) → IsTakenBehind x fs v ls before m i
      → IsBroughtOn (behind_to_come x fs v ls before) turn d)
      → IfOk r (λ turn. IsBroughtOn is turn d)
  by_result (Ok turn) d is e g = subst (λ js. IsBroughtOn js turn d) e (g b h)
  by_result (Err w) d is e g = tt

-- the token of an instruction of which nothing is read yet, at the place of the course, from a way on
abbrev pub new_level : Course → ℕ → Mark → ℕ → Level
new_level c n mark from = record {
  instr = n;
  ended = false;
  place = c.place;
  frames = length c.frames.items;
  mark = mark;
  next = from;
  search = None;
}

-- the instruction that is to be tried is there, and an operation is open; nothing comes of the ways before that one
pub record IsFirst (c : Course) (n : ℕ) (mark : Mark) (i : Instr) (f : Open) (gs : List Open) (from : ℕ) : Type 0 where
  pub course : IsCourse c
  pub target : c.target ≡ Some n
  pub marks : length_at mark ≡ length c.trail.stack
  pub held : instr_at c.set.code.now.instrs n ≡ Some i
  pub is : opens c.set.table.now c.frames.items c.place ≡ f ∷ gs
  pub idle : (way : ℕ) (r : Step) → way < from
      → In r (way_steps c.set.sig.now f gs (numbered_subst c.set.table.now c.trail.stack) i.token way)
      → IsIdle c.set.sig.now c.set.code.now.instrs i r

-- its first way is taken
pub record IsFirstTaken (c : Course) (n : ℕ) (mark : Mark) (i : Instr) (f : Open) (gs : List Open) (from way : ℕ)
    (v : Trail) (m : Level) : Type 0 where
  pub single : is_comm_token i.token ≡ false
  pub lies : LiesOver c.set.table.now (way_cost i.token way) c.trail v
  pub valid : IsWayValid i.token f way
  pub first : IsFirstWay c.set.sig.now f gs (numbered_subst c.set.table.now c.trail.stack) i.token from way (
    entries_by i.token f way [],
    record { open_ones = opens_by i.token f gs way; trail = numbered_subst c.set.table.now v.stack },
  )
  pub one : AreOfOneToken (new_level c n mark from) m
  pub more : m.next ≡ suc way
  pub none : (search_of m) ≡ None

module _ {c : Course} {n : ℕ} {mark : Mark} {i : Instr} {f : Open} {gs : List Open} {from : ℕ}
    (h : IsFirst c n mark i f gs from) where
  abbrev l : Level
  l = new_level c n mark from

  -- before its first way
  abbrev first : Level
  first = new_level c n mark 0

  -- what is read of it
  abbrev read : Level → Read
  read = read_of c.set.table.now c.frames.items c.trail

  abbrev sig : Sig
  sig = c.set.sig.now

  -- the trail before it
  abbrev trail : Subst
  trail = (read first).state.trail

  whole : trail_before c.trail l ≡ c.trail
  whole = ap (λ m. cut m c.trail) h.marks ∙ cut-whole c.trail

  -- the steps that are left of it from a way on
  left-from : (way : ℕ) → steps_left sig i.token (record (read first) { next = way })
      ≡ ways_from sig f gs trail i.token way
  left-from way = left-ways sig i.token (record (read first) { next = way }) f gs h.is refl

  owed : IsOwed sig c.set.code.now.instrs (read l)
  owed j at r m =
      new-owed c h.course n h.target first refl refl h.marks refl refl j at r
      (subst (λ k. In r (steps_left sig k.token (read first))) (some-same i j (sym h.held ∙ at))
      (subst (In r) (sym (left-from 0)) (later-in sig f gs trail i.token from r (subst (In r) (left-from from)
      (subst (λ k. In r (steps_left sig k.token (read l))) (sym (some-same i j (sym h.held ∙ at))) m)))))

  standing : StandsBehind c.set c.frames.items c.trail c.levels.items l
  standing = new-standing c h.course n h.target l refl refl h.marks refl refl owed

  -- nothing comes of the ways before
  idle : (way : ℕ) (r : Step) → way < from → In r (way_steps sig f gs trail i.token way)
      → IsIdle sig c.set.code.now.instrs i r
  idle way r less m = h.idle way r less (subst (λ (u : Trail).
      In r (way_steps sig f gs (numbered_subst c.set.table.now u.stack) i.token way)) whole m)

  all : take l.frames c.frames.items ≡ c.frames.items
  all = take-length c.frames.items

  pub first-sound : IsSoundToken c.set.sig.now i.token
  first-sound = sound c.set c.frames.items c.trail c.levels.items l standing i h.held

  pub first-held : HoldsDefault c.set.table.now (shape_of i.token)
  first-held = default-held c.set.table.now i.token
      (constants c.set c.frames.items c.trail c.levels.items l standing i h.held)

  pub first-spare : length f.left + 3 ≤ c.trail.spare
  first-spare = subst (λ (u : Trail). length f.left + 3 ≤ u.spare) whole
      (spare c.set c.frames.items c.trail c.levels.items l standing i h.held f gs
      (ap (λ fs. opens c.set.table.now fs l.place) all ∙ h.is))

  -- it has no way from that one on: nothing comes of it
  pub first-none : HasNoWay sig f gs (numbered_subst c.set.table.now c.trail.stack) i.token from → IsPassed c n i
  first-none none before =
      let s = numbered_subst c.set.table.now c.trail.stack in
      let after = after_step sig c.set.code.now.instrs n i before in
      ap (flat_map after) (left-ways sig i.token (unread n (course_of c).present) f gs h.is refl)
      ∙ later-flat sig f gs s i.token after from (λ way r less m. h.idle way r less m n before)
      ∙ ap (flat_map after) (ways-none sig f gs s i.token from none)

  module _ {way : ℕ} {v : Trail} {m : Level} (k : IsFirstTaken c n mark i f gs from way v m) where
    same : cut (length_at l.mark) v ≡ trail_before c.trail l
    same = ap (λ o. cut o v) h.marks ∙ k.lies.cut ∙ sym whole

    at-way : m.next - 1 ≡ way
    at-way = omega (arith, k.more)

    read-same : read_of c.set.table.now (take l.frames c.frames.items) c.trail l
        ≡ read_of c.set.table.now c.frames.items c.trail l
    read-same = ap (λ fs. read_of c.set.table.now fs c.trail l) all

    opens-same : opens c.set.table.now (take l.frames c.frames.items) l.place ≡ f ∷ gs
    opens-same = ap (λ fs. opens c.set.table.now fs l.place) all ∙ h.is

    state-same : state_of c.set.table.now (take l.frames c.frames.items) m.place (trail_before v m)
        ≡ state_of c.set.table.now (take l.frames c.frames.items) l.place (trail_before c.trail l)
    state-same =
        ap (λ o. state_of c.set.table.now (take l.frames c.frames.items) o (trail_before v m)) k.one.place
        ∙ ap (λ o. state_of c.set.table.now (take l.frames c.frames.items) l.place (cut (length_at o) v)) k.one.mark
        ∙ ap (state_of c.set.table.now (take l.frames c.frames.items) l.place) same

    step : IsStepTaken c.set.sig.now i.token
        (read_of c.set.table.now (take l.frames c.frames.items) c.trail l)
        (read_of c.set.table.now (take l.frames c.frames.items) v m) (numbered_subst c.set.table.now v.stack)
    step = step-taken c.set.sig.now i.token
        (read_of c.set.table.now (take l.frames c.frames.items) c.trail l)
        (read_of c.set.table.now (take l.frames c.frames.items) v m) f gs way
        (numbered_subst c.set.table.now v.stack) opens-same state-same
        refl (ap (λ o. below_ahead o (numbered_subst c.set.table.now (trail_before v m).stack)) k.none)
        (ap below_table k.none) k.more
        (subst (λ (u : Trail). IsFirstWay c.set.sig.now f gs (numbered_subst c.set.table.now u.stack) i.token from way (
          entries_by i.token f way [],
          record { open_ones = opens_by i.token f gs way; trail = numbered_subst c.set.table.now v.stack },
        )) (sym whole) k.first)

    pub first-taken : IsTakenBehind c.set c.frames.items v c.levels.items
        (read l) m i
    first-taken =
        let t = c.set.table.now in
        let front = take l.frames c.frames.items in
        let os = opens t front l.place in
        let over : LiesOver t (step_cost i.token os (m.next - 1)) (trail_before c.trail l) v =
        subst (λ (u : Trail). LiesOver t (step_cost i.token os (m.next - 1)) u v) (sym whole)
        (subst (λ o. LiesOver t (step_cost i.token os o) c.trail v) (sym at-way)
        (lies-step t i.token os way c.trail v true k.lies)) in
        let right : (g : Open) (hs : List Open) → os ≡ g ∷ hs → IsWayValid i.token g (m.next - 1) =
        λ g hs e. subst (IsWayValid i.token g) (sym at-way) (subst (λ o. IsWayValid i.token o way)
        (heads f g gs hs (sym opens-same ∙ e)) k.valid) in
        let found : HasSearch t i.token os (trail_before c.trail l) (search_of m) =
        none-search t i.token os (trail_before c.trail l) (search_of m) k.single k.none in
        let at : IsAtWay m.next (search_of m) = subst (IsAtWay m.next) (sym k.none) tt in
        subst (λ r. IsTakenBehind c.set c.frames.items v c.levels.items r m i) read-same
        (subst (λ fs. IsTakenBehind c.set fs v c.levels.items (read_of t front c.trail l) m i) all
        (taken c.set c.frames.items c.trail c.levels.items l standing i h.held v m k.one over step right found at))
      where
        heads : (f g : Open) (fs gs : List Open) → f ∷ fs ≡ g ∷ gs → f ≡ g
        heads f g fs gs e = cc

    -- what is to come of it, and before it, is what is to come
    pub first-to_come : behind_to_come c.set c.frames.items v c.levels.items (read l) ≡ course_to_come c
    first-to_come =
        let code = c.set.code.now.instrs in
        let reads = map (read_of c.set.table.now c.frames.items c.trail) c.levels.items in
        let before = table_read code reads in
        let after = after_step sig code n i before in
        sym (ap (λ fs. behind_to_come c.set fs v c.levels.items (read l)) all)
        ∙ kept-to_come c.set c.frames.items c.trail c.levels.items l standing v same (read l)
        ∙ ap (λ is. is ++ reads_to_come sig code [] reads)
        (sym (later-to_come sig code before (read first) from i h.held (
        ap (flat_map after) (left-from 0)
        ∙ later-flat sig f gs trail i.token after from (λ w r less m. idle w r less m n before)
        ∙ ap (flat_map after) (sym (left-from from))
        )))
        ∙ sym (last-new c h.course n h.target first refl refl h.marks refl refl)

    -- and no more is to be read
    pub first-visits : visits_behind sig c.set.code.now.instrs
        (map (read_of c.set.table.now c.frames.items v) c.levels.items) (read l) ≤ course_visits c
    first-visits =
        let code = c.set.code.now.instrs in
        let count = visits_after sig code i in
        let same-reads =
        sym (ap (λ fs. visits_behind sig code (map (read_of c.set.table.now fs v) c.levels.items) (read l)) all)
        ∙ ap (λ rs. visits_behind sig code rs (read l))
        (kept-reads c.set c.frames.items c.trail c.levels.items l standing v same) in
        let old = ap (λ rs. total (map count rs)) (left-from 0) in
        let new = ap (λ rs. total (map count rs)) (left-from from) in
        let less = later-total sig f gs trail i.token count from in
        let fewer = later-visits sig code (read first) from i h.held (omega (arith, old, new, less)) in
        let whole-visits = visits-new c h.course n h.target first refl refl h.marks refl refl in
        omega (arith, same-reads, fewer, whole-visits)
