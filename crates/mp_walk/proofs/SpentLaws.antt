-- What holds of a course when a token that has no step left is passed over.
use Rattle.std.proofs.Common.{◌≡◌, ◌<◌, ℕ, true, List, [], ◌++◌, map, take, refl, ap, sym, ◌∙◌, subst}
use Rattle.std.proofs.Common.{arith}
use Rattle.std.specs.Prelude.{Option, Some, None, IsSome, flat_map, option_map, slice_get}
use Rattle.std.proofs.lemmas.Bool.{false_from_ne_true}
use Rattle.mp_term.specs.Signature.{Sig}
use Rattle.mp_pattern.specs.Fits.{Table}
use Rattle.mp_pattern.specs.NetTokens.{NetToken, sym_token, enter_token, leave_token, wild_token, comm_token}
use Rattle.mp_pattern.specs.Value.{Subst}
use Rattle.mp_subst.specs.Trail.{Trail, length_at, cut}
use Rattle.mp_subst.proofs.TrailLaws.{cut-cut}
use Rattle.mp_walk.specs.Rooms.{target_room}
use Rattle.mp_walk.proofs.RoomLaws.{beside-room}
use Rattle.mp_walk.specs.declared.course.Course.{Course}
use Rattle.mp_walk.specs.declared.frame.Frame.{Frame}
use Rattle.mp_walk.specs.declared.key.InstrKey.{InstrKey}
use Rattle.mp_walk.specs.declared.level.Level.{Level}
use Rattle.mp_walk.specs.declared.setting.Setting.{Setting}
use Rattle.mp_walk.specs.Below.{below_ahead}
use Rattle.mp_walk.specs.Course.{Read, after_step, unread, reads_to_come, table_read, to_come_in, steps_left}
use Rattle.mp_walk.specs.CourseView.{reads_of, course_of, course_to_come, LeadsTo, IsCourse, StandsBehind, IsLeftBehind}
use Rattle.mp_walk.specs.CourseVisits.{course_visits, visits_from, visits_behind}
use Rattle.mp_walk.specs.Instrs.{Instr, instr_at}
use Rattle.mp_walk.specs.Keys.{instr_key, name_key, token_key}
use Rattle.mp_walk.specs.Levels.{read_of, trail_before, HasRoom, search_of}
use Rattle.mp_walk.specs.OpenOnes.{opens, open_of}
use Rattle.mp_walk.specs.TokenMachine.{begin_state, Open}
use Rattle.mp_ac.specs.Numbered.{numbered_subst, IsTrailOf}
use Rattle.mp_table.specs.Table.{subject_of}
use Rattle.mp_walk.specs.Ways.{HasNoWay, is_first_symbol}
use Rattle.mp_walk.proofs.ChainLaws.{alike-same, chain-end}
use Rattle.mp_walk.proofs.CodePaths.{over-target, instr-there}
use Rattle.mp_walk.proofs.CourseLaws.{idle-to_come}
use Rattle.mp_walk.proofs.DownLaws.{if-some}
use Rattle.mp_walk.proofs.OpenLaws.{opens-is}
use Rattle.mp_walk.proofs.StandingLaws.{front-opens, front-search, left, behind_to_come, kept-reads, kept-read}
use Rattle.mp_walk.proofs.StandingLaws.{kept-to_come}
use Rattle.mp_walk.proofs.StepLaws.{step-none}
use Rattle.mp_walk.proofs.TurnLaws.{opens-ordered, new-to_come}
use Rattle.mp_walk.proofs.VisitLaws.{unread-visits, beside-visits}
use Rattle.mp_walk.proofs.WayLaws.{no-symbol}

-- no step is left of a token that has no way
pub no-step : (c : Course) → IsCourse c → (n : ℕ) (i : Instr) (place : ℕ) (f : Frame) → c.place ≡ Some place
    → slice_get c.frames.items place ≡ Some f
    → ((gs : List Open) (s : Subst) → HasNoWay c.set.sig.now (open_of c.set.table.now f) gs s i.token 0)
    → steps_left c.set.sig.now i.token (unread n (course_of c).present) ≡ []
no-step c C n i place f e at h =
    let t = c.set.table.now in
    let fs = c.frames.items in
    step-none c.set.sig.now i.token (unread n (course_of c).present) (open_of t f) (opens t fs f.outer)
    (ap (opens t fs) e ∙ opens-is t c.set.sig.now fs C.frames place f at) refl
    (h (opens t fs f.outer) (course_of c).present.trail)

-- a symbol of another key than the first term that is left has no way
pub other-symbol : (sig : Sig) (f : Open) (fs : List Open) (s : Subst) (k : NetToken) (first : ℕ)
    → ((name : List ℕ) → is_first_symbol name f.left ≡ true → first ≡ name_key name)
    → (token_key k ≡ 0 → ⊥) → (token_key k ≡ first → ⊥) → HasNoWay sig f fs s k 0
other-symbol sig f fs s (sym_token n) first h own other =
    no-symbol sig f fs s n (false_from_ne_true (is_first_symbol n f.left) (λ e. other (sym (h n e))))
other-symbol sig f fs s (enter_token g) first h own other = absurd (own refl)
other-symbol sig f fs s (leave_token g) first h own other = absurd (own refl)
other-symbol sig f fs s (wild_token w x) first h own other = absurd (own refl)
other-symbol sig f fs s (comm_token p) first h own other = absurd (own refl)

-- something is seen of an instruction that is there
pub none-seen : (o : Option Instr) → IsSome o → option_map instr_key o ≡ None → ⊥
none-seen None h e = cc
none-seen (Some i) h e = cc

-- the instruction of which so much is seen
instr-seen : (o : Option Instr) (own : InstrKey) → option_map instr_key o ≡ Some own
    → (i : Instr) × (o ≡ Some i) × (instr_key i ≡ own)
instr-seen None own e = cc
instr-seen (Some i) own e = (i, refl, cc)

-- nothing comes of the steps of a token of which nothing is read yet
abbrev pub IsPassed : Course → ℕ → Instr → Type 0
IsPassed c n i = (before : Table)
    → flat_map (after_step c.set.sig.now c.set.code.now.instrs n i before)
    (steps_left c.set.sig.now i.token (unread n (course_of c).present)) ≡ []

-- so it is where it has none
pub none-passed : (c : Course) (n : ℕ) (i : Instr)
    → steps_left c.set.sig.now i.token (unread n (course_of c).present) ≡ [] → IsPassed c n i
none-passed c n i none before = ap (flat_map (after_step c.set.sig.now c.set.code.now.instrs n i before)) none

module _ (c : Course) (C : IsCourse c) (n : ℕ) (e : c.target ≡ Some n) (i : Instr)
    (held : instr_at c.set.code.now.instrs n ≡ Some i) (nothing : IsPassed c n i) where
  abbrev passed : Course
  passed = record c { target = i.over }

  pub passed-course : IsCourse passed
  passed-course =
      let before = C.setting.walkable.before in
      let p = (course_of c).present in
      let room : HasRoom (target_room c.set.code.now.instrs (Some n)) (opens c.set.table.now c.frames.items c.place)
      c.trail =
      subst (λ o. HasRoom (target_room c.set.code.now.instrs o) (opens c.set.table.now c.frames.items c.place) c.trail)
      e C.room in
      let beside = beside-room c.set.code.now.instrs C.setting.walkable.forward n i held in
      record {
        setting = C.setting;
        frames = C.frames;
        place = C.place;
        trail = C.trail;
        levels = C.levels;
        store = C.store;
        there = if-some _ i.over (λ m h.
            let f = C.setting.walkable.forward n m i held (over-target i m h) in
            let j = instr-there c.set.code.now.instrs m (omega (arith, f.0)) f.1 in
            rw j.1 refl);
        room = omega (arith, room, beside);
        chained = chain-end c.set.sig.now c.set.code.now.instrs before (LeadsTo before c.target) (LeadsTo before i.over)
            [] (begin_state (subject_of c.set.table.now)) (reads_of c) p p C.chained (alike-same p p refl)
            (λ path h. if-some (λ m. before m ≡ path) i.over
            (λ m g. C.setting.walkable.paths.over n m i held g ∙ subst (λ o. LeadsTo before o path) e h));
        ended = C.ended;
      }

  pub passed-to_come : course_to_come passed ≡ course_to_come c
  passed-to_come =
      let sig = c.set.sig.now in
      let code = c.set.code.now.instrs in
      let reads = reads_of c in
      let p = (course_of c).present in
      sym (ap (λ o. to_come_in sig code (record { reads = reads; present = p; target = o })) e
      ∙ new-to_come sig code C.setting.walkable reads n i p held
      (opens-ordered sig c.set.table.now c.frames.items C.frames c.place C.place)
      ∙ ap (λ is. is ++ reads_to_come sig code [] reads)
      (idle-to_come sig code (table_read code reads) (unread n p) i held (nothing (table_read code reads))))

  -- and less is to be read
  pub passed-less : course_visits passed < course_visits c
  passed-less =
      let sig = c.set.sig.now in
      let code = c.set.code.now.instrs in
      let p = (course_of c).present in
      let target = ap (λ o. visits_from sig code o p) e in
      let visits = unread-visits sig code C.setting.walkable n i p held
      (opens-ordered sig c.set.table.now c.frames.items C.frames c.place C.place) in
      let over = beside-visits sig code (unread n p) i held in
      omega (arith, target, visits, over)

-- a symbol of another key than the first term that is left is passed over: the same is to come, and less is to be read
pub key-passed : (c : Course) (C : IsCourse c) (n : ℕ) (e : c.target ≡ Some n) (place : ℕ) (f : Frame)
    → c.place ≡ Some place → slice_get c.frames.items place ≡ Some f → (own : InstrKey)
    → option_map instr_key (instr_at c.set.code.now.instrs n) ≡ Some own → (first : ℕ)
    → ((name : List ℕ) → is_first_symbol name (open_of c.set.table.now f).left ≡ true → first ≡ name_key name)
    → (own.symbol ≡ 0 → ⊥) → (own.symbol ≡ first → ⊥)
    → IsCourse (record c { target = own.over })
    × (course_to_come (record c { target = own.over }) ≡ course_to_come c)
    × (course_visits (record c { target = own.over }) < course_visits c)
key-passed c C n e place f p at own seen first named symbol other =
    let i = instr-seen (instr_at c.set.code.now.instrs n) own seen in
    let key = ap (λ k. k.symbol) i.2 in
    let nothing = none-passed c n i.0 (no-step c C n i.0 place f p at
    (λ gs s. other-symbol c.set.sig.now (open_of c.set.table.now f) gs s i.0.token first named
    (λ z. symbol (sym key ∙ z)) (λ z. other (sym key ∙ z)))) in
    subst (λ k. IsCourse (record c { target = k.over })
    × (course_to_come (record c { target = k.over }) ≡ course_to_come c)
    × (course_visits (record c { target = k.over }) < course_visits c)) i.2
    (passed-course c C n e i.0 i.1 nothing, passed-to_come c C n e i.0 i.1 nothing, passed-less c C n e i.0 i.1 nothing)

-- no step is left of a token in open operations, from the way of the number on
abbrev pub IsSpentIn : Setting → List Frame → Option ℕ → Instr → ℕ → Type 0
IsSpentIn x fs place i from = (l : Read) → l.state.open_ones ≡ opens x.table.now fs place → l.next ≡ from
    → l.ahead ≡ [] → steps_left x.sig.now i.token l ≡ []

-- something of the token is read
module _ (x : Setting) (fs : List Frame) (u : Trail) (ls : List Level) (l : Level) (S : StandsBehind x fs u ls l) where
  same : cut (length_at l.mark) (trail_before u l) ≡ trail_before u l
  same = cut-cut (length_at l.mark) (length_at l.mark) u (omega arith) S.marks

  pub spent-left : (i : Instr) → instr_at x.code.now.instrs l.instr ≡ Some i → IsSpentIn x fs l.place i l.next
      → (search_of l) ≡ None → IsTrailOf x.table.now (trail_before u l)
      → IsLeftBehind x (take l.frames fs) (trail_before u l) ls l i
  spent-left i held none search h =
      left x fs u ls l S i held l (record { instr = refl; place = refl; frames = refl; mark = refl }) h
      (none (read_of x.table.now (take l.frames fs) (trail_before u l) l)
      (front-opens x fs u ls l S l.place S.last.place) refl
      (ap (λ o. below_ahead o (numbered_subst x.table.now (trail_before (trail_before u l) l).stack)) search))
      (front-search x fs u ls l S i held) S.last.way

  -- the same is to come of it
  pub spent-to_come : behind_to_come x (take l.frames fs) (trail_before u l) ls
      (read_of x.table.now (take l.frames fs) (trail_before u l) l)
      ≡ behind_to_come x fs u ls (read_of x.table.now fs u l)
  spent-to_come =
      kept-to_come x fs u ls l S (trail_before u l) same (read_of x.table.now (take l.frames fs) (trail_before u l) l)
      ∙ ap (behind_to_come x fs u ls) (kept-read x fs u ls l S (trail_before u l) same)

  -- and as much is to be read
  pub spent-visits : visits_behind x.sig.now x.code.now.instrs
      (map (read_of x.table.now (take l.frames fs) (trail_before u l)) ls)
      (read_of x.table.now (take l.frames fs) (trail_before u l) l)
      ≡ visits_behind x.sig.now x.code.now.instrs (map (read_of x.table.now fs u) ls) (read_of x.table.now fs u l)
  spent-visits =
      ap (λ rs. visits_behind x.sig.now x.code.now.instrs rs
      (read_of x.table.now (take l.frames fs) (trail_before u l) l))
      (kept-reads x fs u ls l S (trail_before u l) same)
      ∙ ap (visits_behind x.sig.now x.code.now.instrs (map (read_of x.table.now fs u) ls))
      (kept-read x fs u ls l S (trail_before u l) same)
