-- The token with which a turn begins.
use Rattle.std.proofs.Common.{◌≡◌, ◌+◌, ℕ, List, [], ◌∷◌, ◌++◌, map, length, refl, ap, sym, ◌∙◌, subst, arith}
use Rattle.std.specs.Prelude.{Option, Some, None, IsSome, IfSome}
use Rattle.std.proofs.lemmas.List.{map-append}
use Rattle.mp_pattern.specs.Fits.{Table}
use Rattle.mp_subst.specs.Trail.{Trail, length_at, cut}
use Rattle.mp_subst.proofs.TrailLaws.{cut-whole}
use Rattle.mp_walk.specs.Rooms.{target_room}
use Rattle.mp_walk.specs.declared.course.Course.{Course}
use Rattle.mp_walk.specs.declared.level.Level.{Level}
use Rattle.mp_walk.specs.Course.{Read, unread, read_to_come, reads_to_come, table_read, to_come_in}
use Rattle.mp_walk.specs.Chained.{IsChained, IsOwed}
use Rattle.mp_walk.specs.CourseView.{reads_of, course_of, course_to_come, AreChained, LeadsTo, IsCourse}
use Rattle.mp_walk.specs.CourseView.{StandsBehind}
use Rattle.mp_walk.specs.Instrs.{instr_at}
use Rattle.mp_walk.specs.Levels.{search_of}
use Rattle.mp_walk.specs.Levels.{read_of, state_of, trail_before, HasRoom, HasSearch, HasSearchIn, innermost_left}
use Rattle.mp_walk.specs.Levels.{IsLevel, AreLevels}
use Rattle.mp_walk.specs.Below.{below_table, below_ahead, IsAtWay}
use Rattle.mp_ac.specs.Numbered.{numbered_subst}
use Rattle.mp_pattern.specs.NetTokens.{NetToken, sym_token, enter_token, leave_token, wild_token, comm_token}
use Rattle.mp_table.specs.Table as plain_table
use Rattle.mp_table.specs.Table.{subject_of}
use Rattle.mp_walk.specs.OpenOnes.{opens, IsPlaceBelow}
use Rattle.mp_term.specs.Listing.{In}
use Rattle.mp_term.specs.Tree.{Tree}
use Rattle.mp_walk.specs.CourseVisits.{course_visits, token_visits, read_visits, visits_from}
use Rattle.mp_walk.specs.TokenMachine.{begin_state}
use Rattle.mp_walk.specs.Visits.{total}
use Rattle.mp_walk.proofs.ChainLaws.{alike-same, chain-end, chain-last}
use Rattle.mp_walk.proofs.TurnLaws.{opens-ordered, unread-steps, new-to_come}
use Rattle.mp_walk.proofs.VisitLaws.{unread-visits}

-- the value of what is there
pub there : {X : Type 0} (o : Option X) → IsSome o → (x : X) × (o ≡ Some x)
there None h = cc
there (Some x) h = (x, refl)

-- no search is begun
no-search : (t : plain_table.Table) (k : NetToken) (xs : List Tree) (u : Trail) → HasSearchIn t k xs u None
no-search t (sym_token n) xs u = refl
no-search t (enter_token g) xs u = refl
no-search t (leave_token g) xs u = refl
no-search t (wild_token w x) xs u = refl
no-search t (comm_token p) [] u = refl
no-search t (comm_token p) (x ∷ xs) u = tt

module _ (c : Course) (C : IsCourse c) where
  -- what is to come of a token that comes after levels
  abbrev Of : List Level → Read → List (ℕ × Table)
  Of ls l = read_to_come c.set.sig.now c.set.code.now.instrs
      (table_read c.set.code.now.instrs (map (read_of c.set.table.now c.frames.items c.trail) ls)) l
      ++ reads_to_come c.set.sig.now c.set.code.now.instrs [] (map (read_of c.set.table.now c.frames.items c.trail) ls)

  -- the tokens before the last level lead to it, and what is left of it are steps of it
  pub last-chained : (ls : List Level) (l : Level) → c.levels.items ≡ ls ++ l ∷ []
      → AreChained c.set C.setting.walkable.before c.frames.items c.trail ls
      (λ path. C.setting.walkable.before l.instr ≡ path)
      (state_of c.set.table.now c.frames.items l.place (trail_before c.trail l))
      × IsOwed c.set.sig.now c.set.code.now.instrs (read_of c.set.table.now c.frames.items c.trail l)
  last-chained ls l split =
      let before = C.setting.walkable.before in
      let read = read_of c.set.table.now c.frames.items c.trail in
      let start = begin_state (subject_of c.set.table.now) in
      chain-last c.set.sig.now c.set.code.now.instrs before (LeadsTo before c.target) [] start (map read ls) (read l)
      (course_of c).present
      (subst (λ rs. IsChained c.set.sig.now c.set.code.now.instrs before (LeadsTo before c.target) [] start rs
      (course_of c).present) (ap (map read) split ∙ map-append read ls (l ∷ [])) C.chained)

  -- an instruction is to be tried, whose token is one that isn't read yet
  module _ (n : ℕ) (e : c.target ≡ Some n) (l : Level) (instr : l.instr ≡ n) (place : l.place ≡ c.place)
      (mark : length_at l.mark ≡ length c.trail.stack) where
    whole : trail_before c.trail l ≡ c.trail
    whole = ap (λ m. cut m c.trail) mark ∙ cut-whole c.trail

    is-there : IsSome (instr_at c.set.code.now.instrs n)
    is-there = subst (λ o. IfSome o (λ m. IsSome (instr_at c.set.code.now.instrs m))) e C.there

    new-state : state_of c.set.table.now c.frames.items l.place (trail_before c.trail l) ≡ (course_of c).present
    new-state =
        ap (λ o. state_of c.set.table.now c.frames.items o (trail_before c.trail l)) place
        ∙ ap (state_of c.set.table.now c.frames.items c.place) whole

    -- it is read as one that isn't
    new-read : l.next ≡ 0 → search_of l ≡ None
        → read_of c.set.table.now c.frames.items c.trail l ≡ unread n (course_of c).present
    new-read next search =
        let t = c.set.table.now in
        let p = (course_of c).present in
        ap (λ o. record {
          instr = l.instr;
          state = state_of t c.frames.items l.place (trail_before c.trail l);
          next = l.next;
          below = below_table o;
          ahead = below_ahead o (numbered_subst t (trail_before c.trail l).stack);
        }) search
        ∙ ap (λ m. record {
          instr = m;
          state = state_of t c.frames.items l.place (trail_before c.trail l);
          next = l.next;
          below = [];
          ahead = [];
        }) instr
        ∙ ap (λ s. record { instr = n; state = s; next = l.next; below = []; ahead = [] }) new-state
        ∙ ap (λ m. record { instr = n; state = p; next = m; below = []; ahead = [] }) next

    pub last-new : l.next ≡ 0 → search_of l ≡ None
        → course_to_come c ≡ Of c.levels.items (read_of c.set.table.now c.frames.items c.trail l)
    last-new next search =
        let sig = c.set.sig.now in
        let code = c.set.code.now.instrs in
        let p = (course_of c).present in
        let i = there (instr_at code n) is-there in
        ap (λ o. to_come_in sig code (record { reads = reads_of c; present = p; target = o })) e
        ∙ new-to_come sig code C.setting.walkable (reads_of c) n i.0 p i.1
        (opens-ordered sig c.set.table.now c.frames.items C.frames c.place C.place)
        ∙ ap (Of c.levels.items) (sym (new-read next search))

    pub visits-new : l.next ≡ 0 → search_of l ≡ None → course_visits c
        ≡ token_visits c (read_of c.set.table.now c.frames.items c.trail l)
    visits-new next search =
        let sig = c.set.sig.now in
        let code = c.set.code.now.instrs in
        let p = (course_of c).present in
        let i = there (instr_at code n) is-there in
        let left = total (map (read_visits sig code) (reads_of c)) in
        ap (λ o. visits_from sig code o p + left) e
        ∙ ap (λ m. m + left) (unread-visits sig code C.setting.walkable n i.0 p i.1
        (opens-ordered sig c.set.table.now c.frames.items C.frames c.place C.place))
        ∙ ap (λ r. read_visits sig code r + left) (sym (new-read next search))

    -- the tokens that are read lead to it
    pub new-chained : AreChained c.set C.setting.walkable.before c.frames.items c.trail c.levels.items
        (λ path. C.setting.walkable.before l.instr ≡ path)
        (state_of c.set.table.now c.frames.items l.place (trail_before c.trail l))
    new-chained =
        chain-end c.set.sig.now c.set.code.now.instrs C.setting.walkable.before
        (LeadsTo C.setting.walkable.before c.target) (λ path. C.setting.walkable.before l.instr ≡ path) []
        (begin_state (subject_of c.set.table.now)) (reads_of c) (course_of c).present
        (state_of c.set.table.now c.frames.items l.place (trail_before c.trail l)) C.chained
        (alike-same (course_of c).present (state_of c.set.table.now c.frames.items l.place (trail_before c.trail l))
        (sym new-state))
        (λ path h. ap C.setting.walkable.before instr
        ∙ subst (λ o. LeadsTo C.setting.walkable.before o path) e h)

    -- all of its steps are left
    pub new-owed : l.next ≡ 0 → search_of l ≡ None
        → IsOwed c.set.sig.now c.set.code.now.instrs (read_of c.set.table.now c.frames.items c.trail l)
    new-owed next search = subst (IsOwed c.set.sig.now c.set.code.now.instrs) (sym (new-read next search))
        (λ i at r m. subst (In r) (sym (unread-steps c.set.sig.now c.set.code.now.instrs C.setting.walkable i.token n
        (course_of c).present (opens-ordered c.set.sig.now c.set.table.now c.frames.items C.frames c.place C.place))) m)

    pub new-level : l.frames ≡ length c.frames.items → search_of l ≡ None
        → IsLevel c.set c.frames.items c.trail l
    new-level frames search = record {
      instr = subst (λ m. IsSome (instr_at c.set.code.now.instrs m)) (sym instr) is-there;
      place = subst (λ m. IsPlaceBelow m l.place) (sym frames)
          (subst (IsPlaceBelow (length c.frames.items)) (sym place) C.place);
      room = subst (λ m. HasRoom (target_room c.set.code.now.instrs (Some m))
          (opens c.set.table.now c.frames.items l.place) (trail_before c.trail l)) (sym instr)
          (subst (λ o. HasRoom (target_room c.set.code.now.instrs (Some n)) (opens c.set.table.now c.frames.items o)
          (trail_before c.trail l)) (sym place)
          (subst (HasRoom (target_room c.set.code.now.instrs (Some n))
          (opens c.set.table.now c.frames.items c.place)) (sym whole)
          (subst (λ o. HasRoom (target_room c.set.code.now.instrs o) (opens c.set.table.now c.frames.items c.place)
          c.trail) e C.room)));
      searched = λ i held. subst (HasSearch c.set.table.now i.token (opens c.set.table.now c.frames.items l.place)
          (trail_before c.trail l)) (sym search) (no-search c.set.table.now i.token
          (innermost_left (opens c.set.table.now c.frames.items l.place)) (trail_before c.trail l));
      way = subst (IsAtWay l.next) (sym search) tt;
    }

    pub new-levels : l.frames ≡ length c.frames.items
        → AreLevels c.set c.frames.items c.trail c.levels.items l.frames (length_at l.mark)
    new-levels frames =
        subst (λ m. AreLevels c.set c.frames.items c.trail c.levels.items m
        (length_at l.mark)) (sym frames)
        (subst (AreLevels c.set c.frames.items c.trail c.levels.items (length c.frames.items))
        (sym mark) C.levels)

    -- it stands behind the levels
    pub new-standing : l.frames ≡ length c.frames.items → search_of l ≡ None
        → IsOwed c.set.sig.now c.set.code.now.instrs (read_of c.set.table.now c.frames.items c.trail l)
        → StandsBehind c.set c.frames.items c.trail c.levels.items l
    new-standing frames search owed = record {
      setting = C.setting;
      frames = C.frames;
      trail = C.trail;
      levels = new-levels frames;
      last = new-level frames search;
      places = omega (arith, frames);
      marks = omega (arith, mark);
      chained = new-chained;
      owed = owed;
      ended = C.ended;
    }
