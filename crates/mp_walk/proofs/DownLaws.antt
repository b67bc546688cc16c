-- What holds of a course when a token is left, or when a walk goes on below it.
use Rattle.std.proofs.Common.{◌≡◌, ◌≤◌, ◌<◌, ◌+◌, ◌-◌, ℕ, List, [], ◌∷◌, ◌++◌, map, length, Bool, true}
use Rattle.std.proofs.Common.{false, ◌&&◌, not, refl, ap, sym, ◌∙◌, subst, arith}
use Rattle.std.specs.Prelude.{Option, Some, None, IsSome, IfSome, is_none, is_some, slice_get, if◌then◌else◌}
use Rattle.std.specs.Prelude.{nat_lt}
use Rattle.std.specs.List.{AllByRecursion}
use Rattle.std.proofs.lemmas.List.{append_assoc, map-append}
use Rattle.mp_term.proofs.ListLaws.{all-append}
use Rattle.mp_term.specs.Listing.{In}
use Rattle.mp_term.specs.Signature.{Sig}
use Rattle.mp_pattern.specs.Fits.{Entry, Table}
use Rattle.mp_ac.specs.Store.{IsStoreOf}
use Rattle.mp_ac.specs.declared.store.CommStore.{CommStore}
use Rattle.mp_subst.specs.Trail.{Trail, length_at, cut}
use Rattle.mp_subst.proofs.TrailLaws.{cut-whole, item_at}
use Rattle.mp_table.specs.Table as plain_table
use Rattle.mp_table.specs.Table.{subject_of}
use Rattle.mp_theory.specs.Frames.{is_done}
use Rattle.mp_walk.specs.Rooms.{target_room}
use Rattle.mp_walk.proofs.RoomLaws.{below-room, beside-room}
use Rattle.mp_walk.specs.declared.frame.Frame.{Frame}
use Rattle.mp_walk.specs.declared.level.Level.{Level}
use Rattle.mp_walk.specs.declared.setting.Setting.{Setting}
use Rattle.mp_walk.specs.CodeForest.{leaf}
use Rattle.mp_walk.specs.Course.{Alike, Read, read_to_come, reads_to_come, table_read, walk_from}
use Rattle.mp_walk.specs.Chained.{IsChained}
use Rattle.mp_walk.specs.CourseView.{AreChained, LeadsTo, IsLeftBehind, IsMarked, IsTakenBehind}
use Rattle.mp_walk.specs.Forests.{put_out}
use Rattle.mp_walk.specs.Instrs.{Instr, instr_at}
use Rattle.mp_walk.specs.Levels.{read_of, state_of, step_cost, trail_before, HasRoom, AreLevels}
use Rattle.mp_walk.specs.OpenOnes.{IsPlaceBelow, AreFrames, open_of, opens}
use Rattle.std.proofs.lemmas.Bool.Decides.{nat_tests}
use Rattle.mp_walk.specs.TokenMachine.{Open, State, begin_state, token_steps, token_ends}
use Rattle.mp_walk.proofs.ChainLaws.{alike-same, chain-end, chain-more}
use Rattle.mp_walk.proofs.CodePaths.{down-target, over-target, instr-there}
use Rattle.mp_walk.proofs.OpenLaws.{opens-is}
use Rattle.std.proofs.lemmas.List.{length-append}
use Rattle.mp_walk.specs.CodeForest.{forest_of}
use Rattle.mp_walk.specs.Course.{after_step, entries_in, read_entries, opens_after, opens_by, IsWayValid}
use Rattle.mp_walk.specs.CourseView.{last_instr, IsCourse}
use Rattle.std.proofs.Common.{Vec, Global}
use Rattle.mp_walk.specs.SoundTokens.{IsSoundToken}
use Rattle.mp_walk.proofs.CourseLaws.{down-to_come, table_read-more, reads_to_come-more}
use Rattle.mp_walk.proofs.LevelLaws.{level-kept, levels-kept, levels-more, marked-same, read-kept, reads-kept}
use Rattle.mp_walk.proofs.LoadLaws.{load-step}
use Rattle.mp_walk.proofs.OpenLaws.{opens-append}
use Rattle.mp_walk.proofs.PathLaws.{token-sound}
use Rattle.mp_walk.proofs.VisitLaws.{total-more, over-visits, down-visits}
use Rattle.mp_walk.proofs.WalkSame.{walk-same, visits-same}
use Rattle.mp_walk.specs.CourseVisits.{visits_from, read_visits, visits_behind}
use Rattle.mp_walk.specs.Visits.{total}

-- ---- where an instruction accepts

module _ (sig : Sig) (t : plain_table.Table) (fs : List Frame) (are : AreFrames sig t fs) where
  -- a place that there is has open operations
  some-open : (o : Option ℕ) → IsPlaceBelow (length fs) o → (is_none o ≡ false) → opens t fs o ≡ [] → ⊥
  some-open None h n e = cc
  some-open (Some i) h n e =
      let at = item_at fs i h in
      let is = opens-is t sig fs are i at.0 at.1 in
      (let z : open_of t at.0 ∷ opens t fs at.0.outer ≡ [] = sym is ∙ e in cc)

  -- a state ends where only the root is open, and done
  pub ends-at : (i : ℕ) (f : Frame) → slice_get fs i ≡ Some f → IsPlaceBelow (length fs) f.outer → (u : Trail)
      → token_ends (state_of t fs (Some i) u) ≡ (is_none f.outer && is_done (open_of t f).left f.owes)
  ends-at i f at h u =
      ap (λ os. token_ends (record { open_ones = os; trail = (state_of t fs (Some i) u).trail }))
      (opens-is t sig fs are i f at)
      ∙ by_outer f.outer h
    where
      by_opens : (o : Option ℕ) (os : List Open) → opens t fs o ≡ os → IsPlaceBelow (length fs) o
          → (elim os as (λ _. Bool) [ [] ↦ is_done (open_of t f).left f.owes | g ∷ gs ↦ false ])
          ≡ (is_none o && is_done (open_of t f).left f.owes)
      by_opens None [] e h = refl
      by_opens None (g ∷ gs) e h = cc
      by_opens (Some j) [] e h = absurd (some-open (Some j) h refl e)
      by_opens (Some j) (g ∷ gs) e h = refl

      by_outer : (o : Option ℕ) → IsPlaceBelow (length fs) o
          → (elim (opens t fs o) as (λ _. Bool) [ [] ↦ is_done (open_of t f).left f.owes | g ∷ gs ↦ false ])
          ≡ (is_none o && is_done (open_of t f).left f.owes)
      by_outer o h = by_opens o (opens t fs o) refl h

-- the test for no value
pub none-told : {X : Type 0} (o : Option X) (r : Bool) → is_some o ≡ not r → r ≡ is_none o
none-told None true e = refl
none-told None false e = (let z : false ≡ true = e in cc)
none-told (Some x) true e = (let z : true ≡ false = e in cc)
none-told (Some x) false e = refl

-- what is put out of an instruction's number
pub put-leaf : (sig : Sig) (n : ℕ) (rs : List ℕ) (s : State) (before : Table) (b : Bool)
    → b ≡ (nat_lt 0 (length rs) && token_ends s)
    → put_out (token_steps sig) token_ends (leaf n rs) s before ≡ (if b then (n, before) ∷ [] else [])
put-leaf sig n [] s before b e =
    by_end (token_ends s) ∙ ap (λ c. if c then (n, before) ∷ [] else []) (sym e)
  where
    by_end : (c : Bool) → (if c then map {B = ℕ × Table} (λ m. (m, before)) [] else []) ≡ []
    by_end true = refl
    by_end false = refl
put-leaf sig n (r ∷ rs) s before b e =
    by_end (token_ends s) ∙ ap (λ c. if c then (n, before) ∷ [] else []) (sym (e ∙ some (token_ends s)))
  where
    some : (c : Bool) → (nat_lt 0 (length (r ∷ rs)) && c) ≡ c
    some c = rw (let z : nat_lt 0 (length (r ∷ rs)) ≡ true = grind (arith, nat_tests) in z) refl

    by_end : (c : Bool) → (if c then map {B = ℕ × Table} (λ m. (m, before)) (n ∷ []) else [])
        ≡ (if c then (n, before) ∷ [] else [])
    by_end true = refl
    by_end false = refl

-- where it is put out, the state is an end
pub put-ends : (sig : Sig) (n : ℕ) (rs : List ℕ) (s : State) (before : Table)
    → put_out (token_steps sig) token_ends (leaf n rs) s before ≡ (n, before) ∷ [] → token_ends s ≡ true
put-ends sig n rs s before e =
    by_end (token_ends s) (map {B = ℕ × Table} (λ m. (m, before)) (leaf n rs)) (n, before) e
  where
    by_end : (c : Bool) (xs : List (ℕ × Table)) (y : ℕ × Table) → (if c then xs else []) ≡ y ∷ [] → c ≡ true
    by_end true xs y e = refl
    by_end false xs y e = cc

-- what holds of a value that there may be
pub if-some : {X : Type 0} (P : X → Type 0) (o : Option X) → ((x : X) → o ≡ Some x → P x) → IfSome o P
if-some P None h = tt
if-some P (Some x) h = h x refl

-- ---- a token that is left

module _ {x : Setting} {fs : List Frame} {u : Trail} {ls : List Level} {l : Level} {i : Instr}
    (L : IsLeftBehind x fs u ls l i) where
  pub trail-whole : trail_before u l ≡ u
  trail-whole = ap (λ n. cut n u) (sym L.marks) ∙ cut-whole u

  pub over-place : IsPlaceBelow (length fs) l.place
  over-place = subst (λ n. IsPlaceBelow n l.place) (sym L.places) L.standing.last.place

  pub over-levels : AreLevels x fs u ls (length fs) (length u.stack)
  over-levels = subst (λ n. AreLevels x fs u ls n (length u.stack)) (sym L.places)
      (subst (AreLevels x fs u ls l.frames) (sym L.marks) L.standing.levels)

  pub over-there : (n : ℕ) → i.over ≡ Some n → IsSome (instr_at x.code.now.instrs n)
  over-there n e =
      let f = L.standing.setting.walkable.forward l.instr n i L.instr (over-target i n e) in
      let j = instr-there x.code.now.instrs n (omega (arith, f.0)) f.1 in
      rw j.1 refl

  pub over-room : HasRoom (target_room x.code.now.instrs i.over) (opens x.table.now fs l.place) u
  over-room =
      let room = subst (HasRoom (target_room x.code.now.instrs (Some l.instr)) (opens x.table.now fs l.place))
      trail-whole L.standing.last.room in
      let beside = beside-room x.code.now.instrs L.standing.setting.walkable.forward l.instr i L.instr in
      omega (arith, room, beside)

  -- and less is to be read
  pub over-less : visits_from x.sig.now x.code.now.instrs i.over (state_of x.table.now fs l.place u)
      + total (map (read_visits x.sig.now x.code.now.instrs) (map (read_of x.table.now fs u) ls))
      < visits_behind x.sig.now x.code.now.instrs (map (read_of x.table.now fs u) ls) (read_of x.table.now fs u l)
  over-less =
      let over = over-visits x.sig.now x.code.now.instrs (read_of x.table.now fs u l) i L.instr L.none in
      let same = ap (λ w. visits_from x.sig.now x.code.now.instrs i.over (state_of x.table.now fs l.place w))
      trail-whole in
      omega (arith, over, same)

  -- the tokens before it lead over it
  pub over-chained : AreChained x L.standing.setting.walkable.before fs u ls
      (LeadsTo L.standing.setting.walkable.before i.over) (state_of x.table.now fs l.place u)
  over-chained =
      let before = L.standing.setting.walkable.before in
      chain-end x.sig.now x.code.now.instrs before (λ path. before l.instr ≡ path) (LeadsTo before i.over) []
      (begin_state (subject_of x.table.now)) (map (read_of x.table.now fs u) ls)
      (state_of x.table.now fs l.place (trail_before u l)) (state_of x.table.now fs l.place u) L.standing.chained
      (alike-same (state_of x.table.now fs l.place (trail_before u l)) (state_of x.table.now fs l.place u)
      (ap (state_of x.table.now fs l.place) trail-whole))
      (λ path h. if-some (λ n. before n ≡ path) i.over
      (λ n e. L.standing.setting.walkable.paths.over l.instr n i L.instr e ∙ h))

-- ---- a walk that goes on below a token

-- the last instruction of levels with one more
last_instr-more : (ls : List Level) (l : Level) → last_instr (ls ++ l ∷ []) ≡ l.instr
last_instr-more [] l = refl
last_instr-more (k ∷ []) l = refl
last_instr-more (k ∷ m ∷ ls) l = last_instr-more (m ∷ ls) l

module _ {x : Setting} {fs : List Frame} {u : Trail} {ls : List Level} {before : Read} {l : Level} {i : Instr}
    (T : IsTakenBehind x fs u ls before l i) {place : ℕ} (at : l.place ≡ Some place) where
  pub down-place : place < length fs
  down-place = subst (λ n. place < n) (sym T.places) (subst (IsPlaceBelow l.frames) at T.standing.last.place)

  pub down-valid : (f : Frame) → slice_get fs place ≡ Some f → IsWayValid i.token (open_of x.table.now f) (l.next - 1)
  down-valid f e = T.valid (open_of x.table.now f) (opens x.table.now fs f.outer)
      (ap (opens x.table.now fs) at ∙ opens-is x.table.now x.sig.now fs T.standing.frames place f e)

  pub down-sound : IsSoundToken x.sig.now i.token
  down-sound = token-sound x.sig.now x.code.now.instrs T.standing.setting.walkable l.instr i T.instr

  module _ (o : Option ℕ) (gs more : List Frame) (made : gs ≡ fs ++ more)
      (is : opens x.table.now gs o ≡ opens_after i.token (opens x.table.now fs (Some place)) (l.next - 1)) where
    -- nothing changes at the places that there were
    kept-opens : (p : Option ℕ) → IsPlaceBelow l.frames p → opens x.table.now gs p ≡ opens x.table.now fs p
    kept-opens p h = ap (λ z. opens x.table.now z p) made
        ∙ opens-append x.table.now fs more p (subst (λ n. IsPlaceBelow n p) (sym T.places) h)

    longer : l.frames ≤ length gs
    longer = (let e = ap length made in let n = length-append fs more in let k = T.places in omega (arith, e, n, k))

    pub down-levels : AreLevels x gs u (ls ++ l ∷ []) (length gs) (length u.stack)
    down-levels =
        levels-more x gs u ls l (length gs) (length u.stack)
        (levels-kept x fs gs u u l.frames (length_at l.mark) kept-opens
        (λ n h. refl) ls T.standing.levels)
        (level-kept x fs gs u u l.frames (length_at l.mark) kept-opens
        (λ n h. refl) l
        (omega arith) (omega arith) T.standing.last)
        longer T.standing.marks

    pub down-there : (n : ℕ) → i.down ≡ Some n → IsSome (instr_at x.code.now.instrs n)
    down-there n e =
        let f = T.standing.setting.walkable.forward l.instr n i T.instr (down-target i n e) in
        let j = instr-there x.code.now.instrs n (omega (arith, f.0)) f.1 in
        rw j.1 refl

    -- the open operations before the token
    opened-before : (f : Frame) → slice_get fs place ≡ Some f
        → opens x.table.now fs (Some place) ≡ open_of x.table.now f ∷ opens x.table.now fs f.outer
    opened-before f e = opens-is x.table.now x.sig.now fs T.standing.frames place f e

    pub down-room : HasRoom (target_room x.code.now.instrs i.down) (opens x.table.now gs o) u
    down-room =
        let at_place = item_at fs place down-place in
        let f = open_of x.table.now at_place.0 in
        let outer = opens x.table.now fs at_place.0.outer in
        let before : opens x.table.now fs l.place ≡ f ∷ outer =
        ap (opens x.table.now fs) at ∙ opened-before at_place.0 at_place.1 in
        let load = load-step i.token f outer (l.next - 1) (down-valid at_place.0 at_place.1) in
        let below = below-room x.code.now.instrs T.standing.setting.walkable.forward l.instr i T.instr in
        let room = subst (λ os. HasRoom (target_room x.code.now.instrs (Some l.instr)) os (trail_before u l)) before
        T.standing.last.room in
        let spare = subst (λ os. (trail_before u l).spare ≤ u.spare + step_cost i.token os (l.next - 1)) before
        T.lies.spare in
        let now : opens x.table.now gs o ≡ opens_by i.token f outer (l.next - 1) =
        is ∙ ap (λ os. opens_after i.token os (l.next - 1)) (opened-before at_place.0 at_place.1) in
        subst (λ os. HasRoom (target_room x.code.now.instrs i.down) os u) (sym now)
        (omega (arith, load, below, room, spare))

    -- ---- the tokens that are read

    abbrev own : Read
    own = read_of x.table.now fs u l

    abbrev old_reads : List Read
    old_reads = map (read_of x.table.now fs u) ls

    abbrev new_reads : List Read
    new_reads = map (read_of x.table.now gs u) (ls ++ l ∷ [])

    reads-more : new_reads ≡ old_reads ++ own ∷ []
    reads-more =
        map-append (read_of x.table.now gs u) ls (l ∷ [])
        ∙ ap (λ rs. rs ++ read_of x.table.now gs u l ∷ [])
        (reads-kept x fs gs u u l.frames (length_at l.mark) kept-opens
        (λ n h. refl) ls T.standing.levels)
        ∙ ap (λ r. old_reads ++ r ∷ [])
        (read-kept x fs gs u u l.frames (length_at l.mark) kept-opens (λ n h. refl) l
        (omega arith) (omega arith) T.standing.last.place)

    abbrev present : State
    present = state_of x.table.now gs o u

    step-same : Alike T.step.step.1 present
    step-same = record {
      open_ones = T.step.opens ∙ ap (λ s. opens_after i.token s.open_ones (l.next - 1)) T.state
          ∙ ap (λ p. opens_after i.token (opens x.table.now fs p) (l.next - 1)) at ∙ sym is;
      trail = T.step.trail;
    }

    -- the entries of the token are those of its step
    entries-own : read_entries x.code.now.instrs own ≡ T.step.step.0
    entries-own = ap (λ m. elim m as (λ _. List Entry) [ None ↦ [] | Some j ↦ entries_in j.token own ]) T.instr
        ∙ sym T.step.entries

    -- the tokens lead on below it
    pub down-chained : AreChained x T.standing.setting.walkable.before gs u (ls ++ l ∷ [])
        (LeadsTo T.standing.setting.walkable.before i.down) present
    down-chained =
        let walkable = T.standing.setting.walkable in
        subst (λ rs. IsChained x.sig.now x.code.now.instrs walkable.before (LeadsTo walkable.before i.down) []
        (begin_state (subject_of x.table.now)) rs present) (sym reads-more)
        (chain-more x.sig.now x.code.now.instrs walkable.before (LeadsTo walkable.before i.down) []
        (begin_state (subject_of x.table.now)) old_reads own i T.step.step present T.standing.chained T.standing.owed
        T.instr (subst (λ s. In T.step.step (token_steps x.sig.now s i.token)) T.state T.owned) (sym entries-own)
        step-same
        (if-some (λ n. walkable.before n ≡ walkable.before l.instr ++ i.token ∷ []) i.down
        (λ n e. walkable.paths.down l.instr n i T.instr e)))

    -- ---- what is still to come

    table-more : table_read x.code.now.instrs new_reads ≡ table_read x.code.now.instrs old_reads ++ T.step.step.0
    table-more =
        ap (table_read x.code.now.instrs) reads-more ∙ table_read-more x.sig.now x.code.now.instrs old_reads own
        ∙ ap (λ es. table_read x.code.now.instrs old_reads ++ es) entries-own

    abbrev put : List (ℕ × Table)
    put = put_out (token_steps x.sig.now) token_ends (leaf l.instr i.accepts) present
        (table_read x.code.now.instrs new_reads)

    abbrev below_to_come : List (ℕ × Table)
    below_to_come = walk_from x.sig.now x.code.now.instrs i.down present (table_read x.code.now.instrs new_reads)

    step-to_come : after_step x.sig.now x.code.now.instrs before.instr i
        (table_read x.code.now.instrs old_reads) T.step.step
        ≡ put ++ below_to_come
    step-to_come =
        ap (λ n. after_step x.sig.now x.code.now.instrs n i (table_read x.code.now.instrs old_reads) T.step.step) T.same
        ∙ ap (λ b. put_out (token_steps x.sig.now) token_ends (leaf l.instr i.accepts) T.step.step.1 b
        ++ walk_from x.sig.now x.code.now.instrs i.down T.step.step.1 b) (sym table-more)
        ∙ ap (λ xs. put_out (token_steps x.sig.now) token_ends (leaf l.instr i.accepts) T.step.step.1
        (table_read x.code.now.instrs new_reads) ++ xs)
        (walk-same x.sig.now (forest_of x.code.now.instrs i.down) T.step.step.1 present
        (table_read x.code.now.instrs new_reads) step-same)
        ∙ ap (λ os. put_out (token_steps x.sig.now) token_ends (leaf l.instr i.accepts)
        (record { open_ones = os; trail = T.step.step.1.trail }) (table_read x.code.now.instrs new_reads)
        ++ below_to_come) step-same.open_ones

    -- what is to come of the token is what it puts out, and what is to come then
    pub down-to_come_put : read_to_come x.sig.now x.code.now.instrs (table_read x.code.now.instrs old_reads) before
        ++ reads_to_come x.sig.now x.code.now.instrs [] old_reads
        ≡ put ++ (below_to_come ++ reads_to_come x.sig.now x.code.now.instrs [] new_reads)
    down-to_come_put =
        ap (λ xs. xs ++ reads_to_come x.sig.now x.code.now.instrs [] old_reads)
        (down-to_come x.sig.now x.code.now.instrs (table_read x.code.now.instrs old_reads) before own i T.step.step
        (ap (instr_at x.code.now.instrs) T.same ∙ T.instr) (sym T.same) (sym T.state) T.step.left
        ∙ ap (λ xs. xs ++ read_to_come x.sig.now x.code.now.instrs
        (table_read x.code.now.instrs old_reads) own) step-to_come)
        ∙ append_assoc (put ++ below_to_come)
        (read_to_come x.sig.now x.code.now.instrs (table_read x.code.now.instrs old_reads) own)
        (reads_to_come x.sig.now x.code.now.instrs [] old_reads)
        ∙ ap (λ xs. (put ++ below_to_come) ++ xs)
        (sym (ap (reads_to_come x.sig.now x.code.now.instrs []) reads-more
        ∙ reads_to_come-more x.sig.now x.code.now.instrs [] old_reads own))
        ∙ append_assoc put below_to_come (reads_to_come x.sig.now x.code.now.instrs [] new_reads)

    pub down-item : ◌≡◌ {A = ℕ × Table} (last_instr (ls ++ l ∷ []), table_read x.code.now.instrs new_reads)
        (l.instr, table_read x.code.now.instrs new_reads)
    down-item = ap (λ n. (n, table_read x.code.now.instrs new_reads)) (last_instr-more ls l)

    -- an item is found, or none
    pub down-found : (ks : List Level) → ks ≡ ls ++ l ∷ []
        → ((n : ℕ) (b : Table) → put_out (token_steps x.sig.now) token_ends (leaf n i.accepts) present b ≡ (n, b) ∷ [])
        → ◌≡◌ {A = List (ℕ × Table)}
        (read_to_come x.sig.now x.code.now.instrs (table_read x.code.now.instrs old_reads) before
        ++ reads_to_come x.sig.now x.code.now.instrs [] old_reads)
        ((last_instr ks, table_read x.code.now.instrs (map (read_of x.table.now gs u) ks))
        ∷ (walk_from x.sig.now x.code.now.instrs i.down present
        (table_read x.code.now.instrs (map (read_of x.table.now gs u) ks))
        ++ reads_to_come x.sig.now x.code.now.instrs [] (map (read_of x.table.now gs u) ks)))
    down-found ks e h =
        subst (λ ms. ◌≡◌ {A = List (ℕ × Table)}
        (read_to_come x.sig.now x.code.now.instrs (table_read x.code.now.instrs old_reads) before
        ++ reads_to_come x.sig.now x.code.now.instrs [] old_reads)
        ((last_instr ms, table_read x.code.now.instrs (map (read_of x.table.now gs u) ms))
        ∷ (walk_from x.sig.now x.code.now.instrs i.down present
        (table_read x.code.now.instrs (map (read_of x.table.now gs u) ms))
        ++ reads_to_come x.sig.now x.code.now.instrs [] (map (read_of x.table.now gs u) ms)))) (sym e)
        (down-to_come_put
        ∙ ap (λ ps. ps ++ (below_to_come ++ reads_to_come x.sig.now x.code.now.instrs [] new_reads))
        (h l.instr (table_read x.code.now.instrs new_reads))
        ∙ ap (λ p. p ∷ (below_to_come ++ reads_to_come x.sig.now x.code.now.instrs [] new_reads)) (sym down-item))

    pub down-on : (ks : List Level) → ks ≡ ls ++ l ∷ []
        → ((n : ℕ) (b : Table) → put_out (token_steps x.sig.now) token_ends (leaf n i.accepts) present b ≡ [])
        → walk_from x.sig.now x.code.now.instrs i.down present
        (table_read x.code.now.instrs (map (read_of x.table.now gs u) ks))
        ++ reads_to_come x.sig.now x.code.now.instrs [] (map (read_of x.table.now gs u) ks)
        ≡ read_to_come x.sig.now x.code.now.instrs (table_read x.code.now.instrs old_reads) before
        ++ reads_to_come x.sig.now x.code.now.instrs [] old_reads
    down-on ks e h =
        subst (λ ms. walk_from x.sig.now x.code.now.instrs i.down present
        (table_read x.code.now.instrs (map (read_of x.table.now gs u) ms))
        ++ reads_to_come x.sig.now x.code.now.instrs [] (map (read_of x.table.now gs u) ms)
        ≡ read_to_come x.sig.now x.code.now.instrs (table_read x.code.now.instrs old_reads) before
        ++ reads_to_come x.sig.now x.code.now.instrs [] old_reads) (sym e)
        (sym (down-to_come_put
        ∙ ap (λ ps. ps ++ (below_to_come ++ reads_to_come x.sig.now x.code.now.instrs [] new_reads))
        (h l.instr (table_read x.code.now.instrs new_reads))))

    -- and less is to be read
    pub down-less : (ks : List Level) → ks ≡ ls ++ l ∷ []
        → visits_from x.sig.now x.code.now.instrs i.down present
        + total (map (read_visits x.sig.now x.code.now.instrs) (map (read_of x.table.now gs u) ks))
        < visits_behind x.sig.now x.code.now.instrs old_reads before
    down-less ks e =
        let sig = x.sig.now in
        let code = x.code.now.instrs in
        let taken = down-visits sig code before own i T.step.step (ap (instr_at code) T.same ∙ T.instr) (sym T.same)
        (sym T.state) T.step.left in
        let alike = visits-same sig (forest_of code i.down) T.step.step.1 present step-same in
        let more = ap (λ ms. total (map (read_visits sig code) (map (read_of x.table.now gs u) ms))) e
        ∙ ap (λ rs. total (map (read_visits sig code) rs)) reads-more
        ∙ total-more (read_visits sig code) old_reads own in
        omega (arith, taken, alike, more)

-- a step of a token is taken, whether it is then said to be ended or not
pub taken-marked : {x : Setting} {fs : List Frame} {u : Trail} {ls : List Level} {before : Read} {l : Level} {i : Instr}
    → IsTakenBehind x fs u ls before l i → (b : Bool) → IsTakenBehind x fs u ls before (record l { ended = b }) i
taken-marked T b = record {
  standing = record {
    setting = T.standing.setting;
    frames = T.standing.frames;
    trail = T.standing.trail;
    levels = T.standing.levels;
    last = record {
      instr = T.standing.last.instr;
      place = T.standing.last.place;
      room = T.standing.last.room;
      searched = T.standing.last.searched;
      way = T.standing.last.way;
    };
    places = T.standing.places;
    marks = T.standing.marks;
    chained = T.standing.chained;
    owed = T.standing.owed;
    ended = T.standing.ended;
  };
  instr = T.instr;
  same = T.same;
  state = T.state;
  step = T.step;
  owned = T.owned;
  valid = T.valid;
  lies = T.lies;
  places = T.places;
}

-- the course below the token
module _ {x : Setting} {fs : List Frame} {u : Trail} {ls : List Level} {before : Read} {l : Level} {i : Instr}
    (T : IsTakenBehind x fs u ls before l i) {place : ℕ} (at : l.place ≡ Some place) where
  pub down-course : (o : Option ℕ) (frames : Vec Frame Global) (more : List Frame) (made : frames.items ≡ fs ++ more)
      (is : opens x.table.now frames.items o ≡ opens_after i.token (opens x.table.now fs (Some place)) (l.next - 1))
      → IsPlaceBelow (length frames.items) o → AreFrames x.sig.now x.table.now frames.items → IsMarked x fs u l
      → (levels : Vec Level Global) → levels.items ≡ ls ++ l ∷ [] → (alloc : Global)
      → (store : CommStore) → IsStoreOf x.table.now x.code.now.plans.plans store
      → IsCourse (record {
        alloc = alloc;
        set = x;
        trail = u;
        frames = frames;
        levels = levels;
        store = store;
        place = o;
        target = i.down;
      })
  down-course o frames more made is below are marked levels ks alloc store S = record {
    setting = T.standing.setting;
    frames = are;
    place = below;
    trail = T.standing.trail;
    levels = subst (λ ms. AreLevels x frames.items u ms (length frames.items) (length u.stack)) (sym ks)
        (down-levels T at o frames.items more made is);
    store = S;
    there = if-some _ i.down (down-there T at o frames.items more made is);
    room = down-room T at o frames.items more made is;
    chained = subst (λ ms. AreChained x T.standing.setting.walkable.before frames.items u ms
        (LeadsTo T.standing.setting.walkable.before i.down) (state_of x.table.now frames.items o u)) (sym ks)
        (down-chained T at o frames.items more made is);
    ended = subst (AllByRecursion (IsMarked x frames.items u)) (sym ks)
        (marked-same x fs frames.items u u (ls ++ l ∷ [])
        (reads-more T at o frames.items more made is ∙ sym (map-append (read_of x.table.now fs u) ls (l ∷ [])))
        (all-append (IsMarked x fs u) ls (l ∷ []) T.standing.ended (marked, tt)));
  }
