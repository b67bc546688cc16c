-- What holds of the tokens before one of which nothing is left, and beside which nothing stands.
use Rattle.std.proofs.Common.{◌≡◌, ℕ, List, [], ◌∷◌, ◌++◌, map, length, refl, ap, sym, ◌∙◌, subst, arith}
use Rattle.std.specs.Prelude.{◌≤◌, Bool, true, false, not, is_some, Option, Some, None, Result, Ok, Err, IfOk}
use Rattle.std.specs.List.{AllByRecursion}
use Rattle.std.proofs.lemmas.List.{map-append}
use Rattle.mp_pattern.specs.Fits.{Table}
use Rattle.mp_subst.specs.Trail.{Trail, length_at}
use Rattle.mp_term.specs.declared.memory.Memory.{Memory}
use Rattle.mp_term.proofs.ListLaws.{all-split}
use Rattle.mp_walk.specs.declared.course.Course.{Course}
use Rattle.mp_walk.specs.declared.course.Turn.{Turn}
use Rattle.mp_walk.specs.declared.course.Turn.TheVariants.{On, Found, Ended}
use Rattle.mp_walk.specs.declared.frame.Frame.{Frame}
use Rattle.mp_walk.specs.declared.level.Level.{Level}
use Rattle.mp_walk.specs.declared.setting.Setting.{Setting}
use Rattle.mp_walk.specs.Chained.{IsChained}
use Rattle.mp_walk.specs.Below.{below_ahead}
use Rattle.mp_walk.specs.Course.{IsEnded, is_comm_token, reads_to_come, steps_left, table_read, walk_from}
use Rattle.mp_walk.specs.CourseView.{reads_of, course_of, course_to_come, IsCourse, IsMarked, StandsBehind}
use Rattle.mp_walk.specs.CourseVisits.{course_visits, read_visits, visits_behind, visits_from, IsFewer}
use Rattle.mp_walk.specs.Instrs.{Instr, instr_at}
use Rattle.mp_walk.specs.Levels.{read_of, search_of, state_of, trail_before, AreLevels}
use Rattle.mp_walk.specs.OpenOnes.{opens}
use Rattle.mp_ac.specs.Numbered.{numbered_subst}
use Rattle.mp_walk.specs.TokenMachine.{begin_state}
use Rattle.mp_walk.specs.Visits.{total}
use Rattle.mp_table.specs.Table.{subject_of}
use Rattle.mp_walk.proofs.ChainLaws.{chain-last}
use Rattle.mp_walk.proofs.CourseLaws.{over-to_come, reads_to_come-more}
use Rattle.mp_walk.proofs.LastLaws.{there, last-chained}
use Rattle.mp_walk.proofs.LevelLaws.{levels-last}
use Rattle.mp_walk.proofs.ReadingLaws.{single-search}
use Rattle.mp_walk.proofs.SpentLaws.{IsSpentIn}
use Rattle.mp_walk.proofs.StandingLaws.{behind_to_come}
use Rattle.mp_walk.proofs.TurnLaws.{none-to_come}
use Rattle.mp_walk.proofs.VisitLaws.{total-more, none-visits}

-- nothing is there where that is told
pub none-there : (o : Option ℕ) (b : Bool) → is_some o ≡ not b → b ≡ true → o ≡ None
none-there None b e h = refl
none-there (Some n) true e h = cc
none-there (Some n) false e h = cc

-- less than so much is less than more
pub fewer-more : (r : Result Turn Memory) (m n o : ℕ) → n ≤ o → IfOk r (IsFewer m n) → IfOk r (IsFewer m o)
fewer-more (Ok On) m n o most h = omega (arith, most, h)
fewer-more (Ok Found) m n o most h = omega (arith, most, h)
fewer-more (Ok Ended) m n o most h = tt
fewer-more (Err e) m n o most h = tt

module _ (x : Setting) (fs : List Frame) (u : Trail) where
  -- each token stands behind those before it
  abbrev pub AreStanding : List Level → Type 0
  AreStanding ls = (ms : List Level) (m : Level) → ls ≡ ms ++ m ∷ [] → StandsBehind x fs u ms m

  -- so do those before one that does
  pub standing-before : (ls : List Level) (l : Level) → StandsBehind x fs u ls l → AreStanding ls
  standing-before ls l S ms m split =
      let before = S.setting.walkable.before in
      let read = read_of x.table.now fs u in
      let start = begin_state (subject_of x.table.now) in
      let state = state_of x.table.now fs l.place (trail_before u l) in
      let p = levels-last x fs u ms m l.frames (length_at l.mark)
      (subst (λ ks. AreLevels x fs u ks l.frames (length_at l.mark)) split S.levels) in
      let h = chain-last x.sig.now x.code.now.instrs before (λ path. before l.instr ≡ path) [] start (map read ms)
      (read m) state
      (subst (λ rs. IsChained x.sig.now x.code.now.instrs before (λ path. before l.instr ≡ path) [] start rs state)
      (ap (map read) split ∙ map-append read ms (m ∷ [])) S.chained) in
      record {
        setting = S.setting;
        frames = S.frames;
        trail = S.trail;
        levels = p.levels;
        last = p.last;
        places = (let a = p.places in let b = S.places in omega (arith, a, b));
        marks = (let a = p.marks in let b = S.marks in omega (arith, a, b));
        chained = h.0;
        owed = h.1;
        ended = (all-split (IsMarked x fs u) ms (m ∷ [])
            (subst (AllByRecursion (IsMarked x fs u)) split S.ended)).0;
      }

  -- what is to come of the last token and of those before it
  pub reads-last : (ls : List Level) (l : Level)
      → reads_to_come x.sig.now x.code.now.instrs [] (map (read_of x.table.now fs u) (ls ++ l ∷ []))
      ≡ behind_to_come x fs u ls (read_of x.table.now fs u l)
  reads-last ls l =
      let read = read_of x.table.now fs u in
      ap (reads_to_come x.sig.now x.code.now.instrs []) (map-append read ls (l ∷ []))
      ∙ reads_to_come-more x.sig.now x.code.now.instrs [] (map read ls) (read l)

  -- and how much is to be read of them
  pub visits-last : (ls : List Level) (l : Level)
      → total (map (read_visits x.sig.now x.code.now.instrs) (map (read_of x.table.now fs u) (ls ++ l ∷ [])))
      ≡ visits_behind x.sig.now x.code.now.instrs (map (read_of x.table.now fs u) ls) (read_of x.table.now fs u l)
  visits-last ls l =
      let read = read_of x.table.now fs u in
      let visits = read_visits x.sig.now x.code.now.instrs in
      ap (λ rs. total (map visits rs)) (map-append read ls (l ∷ [])) ∙ total-more visits (map read ls) (read l)

  -- a token that is spent is ended where nothing stands beside it
  pub spent-ended : (ls : List Level) (l : Level) → StandsBehind x fs u ls l → (i : Instr)
      → instr_at x.code.now.instrs l.instr ≡ Some i → i.over ≡ None → IsSpentIn x fs l.place i l.next
      → is_comm_token i.token ≡ false → IsEnded x.sig.now x.code.now.instrs (read_of x.table.now fs u l)
  spent-ended ls l S i held over spent single j at =
      let t = x.table.now in
      let read = read_of t fs u l in
      let one : Some i ≡ Some j = sym held ∙ at in
      let same : i ≡ j = cc in
      let none = single-search t i.token (opens t fs l.place) (trail_before u l) (search_of l) single
      (S.last.searched i held) in
      subst (λ (k : Instr). (k.over ≡ None) × (steps_left x.sig.now k.token read ≡ [])) same (
        over,
        spent read refl refl (ap (λ o. below_ahead o (numbered_subst t (trail_before u l).stack)) none),
      )

  -- of a token that is ended nothing is to come
  pub ended-reads : (ls : List Level) (l : Level) → StandsBehind x fs u ls l
      → IsEnded x.sig.now x.code.now.instrs (read_of x.table.now fs u l)
      → behind_to_come x fs u ls (read_of x.table.now fs u l)
      ≡ reads_to_come x.sig.now x.code.now.instrs [] (map (read_of x.table.now fs u) ls)
  ended-reads ls l S ended =
      let code = x.code.now.instrs in
      let read = read_of x.table.now fs u in
      let before = table_read code (map read ls) in
      let i = there (instr_at code l.instr) S.last.instr in
      let e = ended i.0 i.1 in
      ap (λ is. is ++ reads_to_come x.sig.now code [] (map read ls))
      (over-to_come x.sig.now code before (read l) i.0 i.1 e.1
      ∙ ap (λ o. walk_from x.sig.now code o (read l).state before) e.0
      ∙ none-to_come x.sig.now code S.setting.walkable (read l).state before)

  -- the last of all tokens, of which so much is to come and to be read
  module _ (all ls : List Level) (l : Level) (split : all ≡ ls ++ l ∷ []) (standing : AreStanding all)
      (to_come : List (ℕ × Table)) (n : ℕ)
      (reads : reads_to_come x.sig.now x.code.now.instrs [] (map (read_of x.table.now fs u) all) ≡ to_come)
      (most : total (map (read_visits x.sig.now x.code.now.instrs) (map (read_of x.table.now fs u) all)) ≤ n) where
    last-reads : behind_to_come x fs u ls (read_of x.table.now fs u l) ≡ to_come
    last-reads =
        sym (reads-last ls l)
        ∙ ap (λ ks. reads_to_come x.sig.now x.code.now.instrs [] (map (read_of x.table.now fs u) ks)) (sym split)
        ∙ reads

    last-visits : visits_behind x.sig.now x.code.now.instrs (map (read_of x.table.now fs u) ls)
        (read_of x.table.now fs u l) ≤ n
    last-visits =
        let visits = read_visits x.sig.now x.code.now.instrs in
        let h = ap (λ ks. total (map visits (map (read_of x.table.now fs u) ks))) split
        ∙ visits-last ls l in
        omega (arith, h, most)

    -- it stands behind those before it
    pub last-standing : StandsBehind x fs u ls l
        × (behind_to_come x fs u ls (read_of x.table.now fs u l) ≡ to_come)
        × (visits_behind x.sig.now x.code.now.instrs (map (read_of x.table.now fs u) ls) (read_of x.table.now fs u l)
        ≤ n)
    last-standing = (standing ls l split, last-reads, last-visits)

    -- where it is said to be ended, all that is to come is that of those before it
    pub ended-before : AllByRecursion (IsMarked x fs u) all → l.ended ≡ true → AreStanding ls
        × (reads_to_come x.sig.now x.code.now.instrs [] (map (read_of x.table.now fs u) ls) ≡ to_come)
        × (total (map (read_visits x.sig.now x.code.now.instrs) (map (read_of x.table.now fs u) ls)) ≤ n)
        × AllByRecursion (IsMarked x fs u) ls
    ended-before marked said =
        let S = standing ls l split in
        let m = all-split (IsMarked x fs u) ls (l ∷ []) (subst (AllByRecursion (IsMarked x fs u)) split marked) in (
          standing-before ls l S,
          sym (ended-reads ls l S (m.1.0 said)) ∙ last-reads,
          (let h = last-visits in omega (arith, h)),
          m.0,
        )

module _ (c : Course) (C : IsCourse c) (e : c.target ≡ None) where
  -- where no instruction is to be tried, each token that is read stands behind those before it
  pub course-standing : AreStanding c.set c.frames.items c.trail c.levels.items
  course-standing ms m split =
      let p = levels-last c.set c.frames.items c.trail ms m (length c.frames.items) (length c.trail.stack)
      (subst (λ ls. AreLevels c.set c.frames.items c.trail ls (length c.frames.items) (length c.trail.stack)) split
      C.levels) in
      let h = last-chained c C ms m split in
      record {
        setting = C.setting;
        frames = C.frames;
        trail = C.trail;
        levels = p.levels;
        last = p.last;
        places = p.places;
        marks = p.marks;
        chained = h.0;
        owed = h.1;
        ended = (all-split (IsMarked c.set c.frames.items c.trail) ms (m ∷ [])
            (subst (AllByRecursion (IsMarked c.set c.frames.items c.trail)) split C.ended)).0;
      }

  -- what is to come is that of them
  pub course-reads : reads_to_come c.set.sig.now c.set.code.now.instrs [] (reads_of c) ≡ course_to_come c
  course-reads =
      let sig = c.set.sig.now in
      let code = c.set.code.now.instrs in
      let p = (course_of c).present in
      let before = table_read code (reads_of c) in
      let left = reads_to_come sig code [] (reads_of c) in
      sym (ap (λ o. walk_from sig code o p before ++ left) e
      ∙ ap (λ is. is ++ left) (none-to_come sig code C.setting.walkable p before))

  -- and so is how much is to be read
  pub course-total : total (map (read_visits c.set.sig.now c.set.code.now.instrs) (reads_of c)) ≡ course_visits c
  course-total =
      let sig = c.set.sig.now in
      let code = c.set.code.now.instrs in
      let p = (course_of c).present in
      let none = ap (λ o. visits_from sig code o p) e ∙ none-visits sig code C.setting.walkable p in
      omega (arith, none)
