-- What the course of a walk is read as, and what holds of it.
use Rattle.std.specs.Prelude.{◌≡◌, ◌≤◌, ◌-◌, ℕ, true, List, [], ◌∷◌, ◌++◌, length, map, Option, Some, IsSome, IfSome}
use Rattle.std.specs.Prelude.{IsTrue}
use Rattle.std.specs.List.{AllByRecursion}
use Rattle.mp_term.specs.Listing.{In}
use Rattle.mp_pattern.specs.Fits.{Table}
use Rattle.mp_ac.specs.Store.{IsStoreOf}
use Rattle.mp_subst.specs.Trail.{Trail, length_at}
use Rattle.mp_walk.specs.declared.frame.Frame.{Frame}
use Rattle.mp_walk.specs.declared.setting.Setting.{Setting}
use Rattle.mp_walk.specs.declared.course.Course.{Course}
use Rattle.mp_walk.specs.declared.course.Turn.{Turn}
use Rattle.mp_walk.specs.declared.course.Turn.TheVariants.{On, Found, Ended}
use Rattle.mp_walk.specs.declared.level.Level.{Level}
use Rattle.mp_walk.specs.Chained.{IsChained, IsOwed}
use Rattle.mp_walk.specs.Course as plain
use Rattle.mp_walk.specs.Course.{Read, read_to_come, reads_to_come, table_read, to_come_in, steps_left}
use Rattle.mp_walk.specs.Course.{IsEnded, IsWayValid, IsStepTaken}
use Rattle.mp_walk.specs.Instrs.{Instr, instr_at}
use Rattle.mp_walk.specs.Levels.{read_of, state_of, step_cost, trail_before, HasRoom, IsLevel, AreLevels}
use Rattle.mp_walk.specs.OpenOnes.{IsPlaceBelow, AreFrames, opens}
use Rattle.mp_walk.specs.Setting.{IsSetting}
use Rattle.mp_walk.specs.Rooms.{target_room}
use Rattle.mp_walk.specs.TokenMachine.{Open, State, begin_state, token_steps, token_ends}
use Rattle.mp_ac.specs.Numbered.{numbered_subst, IsTrailOf, LiesOver}
use Rattle.mp_walk.specs.Walkable.{Path}
use Rattle.mp_table.specs.Table.{subject_of}

-- the tokens that are read
abbrev pub reads_of : Course → List Read
reads_of c = map (read_of c.set.table.now c.frames.items c.trail) c.levels.items

-- with the state after them, and the instruction that is to be tried
abbrev pub course_of : Course → plain.Course
course_of c = record {
  reads = reads_of c;
  present = state_of c.set.table.now c.frames.items c.place c.trail;
  target = c.target;
}

-- what is still to come
abbrev pub course_to_come : Course → List (ℕ × Table)
course_to_come c = to_come_in c.set.sig.now c.set.code.now.instrs (course_of c)

-- what is still to come of a token, and of those that are read before it
abbrev pub token_to_come : Course → Read → List (ℕ × Table)
token_to_come c l =
    read_to_come c.set.sig.now c.set.code.now.instrs (table_read c.set.code.now.instrs (reads_of c)) l
    ++ reads_to_come c.set.sig.now c.set.code.now.instrs [] (reads_of c)

-- the number of the last instruction that is read
abbrev pub last_instr : List Level → ℕ
last_instr [] = 0
last_instr (l ∷ []) = l.instr
last_instr (l ∷ m ∷ ls) = last_instr (m ∷ ls)

-- the item at hand: that instruction, and the entries of the tokens
abbrev pub item_of : Course → ℕ × Table
item_of c = (last_instr c.levels.items, table_read c.set.code.now.instrs (reads_of c))

-- the tokens that are read lead from the first state to this one, and so it is with the path behind them
abbrev pub AreChained : (x : Setting) → (ℕ → Path) → List Frame → Trail → List Level → (Path → Type 0) → State → Type 0
AreChained x before fs u ls Then s =
    IsChained x.sig.now x.code.now.instrs before Then [] (begin_state (subject_of x.table.now))
    (map (read_of x.table.now fs u) ls) s

-- the path leads to an instruction, where there is one
abbrev pub LeadsTo : (ℕ → Path) → Option ℕ → Path → Type 0
LeadsTo before target path = IfSome target (λ n. before n ≡ path)

-- a token that is said to be ended is so
abbrev pub IsMarked : Setting → List Frame → Trail → Level → Type 0
IsMarked x fs u l = IsTrue l.ended → IsEnded x.sig.now x.code.now.instrs (read_of x.table.now fs u l)

-- the frames, the levels and the trail fit together, and the store is of the table; the instruction that is to be
-- tried is there; the trail has room for what comes; the tokens that are read lead to it; and those that are said to be
-- ended are so
pub record IsCourse (c : Course) : Type 0 where
  pub setting : IsSetting c.set
  pub frames : AreFrames c.set.sig.now c.set.table.now c.frames.items
  pub place : IsPlaceBelow (length c.frames.items) c.place
  pub trail : IsTrailOf c.set.table.now c.trail
  pub levels : AreLevels c.set c.frames.items c.trail c.levels.items (length c.frames.items)
      (length c.trail.stack)
  pub store : IsStoreOf c.set.table.now c.set.code.now.plans.plans c.store
  pub there : IfSome c.target (λ n. IsSome (instr_at c.set.code.now.instrs n))
  pub room : HasRoom (target_room c.set.code.now.instrs c.target) (opens c.set.table.now c.frames.items c.place) c.trail
  pub chained : AreChained c.set setting.walkable.before c.frames.items c.trail c.levels.items
      (LeadsTo setting.walkable.before c.target) (course_of c).present
  pub ended : AllByRecursion (IsMarked c.set c.frames.items c.trail) c.levels.items

-- an item is found: only the root is open, and it is done
abbrev pub IsAtItem : Course → Type 0
IsAtItem c = IsCourse c × (token_ends (course_of c).present ≡ true)

module _ (x : Setting) (fs : List Frame) (u : Trail) (ls : List Level) where
  -- a token is to be read on, which isn't one of the levels: it comes after them, and the steps of it that are left are
  -- steps of it; the levels that are said to be ended are so
  pub record StandsBehind (l : Level) : Type 0 where
    pub setting : IsSetting x
    pub frames : AreFrames x.sig.now x.table.now fs
    pub trail : IsTrailOf x.table.now u
    pub levels : AreLevels x fs u ls l.frames (length_at l.mark)
    pub last : IsLevel x fs u l
    pub places : l.frames ≤ length fs
    pub marks : length_at l.mark ≤ length u.stack
    pub chained : AreChained x setting.walkable.before fs u ls (λ path. setting.walkable.before l.instr ≡ path)
        (state_of x.table.now fs l.place (trail_before u l))
    pub owed : IsOwed x.sig.now x.code.now.instrs (read_of x.table.now fs u l)
    pub ended : AllByRecursion (IsMarked x fs u) ls

  -- no step of the token is left, and what was added for it is taken back
  pub record IsLeftBehind (l : Level) (i : Instr) : Type 0 where
    pub standing : StandsBehind l
    pub instr : instr_at x.code.now.instrs l.instr ≡ Some i
    pub none : steps_left x.sig.now i.token (read_of x.table.now fs u l) ≡ []
    pub places : length fs ≡ l.frames
    pub marks : length u.stack ≡ length_at l.mark

  -- a step of the token is taken, but for what it leaves open
  pub record IsTakenBehind (before : Read) (l : Level) (i : Instr) : Type 0 where
    pub standing : StandsBehind l
    pub instr : instr_at x.code.now.instrs l.instr ≡ Some i
    pub same : before.instr ≡ l.instr
    pub state : before.state ≡ state_of x.table.now fs l.place (trail_before u l)
    pub step : IsStepTaken x.sig.now i.token before (read_of x.table.now fs u l) (numbered_subst x.table.now u.stack)
    pub owned : In step.step (token_steps x.sig.now before.state i.token)
    pub valid : (f : Open) (gs : List Open) → opens x.table.now fs l.place ≡ f ∷ gs
        → IsWayValid i.token f (l.next - 1)
    pub lies : LiesOver x.table.now (step_cost i.token (opens x.table.now fs l.place) (l.next - 1)) (trail_before u l) u
    pub places : length fs ≡ l.frames

-- so it is with the course
abbrev pub IsStanding : Course → Level → Type 0
IsStanding c l = StandsBehind c.set c.frames.items c.trail c.levels.items l

abbrev pub IsLeft : Course → Level → Instr → Type 0
IsLeft c l i = IsLeftBehind c.set c.frames.items c.trail c.levels.items l i

abbrev pub IsTaken : Course → Read → Level → Instr → Type 0
IsTaken c before l i = IsTakenBehind c.set c.frames.items c.trail c.levels.items before l i

-- a turn brings one on to the item at its head, or leaves what is to come as it is; or nothing is left
abbrev pub IsBroughtOn : List (ℕ × Table) → Turn → Course → Type 0
IsBroughtOn is On c = IsCourse c × (course_to_come c ≡ is)
IsBroughtOn is Found c = IsAtItem c × (is ≡ item_of c ∷ course_to_come c)
IsBroughtOn is Ended c = is ≡ []
