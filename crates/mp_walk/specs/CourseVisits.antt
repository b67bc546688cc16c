-- How much a walk has still to read: a number that falls with each turn.
use Rattle.std.specs.Prelude.{◌<◌, ⊤, ℕ, ◌+◌, List, map, Option, Some, None}
use Rattle.mp_term.specs.Signature.{Sig}
use Rattle.mp_walk.specs.CodeForest.{forest_of}
use Rattle.mp_walk.specs.Course as plain
use Rattle.mp_walk.specs.Course.{Read, steps_left}
use Rattle.mp_walk.specs.CourseView.{reads_of, course_of}
use Rattle.mp_walk.specs.declared.course.Course.{Course}
use Rattle.mp_walk.specs.declared.course.Turn.{Turn}
use Rattle.mp_walk.specs.declared.course.Turn.TheVariants.{On, Found, Ended}
use Rattle.mp_walk.specs.Instrs.{Instr, instr_at}
use Rattle.mp_walk.specs.TokenMachine.{State, token_steps}
use Rattle.mp_walk.specs.Visits.{total, visits}
use Rattle.mp_walk.specs.Ways.{Step}

module _ (sig : Sig) (code : List Instr) where
  -- from a target on
  abbrev pub visits_from : Option ℕ → State → ℕ
  visits_from target s = visits (token_steps sig) (forest_of code target) s

  -- a step of an instruction counts one, and what is below it
  abbrev pub visits_after : Instr → Step → ℕ
  visits_after i r = 1 + visits_from i.down r.1

  -- a token that is read counts one, and its steps that are left, and what stands beside it
  abbrev pub visits_of : Read → Instr → ℕ
  visits_of l i = 1 + (total (map (visits_after i) (steps_left sig i.token l)) + visits_from i.over l.state)

  abbrev pub read_visits : Read → ℕ
  read_visits l = elim (instr_at code l.instr) [ None ↦ 1 | Some i ↦ visits_of l i ]

  -- so do all that are read, and what is to be tried behind them
  abbrev pub visits_in : plain.Course → ℕ
  visits_in c = visits_from c.target c.present + total (map read_visits c.reads)

  -- a token, and those that are read before it
  abbrev pub visits_behind : List Read → Read → ℕ
  visits_behind ls l = read_visits l + total (map read_visits ls)

-- so it is with the course of a walk
abbrev pub course_visits : Course → ℕ
course_visits c = visits_in c.set.sig.now c.set.code.now.instrs (course_of c)

abbrev pub token_visits : Course → Read → ℕ
token_visits c l = visits_behind c.set.sig.now c.set.code.now.instrs (reads_of c) l

-- a turn makes it less, unless it finds that nothing is left
abbrev pub IsFewer : ℕ → ℕ → Turn → Type 0
IsFewer m n On = m < n
IsFewer m n Found = m < n
IsFewer m n Ended = ⊤
