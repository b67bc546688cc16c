use Rattle.std.proofs.Common.{◌≡◌, ◌≤◌, [], map}
use Rattle.std.specs.List.{AllByRecursion}
use Rattle.mp_ac.specs.Store.{IsStoreOf}
use Rattle.mp_walk.specs.Course.{reads_to_come}
use Rattle.mp_walk.specs.CourseView.{reads_of, course_to_come, IsMarked}
use Rattle.mp_walk.specs.CourseVisits.{course_visits, read_visits}
use Rattle.mp_walk.specs.Visits.{total}
use Rattle.mp_walk.proofs.EndedLaws.{AreStanding}
use Rattle.mp_walk.proofs.course.Course.last_open.Given as goal

-- what is to come is that of the tokens that are read
abbrev pub invariant-loop-level : goal.invariant-loop-level
invariant-loop-level l = record {
  standing : AreStanding l.self.set l.self.frames.items l.self.trail l.self.levels.items;
  ended : AllByRecursion (IsMarked l.self.set l.self.frames.items l.self.trail) l.self.levels.items;
  reads : reads_to_come l.self.set.sig.now l.self.set.code.now.instrs [] (reads_of l.self)
      ≡ course_to_come l.initial.self;
  visits : total (map (read_visits l.self.set.sig.now l.self.set.code.now.instrs) (reads_of l.self))
      ≤ course_visits l.initial.self;
  store : IsStoreOf l.self.set.table.now l.self.set.code.now.plans.plans l.self.store;
  set : l.self.set ≡ l.initial.self.set;
}

abbrev pub decreases-loop-level : goal.decreases-loop-level
decreases-loop-level l = goal.left-loop-level l
