use Rattle.std.proofs.Common.{◌≡◌}
use Rattle.mp_walk.specs.CourseView.{IsCourse, course_to_come}
use Rattle.mp_walk.specs.CourseVisits.{course_visits}
use Rattle.mp_walk.proofs.course.Course.advance.Given as goal

abbrev pub invariant-loop : goal.invariant-loop
invariant-loop l = record {
  course : IsCourse l.self;
  same : course_to_come l.self ≡ course_to_come l.initial.self;
  set : l.self.set ≡ l.initial.self.set;
}

abbrev pub decreases-loop : goal.decreases-loop
decreases-loop l = course_visits l.self
