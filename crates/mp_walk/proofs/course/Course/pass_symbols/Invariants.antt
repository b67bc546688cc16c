use Rattle.std.proofs.Common.{◌≡◌, ◌≤◌}
use Rattle.mp_walk.specs.CourseView.{IsCourse, course_to_come}
use Rattle.mp_walk.specs.CourseVisits.{course_visits}
use Rattle.mp_walk.proofs.course.Course.pass_symbols.Given as goal

-- the same is to come from the target on
abbrev pub invariant-loop-target : goal.invariant-loop-target
invariant-loop-target l = record {
  course : IsCourse (record l.self { target = l.target });
  to_come : course_to_come (record l.self { target = l.target }) ≡ course_to_come l.self;
  visits : course_visits (record l.self { target = l.target }) ≤ course_visits l.self;
}

abbrev pub decreases-loop-target : goal.decreases-loop-target
decreases-loop-target l = course_visits (record l.self { target = l.target })
