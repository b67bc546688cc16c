use Rattle.std.proofs.Common.{refl, arith}
use Rattle.std.proofs.lemmas.Bool.{not-false}
use Rattle.mp_walk.specs.CourseView.{course_to_come}
use Rattle.mp_walk.specs.CourseVisits.{course_visits}
use Rattle.mp_walk.proofs.EndedLaws.{course-standing, course-reads, course-total, last-standing, ended-before}
use Rattle.mp_walk.proofs.course.Course.last_open.Goals as goal

pub loop-level-init : goal.loop-level-init
loop-level-init c =
    let self = c.args.self.now in
    let visits = course-total self c.requires.course c.requires.target in
    record {
      standing = course-standing self c.requires.course c.requires.target;
      ended = c.requires.course.ended;
      reads = course-reads self c.requires.course c.requires.target;
      visits = omega (arith, visits);
      store = c.requires.course.store;
      set = refl;
    }

pub loop-level-preserved : goal.loop-level-preserved
loop-level-preserved c =
    let h = ended-before c.loop-level.self.set c.loop-level.self.frames.items c.loop-level.self.trail
    c.loop-level.self.levels.items c.pop.new.self.items c.in-Some.level c.in-Some.ensures.items
    c.loop-level.invariant.standing (course_to_come c.args.self.now) (course_visits c.args.self.now)
    c.loop-level.invariant.reads c.loop-level.invariant.visits c.loop-level.invariant.ended
    (not-false c.in-Some.level.ended c.if-not-level.false) in
    record {
      standing = h.0;
      ended = h.3;
      reads = h.1;
      visits = h.2;
      store = c.loop-level.invariant.store;
      set = c.loop-level.invariant.set;
    }

pub loop-level-preserved-else-not-level : goal.loop-level-preserved-else-not-level
loop-level-preserved-else-not-level c =
    let h = ended-before c.loop-level.self.set c.loop-level.self.frames.items c.loop-level.self.trail
    c.loop-level.self.levels.items c.pop.new.self.items c.in-Some.level c.in-Some.ensures.items
    c.loop-level.invariant.standing (course_to_come c.args.self.now) (course_visits c.args.self.now)
    c.loop-level.invariant.reads c.loop-level.invariant.visits c.loop-level.invariant.ended
    (not-false c.in-Some.level.ended c.if-not-level.false) in
    record {
      standing = h.0;
      ended = h.3;
      reads = h.1;
      visits = h.2;
      store = c.loop-level.invariant.store;
      set = c.loop-level.invariant.set;
    }

pub returns-then-not-level-clause-open : goal.returns-then-not-level-clause-open
returns-then-not-level-clause-open c =
    last-standing c.loop-level.self.set c.loop-level.self.frames.items c.loop-level.self.trail
    c.loop-level.self.levels.items c.pop.new.self.items c.in-Some.level c.in-Some.ensures.items
    c.loop-level.invariant.standing (course_to_come c.args.self.now) (course_visits c.args.self.now)
    c.loop-level.invariant.reads c.loop-level.invariant.visits
