use Rattle.std.proofs.Common.{sym, ◌∙◌, subst, arith}
use Rattle.mp_walk.specs.CourseView.{course_to_come, IsBroughtOn}
use Rattle.mp_walk.specs.CourseVisits.{course_visits, IsFewer}
use Rattle.mp_walk.proofs.course.Course.advance.Goals as goal

pub loop-preserved : goal.loop-preserved
loop-preserved c =
    let h = subst (λ t. IsBroughtOn (course_to_come c.pass_symbols.new.self) t c.turn.new.self) c.in-On.is
    c.in_ok-turn.ensures.turn in
    record {
      course = h.0;
      same = h.1 ∙ c.pass_symbols.ensures.to_come ∙ c.loop.invariant.same;
      set = c.in_ok-turn.ensures.setting ∙ c.pass_symbols.ensures.setting ∙ c.loop.invariant.set;
    }

pub returns-in-Found-clause-found : goal.returns-in-Found-clause-found
returns-in-Found-clause-found c =
    let h = subst (λ t. IsBroughtOn (course_to_come c.pass_symbols.new.self) t c.turn.new.self) c.in-Found.is
    c.in_ok-turn.ensures.turn in
    (h.0, sym c.loop.invariant.same ∙ sym c.pass_symbols.ensures.to_come ∙ h.1)

pub returns-in-Ended-clause-found : goal.returns-in-Ended-clause-found
returns-in-Ended-clause-found c =
    let h = subst (λ t. IsBroughtOn (course_to_come c.pass_symbols.new.self) t c.turn.new.self) c.in-Ended.is
    c.in_ok-turn.ensures.turn in
    sym c.loop.invariant.same ∙ sym c.pass_symbols.ensures.to_come ∙ h

pub loop-smaller : goal.loop-smaller
loop-smaller c =
    let less = subst (IsFewer (course_visits c.turn.new.self) (course_visits c.pass_symbols.new.self)) c.in-On.is
    c.in_ok-turn.ensures.less in
    let visits = c.pass_symbols.ensures.visits in
    omega (arith, less, visits)
