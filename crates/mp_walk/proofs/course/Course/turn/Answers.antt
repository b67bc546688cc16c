use Rattle.std.proofs.Common.{subst}
use Rattle.std.specs.Prelude.{IfOk}
use Rattle.mp_walk.specs.CourseView.{IsBroughtOn}
use Rattle.mp_walk.specs.CourseVisits.{course_visits}
use Rattle.mp_walk.proofs.EndedLaws.{fewer-more}
use Rattle.mp_walk.proofs.course.Course.turn.Goals as goal

pub read_again-requires-clause-standing : goal.read_again-requires-clause-standing
read_again-requires-clause-standing c = c.in-Some-last_open.ensures.«open».0

pub returns-in-Some-last_open-clause-turn : goal.returns-in-Some-last_open-clause-turn
returns-in-Some-last_open-clause-turn c =
    subst (λ is. IfOk c.read_again.result (λ turn. IsBroughtOn is turn c.read_again.new.self))
    c.in-Some-last_open.ensures.«open».1 c.read_again.ensures.turn

pub returns-in-Some-last_open-clause-less : goal.returns-in-Some-last_open-clause-less
returns-in-Some-last_open-clause-less c =
    fewer-more c.read_again.result (course_visits c.read_again.new.self) _ (course_visits c.args.self.now)
    c.in-Some-last_open.ensures.«open».2 c.read_again.ensures.less
