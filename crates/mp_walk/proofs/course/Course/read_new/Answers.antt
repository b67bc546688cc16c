use Rattle.std.proofs.Common.{◌≡◌, length, refl, sym, subst, arith}
use Rattle.std.specs.Prelude.{None, IfOk, false}
use Rattle.mp_walk.specs.CourseView.{IsBroughtOn}
use Rattle.mp_walk.specs.CourseVisits.{course_visits, IsFewer}
use Rattle.mp_walk.proofs.LastLaws.{last-new, new-owed, new-standing, visits-new}
use Rattle.mp_walk.proofs.course.Course.read_new.Goals as goal

pub read_on-requires-clause-standing : goal.read_on-requires-clause-standing
read_on-requires-clause-standing c =
    let self = c.args.self.now in
    let many : c.len.result ≡ length self.frames.items = omega (arith, c.len.ensures, self.frames.ok.0) in
    new-standing self c.requires.course c.args.number c.requires.target (record {
      instr = c.args.number;
      ended = false;
      place = self.place;
      frames = c.len.result;
      mark = c.mark.result;
      next = 0;
      search = None;
    }) refl refl c.mark.ensures many refl
    (new-owed self c.requires.course c.args.number c.requires.target (record {
      instr = c.args.number;
      ended = false;
      place = self.place;
      frames = c.len.result;
      mark = c.mark.result;
      next = 0;
      search = None;
    }) refl refl c.mark.ensures refl refl)

pub returns-clause-turn : goal.returns-clause-turn
returns-clause-turn c =
    let self = c.args.self.now in
    subst (λ is. IfOk c.read_on.result (λ turn. IsBroughtOn is turn c.read_on.new.self))
    (sym (last-new self c.requires.course c.args.number c.requires.target (record {
      instr = c.args.number;
      ended = false;
      place = self.place;
      frames = c.len.result;
      mark = c.mark.result;
      next = 0;
      search = None;
    }) refl refl c.mark.ensures refl refl)) c.read_on.ensures.turn

pub returns-clause-less : goal.returns-clause-less
returns-clause-less c =
    let self = c.args.self.now in
    subst (λ n. IfOk c.read_on.result (IsFewer (course_visits c.read_on.new.self) n))
    (sym (visits-new self c.requires.course c.args.number c.requires.target (record {
      instr = c.args.number;
      ended = false;
      place = self.place;
      frames = c.len.result;
      mark = c.mark.result;
      next = 0;
      search = None;
    }) refl refl c.mark.ensures refl refl)) c.read_on.ensures.less
