use Rattle.std.proofs.Common.{◌≡◌, ◌<◌, ◌+◌, suc, length, refl, ap, sym, ◌∙◌, subst, arith}
use Rattle.std.specs.Prelude.{Some, option_map, slice_get}
use Rattle.mp_walk.specs.declared.course.Course.{Course}
use Rattle.mp_walk.specs.declared.level.Level.{Level}
use Rattle.mp_walk.specs.Course.{unread, Read}
use Rattle.mp_walk.specs.CourseView.{course_of, course_to_come, IsCourse}
use Rattle.mp_walk.specs.CourseVisits.{course_visits}
use Rattle.mp_walk.specs.InstrView.{plain_instr}
use Rattle.mp_walk.specs.Levels.{read_of}
use Rattle.mp_walk.specs.OpenOnes.{IsPlaceBelow, open_of, opens}
use Rattle.mp_ac.specs.Numbered.{numbered_subst}
use Rattle.mp_walk.proofs.FirstLaws.{new_level, IsFirst, IsFirstTaken, first-sound, first-held, first-spare, first-none}
use Rattle.mp_walk.proofs.FirstLaws.{first-taken, first-to_come, first-visits, by_result, fewer_by_result}
use Rattle.mp_walk.proofs.OpeningLaws.{index-at}
use Rattle.mp_walk.proofs.OpenLaws.{opens-is}
use Rattle.mp_walk.proofs.ReadingLaws.{single-token}
use Rattle.mp_walk.proofs.EndedLaws.{fewer-more}
use Rattle.mp_walk.proofs.SpentLaws.{none-passed, passed-course, passed-to_come, passed-less}
use Rattle.mp_walk.proofs.StepLaws.{step-closed}
use Rattle.mp_walk.proofs.course.Course.read_first.Goals as goal
use Rattle.mp_walk.proofs.course.Course.read_first.Goals.{After-fewest-from, After-index-frame, After-len}

-- the frame of the place is there
at : (c : After-index-frame)
    → slice_get c.args.self.now.frames.items c.in-Some-place.place ≡ Some c.index-frame.result.now
at c =
    let fs = c.args.self.now.frames.items in
    index-at fs c.in-Some-place.place c.index-frame.result.now
    (subst (IsPlaceBelow (length fs)) c.in-Some-place.is c.requires.course.place) c.index-frame.ensures

-- the instruction that is to be tried is there, its place is open, and nothing comes of the shorter fronts
is_first : (c : After-fewest-from) → IsFirst c.args.self.now c.args.number c.mark-mark.result
    (plain_instr c.in-Some.instr.now) (open_of c.args.self.now.set.table.now c.index-frame.result.now)
    (opens c.args.self.now.set.table.now c.args.self.now.frames.items c.index-frame.result.now.outer)
    c.fewest-from.result
is_first c =
    let self = c.args.self.now in
    let t = self.set.table.now in
    let fs = self.frames.items in
    record {
      course = c.requires.course;
      target = c.requires.target;
      marks = c.mark-mark.ensures;
      held = c.instr.ensures ∙ ap (option_map (λ j. plain_instr j.now)) c.in-Some.is;
      is = ap (opens t fs) c.in-Some-place.is
          ∙ opens-is t self.set.sig.now fs c.requires.course.frames c.in-Some-place.place c.index-frame.result.now
          (at (goal.at.After-fewest-from c).After-index-frame);
      idle = λ way r less m. c.fewest-from.ensures
          (opens t fs c.index-frame.result.now.outer) (numbered_subst t self.trail.stack) way r less m;
    }

-- the token before its first way, and after it
abbrev before : After-fewest-from → Read
before c =
    let self = c.args.self.now in
    read_of self.set.table.now self.frames.items self.trail (new_level self c.args.number c.mark-mark.result
    c.fewest-from.result)

abbrev taken : After-len → Level
taken c = record (new_level c.args.self.now c.args.number c.mark-mark.result c.fewest-from.result) {
  frames = c.len.result;
  next = c.in-Some-way_from.way + 1;
}

-- its first way is taken
is_taken : (c : After-len) → IsFirstTaken c.args.self.now c.args.number c.mark-mark.result
    (plain_instr c.in-Some.instr.now) (open_of c.args.self.now.set.table.now c.index-frame.result.now)
    (opens c.args.self.now.set.table.now c.args.self.now.frames.items c.index-frame.result.now.outer)
    c.fewest-from.result c.in-Some-way_from.way c.way_from.new.trail (taken c)
is_taken c =
    let self = c.args.self.now in
    let many : c.len.result ≡ length self.frames.items = omega (arith, c.len.ensures, self.frames.ok.0) in
    let more : c.in-Some-way_from.way + 1 ≡ suc c.in-Some-way_from.way = omega arith in
    record {
      single = single-token c.in-Some.instr.now.token c.in_default-token.not-Comm;
      lies = c.in-Some-way_from.ensures.kept;
      valid = c.in-Some-way_from.ensures.valid;
      first = c.in-Some-way_from.ensures.way
          (opens self.set.table.now self.frames.items c.index-frame.result.now.outer);
      one = record { instr = refl; place = refl; frames = many; mark = refl };
      more = more;
      none = refl;
    }

pub returns-in_default-place-clause-turn : goal.returns-in_default-place-clause-turn
returns-in_default-place-clause-turn c =
    let self = c.args.self.now in
    let C = c.requires.course in
    let n = c.args.number in
    let e = c.requires.target in
    let i = plain_instr c.in-Some.instr.now in
    let held = c.instr.ensures ∙ ap (option_map (λ j. plain_instr j.now)) c.in-Some.is in
    let nothing = none-passed self n i (step-closed self.set.sig.now i.token (unread n (course_of self).present)
    (ap (opens self.set.table.now self.frames.items) c.in_default-place.is)) in
    (passed-course self C n e i held nothing, passed-to_come self C n e i held nothing)

pub returns-in_default-place-clause-less : goal.returns-in_default-place-clause-less
returns-in_default-place-clause-less c =
    let self = c.args.self.now in
    let C = c.requires.course in
    let n = c.args.number in
    let e = c.requires.target in
    let i = plain_instr c.in-Some.instr.now in
    let held = c.instr.ensures ∙ ap (option_map (λ j. plain_instr j.now)) c.in-Some.is in
    let nothing = none-passed self n i (step-closed self.set.sig.now i.token (unread n (course_of self).present)
    (ap (opens self.set.table.now self.frames.items) c.in_default-place.is)) in
    passed-less self C n e i held nothing

pub fewest-from-requires : goal.fewest-from-requires
fewest-from-requires c =
    let held = c.requires.course.frames c.in-Some-place.place c.index-frame.result.now
    (at (goal.at.fewest-from-requires c).After-index-frame) in
    record { setting = c.requires.course.setting; frame = held.frame; ordered = held.ordered }

pub way_from-requires-clause-frame : goal.way_from-requires-clause-frame
way_from-requires-clause-frame c =
    (c.requires.course.frames c.in-Some-place.place c.index-frame.result.now
    (at (goal.at.way_from-requires-clause-frame c).After-index-frame)).frame

pub way_from-requires-clause-ordered : goal.way_from-requires-clause-ordered
way_from-requires-clause-ordered c =
    (c.requires.course.frames c.in-Some-place.place c.index-frame.result.now
    (at (goal.at.way_from-requires-clause-ordered c).After-index-frame)).ordered

pub way_from-requires-clause-sound : goal.way_from-requires-clause-sound
way_from-requires-clause-sound c = first-sound (is_first (goal.at.way_from-requires-clause-sound c).After-fewest-from)

pub way_from-requires-clause-single : goal.way_from-requires-clause-single
way_from-requires-clause-single c =
    single-token c.in-Some.instr.now.token c.in_default-token.not-Comm

pub way_from-requires-clause-held : goal.way_from-requires-clause-held
way_from-requires-clause-held c = first-held (is_first (goal.at.way_from-requires-clause-held c).After-fewest-from)

pub way_from-requires-clause-spare : goal.way_from-requires-clause-spare
way_from-requires-clause-spare c = first-spare (is_first (goal.at.way_from-requires-clause-spare c).After-fewest-from)

pub returns-in_default-way_from-clause-turn : goal.returns-in_default-way_from-clause-turn
returns-in_default-way_from-clause-turn c =
    let self = c.args.self.now in
    let n = c.args.number in
    let i = plain_instr c.in-Some.instr.now in
    let first = is_first (goal.at.returns-in_default-way_from-clause-turn c).After-fewest-from in
    let nothing = first-none first (c.in_default-way_from.ensures.way
    (opens self.set.table.now self.frames.items c.index-frame.result.now.outer)) in
    subst (λ u.
    let d : Course = record self { trail = u; target = i.over } in
    IsCourse d × (course_to_come d ≡ course_to_come self)) (sym c.in_default-way_from.ensures.kept) (
      passed-course self first.course n first.target i first.held nothing,
      passed-to_come self first.course n first.target i first.held nothing,
    )

pub returns-in_default-way_from-clause-less : goal.returns-in_default-way_from-clause-less
returns-in_default-way_from-clause-less c =
    let self = c.args.self.now in
    let n = c.args.number in
    let i = plain_instr c.in-Some.instr.now in
    let first = is_first (goal.at.returns-in_default-way_from-clause-less c).After-fewest-from in
    let nothing = first-none first (c.in_default-way_from.ensures.way
    (opens self.set.table.now self.frames.items c.index-frame.result.now.outer)) in
    subst (λ u. course_visits (record self { trail = u; target = i.over }) < course_visits self)
    (sym c.in_default-way_from.ensures.kept) (passed-less self first.course n first.target i first.held nothing)

pub go_down-requires-clause-taken : goal.go_down-requires-clause-taken
go_down-requires-clause-taken c =
    let known = goal.at.go_down-requires-clause-taken c in
    (before known.After-fewest-from, first-taken (is_first known.After-fewest-from) (is_taken known.After-len))

pub returns-clause-turn : goal.returns-clause-turn
returns-clause-turn c =
    let known = goal.at.returns-clause-turn c in
    let first = is_first known.After-fewest-from in
    let taken = is_taken known.After-len in
    by_result (first-taken first taken) c.go_down.result c.go_down.new.self (course_to_come c.args.self.now)
    (first-to_come first taken) c.go_down.ensures.turn

pub returns-clause-less : goal.returns-clause-less
returns-clause-less c =
    let known = goal.at.returns-clause-less c in
    let first = is_first known.After-fewest-from in
    let taken = is_taken known.After-len in
    fewer-more c.go_down.result (course_visits c.go_down.new.self) _ (course_visits c.args.self.now)
    (first-visits first taken)
    (fewer_by_result (first-taken first taken) c.go_down.result (course_visits c.go_down.new.self) _ refl
    c.go_down.ensures.less)
