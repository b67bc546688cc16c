use Rattle.std.proofs.Common.{◌≡◌, ◌<◌, ◌≤◌, ℕ, length, sym, ◌∙◌, subst, arith}
use Rattle.std.specs.Prelude.{IfSome, IsSome}
use Rattle.mp_walk.specs.CourseView.{IsCourse}
use Rattle.mp_walk.specs.CourseVisits.{course_visits}
use Rattle.mp_walk.specs.Instrs.{instr_at}
use Rattle.mp_walk.specs.OpenOnes.{IsPlaceBelow}
use Rattle.mp_walk.proofs.OpeningLaws.{index-at}
use Rattle.mp_walk.proofs.SpentLaws.{key-passed, none-seen}
use Rattle.mp_walk.proofs.course.Course.pass_symbols.Goals as goal
use Rattle.mp_walk.proofs.course.Course.pass_symbols.Goals.{in-Some-target+in-Some-key+then-own-eq0}
use Rattle.mp_walk.proofs.course.Course.pass_symbols.Goals.{in_default-target}

pub first_key-first-requires : goal.first_key-first-requires
first_key-first-requires c =
    let self = c.args.self.now in
    let fs = self.frames.items in
    let at = index-at fs c.in-Some.place c.index.result.now
    (subst (IsPlaceBelow (length fs)) c.in-Some.is c.requires.place) c.index.ensures in
    (c.requires.frames c.in-Some.place c.index.result.now at).frame

pub unreachable-requires : goal.unreachable-requires
unreachable-requires c =
    let code = c.args.self.now.set.code.now.instrs in
    none-seen (instr_at code c.in-Some-target.number)
    (subst (λ o. IfSome o (λ m. IsSome (instr_at code m))) c.in-Some-target.is c.loop-target.invariant.course.there)
    (c.key.ensures c.args.self.now.set.sig.now c.requires.setting.plans ∙ c.in_default-key.is)

at-most : (m n o : ℕ) → m < n → n ≤ o → m ≤ o
at-most m n o less most = omega (arith, less, most)

pub loop-target-preserved : goal.loop-target-preserved
loop-target-preserved c =
    let self = c.args.self.now in
    let fs = self.frames.items in
    let inv = c.loop-target.invariant in
    let at = index-at fs c.in-Some.place c.index.result.now
    (subst (IsPlaceBelow (length fs)) c.in-Some.is c.requires.place) c.index.ensures in
    let passed = key-passed (record self { target = c.loop-target.target }) inv.course c.in-Some-target.number
    c.in-Some-target.is c.in-Some.place c.index.result.now c.in-Some.is at c.in-Some-key.own
    (c.key.ensures self.set.sig.now c.requires.setting.plans ∙ c.in-Some-key.is) c.first_key-first.result
    c.first_key-first.ensures c.if-own-eq0.false c.if-own-first.false in
    record {
      course = passed.0;
      to_come = passed.1 ∙ inv.to_come;
      visits = at-most _ (course_visits (record self { target = c.loop-target.target })) _ passed.2 inv.visits;
    }

pub loop-target-smaller : goal.loop-target-smaller
loop-target-smaller c =
    let self = c.args.self.now in
    let fs = self.frames.items in
    let at = index-at fs c.in-Some.place c.index.result.now
    (subst (IsPlaceBelow (length fs)) c.in-Some.is c.requires.place) c.index.ensures in
    (key-passed (record self { target = c.loop-target.target }) c.loop-target.invariant.course c.in-Some-target.number
    c.in-Some-target.is c.in-Some.place c.index.result.now c.in-Some.is at c.in-Some-key.own
    (c.key.ensures self.set.sig.now c.requires.setting.plans ∙ c.in-Some-key.is) c.first_key-first.result
    c.first_key-first.ensures c.if-own-eq0.false c.if-own-first.false).2

pub returns-clause-course : goal.returns-clause-course
returns-clause-course c =
    let same : c.match-target.target ≡ c.loop-target.target = elim c.match-target.branch [
      | in-Some-target+in-Some-key+then-own-eq0 w ↦ w.target-is ∙ sym w.in-Some-target.is
      | in_default-target w ↦ (let is = w.target-is in let none = w.in_default-target.is in cc)
    ] in
    subst (λ o. IsCourse (record c.args.self.now { target = o })) (sym same) c.loop-target.invariant.course
