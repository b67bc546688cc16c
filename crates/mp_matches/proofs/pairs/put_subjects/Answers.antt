use Rattle.std.proofs.Common.{◌≡◌, ◌∙◌, ap, arith, drop, drop_of_length-le, map, subst, sym}
use Rattle.std.specs.Prelude.{[]}
use Rattle.mp_text.specs.File.{subject_tree}
use Rattle.mp_text.specs.Sound.{IsSoundSubject}
use Rattle.mp_matches.specs.PairsListed.{AreSubjectLines, front_lines, named}
use Rattle.mp_matches.specs.PrintedPairs.{PutsOrStops, PutsUpTo}
use Rattle.mp_matches.specs.Put.{PutsFront}
use Rattle.mp_matches.specs.declared.stop.Stop.TheVariants as stop
use Rattle.mp_matches.proofs.PairsLaws.{joined-next, up_to-all, up_to-failed, up_to-front, up_to-full}
use Rattle.mp_matches.proofs.PairsLaws.{up_to-subject}
use Rattle.mp_matches.proofs.Parts.{AllByRecursion-drop}
use Rattle.mp_matches.proofs.SoFar.{of-err}
use Rattle.mp_matches.proofs.pairs.put_subjects.Goals as goal

pub put-requires-clause-sound : goal.put-requires-clause-sound
put-requires-clause-sound g c = (AllByRecursion-drop subject_tree (IsSoundSubject c.args.sig.now)
    c.args.subjects.now c.loop-subject.subject-index c.subject-item.result (omega arith) c.subject-item.is
    c.loop-subject.invariant.subjects).0

pub returns-in_err-some-clause-puts : goal.returns-in_err-some-clause-puts
returns-in_err-some-clause-puts g c all joined =
    let i = c.loop-subject.subject-index in
    let s = c.subject-item.result in
    let so = c.loop-subject.invariant.put all joined in
    let next = joined-next c.args.sig.now (named c.args.names.now) (g.M.Matcher.finds c.args.matcher.now)
    c.args.subjects.now i s (omega arith) c.subject-item.is so.0 so.1 in
    let left = c.put.new.left in
    let whole = front_lines c.args.left.now all in
    let rest = front_lines c.loop-subject.left so.0 in
    of-err (PutsOrStops g.O.Sink whole (front_lines left []) c.args.out.now c.put.new.out)
    c.from_residual.result stop.Memory c.from_residual.ensures.1
    (up_to-front g.O.Sink whole rest (front_lines left next.1) c.args.out.now c.loop-subject.out c.put.new.out
    c.loop-subject.any so.2
    (subst (λ ls. PutsFront g.O.Sink c.loop-subject.out c.put.new.out (front_lines c.loop-subject.left ls))
    (sym next.2) (c.in_err-some.ensures.puts next.0 next.1 next.3)))

pub returns-in-More-clause-puts : goal.returns-in-More-clause-puts
returns-in-More-clause-puts g c all joined =
    let i = c.loop-subject.subject-index in
    let s = c.subject-item.result in
    let so = c.loop-subject.invariant.put all joined in
    let next = joined-next c.args.sig.now (named c.args.names.now) (g.M.Matcher.finds c.args.matcher.now)
    c.args.subjects.now i s (omega arith) c.subject-item.is so.0 so.1 in
    let left = c.put.new.left in
    let told : PutsUpTo g.O.Sink (front_lines c.loop-subject.left so.0) (front_lines left next.1) c.loop-subject.out
    c.put.new.out c.in_ok-some.field-0 =
    subst (λ ls. PutsUpTo g.O.Sink (front_lines c.loop-subject.left ls) (front_lines left next.1) c.loop-subject.out
    c.put.new.out c.in_ok-some.field-0) (sym next.2) (c.in_ok-some.ensures.puts next.0 next.1 next.3) in
    up_to-full g.O.Sink (front_lines c.args.left.now all) (front_lines c.loop-subject.left so.0)
    (front_lines left next.1) c.args.out.now c.loop-subject.out c.put.new.out c.loop-subject.any so.2
    c.in_ok-some.field-0 c.in-More.is told (front_lines left [])

pub returns-then-has_failed-clause-puts : goal.returns-then-has_failed-clause-puts
returns-then-has_failed-clause-puts g c all joined =
    let i = c.loop-subject.subject-index in
    let s = c.subject-item.result in
    let so = c.loop-subject.invariant.put all joined in
    let next = joined-next c.args.sig.now (named c.args.names.now) (g.M.Matcher.finds c.args.matcher.now)
    c.args.subjects.now i s (omega arith) c.subject-item.is so.0 so.1 in
    let left = c.put.new.left in
    let told : PutsUpTo g.O.Sink (front_lines c.loop-subject.left so.0) (front_lines left next.1) c.loop-subject.out
    c.put.new.out c.in_ok-some.field-0 =
    subst (λ ls. PutsUpTo g.O.Sink (front_lines c.loop-subject.left ls) (front_lines left next.1) c.loop-subject.out
    c.put.new.out c.in_ok-some.field-0) (sym next.2) (c.in_ok-some.ensures.puts next.0 next.1 next.3) in
    up_to-failed g.O.Sink (front_lines c.args.left.now all) (front_lines c.loop-subject.left so.0)
    (front_lines left next.1) c.args.out.now c.loop-subject.out c.put.new.out c.loop-subject.any so.2
    c.in_ok-some.field-0 c.in-All.some c.in-All.is told (sym c.has_failed.ensures ∙ c.if-has_failed.true)
    (front_lines left [])

pub loop-subject-preserved : goal.loop-subject-preserved
loop-subject-preserved g c = record {
  same = c.in_ok-some.ensures.same ∙ c.loop-subject.invariant.same;
  subjects =
      (AllByRecursion-drop subject_tree (IsSoundSubject c.args.sig.now) c.args.subjects.now
      c.loop-subject.subject-index c.subject-item.result (omega arith) c.subject-item.is
      c.loop-subject.invariant.subjects).1;
  put = λ all joined.
      let i = c.loop-subject.subject-index in
      let s = c.subject-item.result in
      let so = c.loop-subject.invariant.put all joined in
      let next = joined-next c.args.sig.now (named c.args.names.now) (g.M.Matcher.finds c.args.matcher.now)
      c.args.subjects.now i s (omega arith) c.subject-item.is so.0 so.1 in
      let left = c.put.new.left in
      let told : PutsUpTo g.O.Sink (front_lines c.loop-subject.left so.0) (front_lines left next.1)
      c.loop-subject.out c.put.new.out c.in_ok-some.field-0 =
      subst (λ ls. PutsUpTo g.O.Sink (front_lines c.loop-subject.left ls) (front_lines left next.1)
      c.loop-subject.out c.put.new.out c.in_ok-some.field-0) (sym next.2)
      (c.in_ok-some.ensures.puts next.0 next.1 next.3) in (
        next.1,
        next.4,
        up_to-subject g.O.Sink (front_lines c.args.left.now all) (front_lines c.loop-subject.left so.0)
            (front_lines left next.1) c.args.out.now c.loop-subject.out c.put.new.out c.loop-subject.any so.2
            c.in_ok-some.field-0 c.in-All.some c.in-All.is told,
      );
}

pub returns-clause-puts : goal.returns-clause-puts
returns-clause-puts g c all joined =
    let so = c.loop-subject.invariant.put all joined in
    let P = AreSubjectLines c.args.sig.now (named c.args.names.now) (g.M.Matcher.finds c.args.matcher.now) in
    let none : map subject_tree (drop c.loop-subject.subject-index c.args.subjects.now) ≡ [] =
    ap (map subject_tree) (drop_of_length-le c.args.subjects.now (omega arith)) in
    up_to-all g.O.Sink P (map subject_tree (drop c.loop-subject.subject-index c.args.subjects.now))
    (front_lines c.args.left.now all) c.loop-subject.left so.0 c.args.out.now c.loop-subject.out
    c.loop-subject.any none so.1 so.2
