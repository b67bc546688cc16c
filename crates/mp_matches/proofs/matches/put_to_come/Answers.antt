use Rattle.std.proofs.Common.{◌∙◌, ap, refl, sym, true}
use Rattle.mp_pattern.specs.RuleView.{rule_tree}
use Rattle.mp_text.specs.File.{subject_tree}
use Rattle.mp_cursor.specs.Listing.{Listing}
use Rattle.mp_matches.specs.Computed.{matches_of}
use Rattle.mp_matches.specs.Left.{left_of, printed}
use Rattle.mp_matches.specs.Put.{PutsMatches}
use Rattle.mp_matches.proofs.Coming.{coming-one, coming-stopped, over-next}
use Rattle.mp_matches.proofs.PutLaws.{put_so_far-first, put_so_far-front}
use Rattle.mp_matches.proofs.SoFar.{of-err}
use Rattle.mp_matches.proofs.matches.put_to_come.Goals as goal

pub loop-any-init : goal.loop-any-init
loop-any-init g c = record {
  sig = refl;
  over = c.requires.over;
  writable = c.requires.writable;
  put = put_so_far-first g.O.Sink (printed c.args.cursor.now.sig (left_of c.args.left.now)
      (matches_of (subject_tree c.args.subject.now) (rule_tree c.args.rule.now) c.args.cursor.now.to_come))
      c.args.out.now;
}

pub loop-any-preserved : goal.loop-any-preserved
loop-any-preserved g c =
    let s = subject_tree c.args.subject.now in
    let r = rule_tree c.args.rule.now in
    let old = c.loop-any.cursor in
    let new = c.next.new.self in
    let inv = c.loop-any.invariant in
    let moved = c.next.ensures.moved in
    let sig = c.args.cursor.now.sig in
    let own = ap (λ (l : Listing). l.sig) moved ∙ inv.sig in
    record {
      sig = own;
      over = over-next s r old new moved inv.over;
      writable = c.put_next.ensures.writable;
      put = coming-one s r old new moved g.O.Sink sig (c.loop-any-test.ensures.answer.0 refl) own
          (printed sig (left_of c.args.left.now) (matches_of s r c.args.cursor.now.to_come)) c.args.out.now
          c.loop-any.out c.put_next.new.out c.loop-any.any (left_of c.loop-any.left) (left_of c.put_next.new.left)
          inv.put c.in_ok-put_next.field-0 c.in_ok-put_next.ensures.puts;
    }

pub returns-in_err-put_next-clause-puts : goal.returns-in_err-put_next-clause-puts
returns-in_err-put_next-clause-puts g c =
    let s = subject_tree c.args.subject.now in
    let r = rule_tree c.args.rule.now in
    let old = c.loop-any.cursor in
    let new = c.next.new.self in
    let inv = c.loop-any.invariant in
    let moved = c.next.ensures.moved in
    let sig = c.args.cursor.now.sig in
    let own = ap (λ (l : Listing). l.sig) moved ∙ inv.sig in
    let whole = printed sig (left_of c.args.left.now) (matches_of s r c.args.cursor.now.to_come) in
    let left = left_of c.put_next.new.left in
    of-err (λ a. PutsMatches g.O.Sink whole c.args.out.now c.put_next.new.out left a) c.from_residual.result
    c.in_err-put_next.field-0.0 c.from_residual.ensures.1
    (coming-stopped s r old new moved g.O.Sink sig (c.loop-any-test.ensures.answer.0 refl) own whole c.args.out.now
    c.loop-any.out c.put_next.new.out c.loop-any.any (left_of c.loop-any.left) left inv.put
    c.in_err-put_next.field-0.0 c.in_err-put_next.ensures.puts)

pub returns-then-has_failed-clause-puts : goal.returns-then-has_failed-clause-puts
returns-then-has_failed-clause-puts g c =
    let s = subject_tree c.args.subject.now in
    let r = rule_tree c.args.rule.now in
    let old = c.loop-any.cursor in
    let new = c.next.new.self in
    let inv = c.loop-any.invariant in
    let moved = c.next.ensures.moved in
    let sig = c.args.cursor.now.sig in
    let own = ap (λ (l : Listing). l.sig) moved ∙ inv.sig in
    let whole = printed sig (left_of c.args.left.now) (matches_of s r c.args.cursor.now.to_come) in
    let left = left_of c.put_next.new.left in (
      put_so_far-front g.O.Sink whole (printed sig left (matches_of s r new.to_come)) c.args.out.now
          c.put_next.new.out true
          (coming-one s r old new moved g.O.Sink sig (c.loop-any-test.ensures.answer.0 refl) own whole c.args.out.now
          c.loop-any.out c.put_next.new.out c.loop-any.any (left_of c.loop-any.left) left inv.put
          c.in_ok-put_next.field-0 c.in_ok-put_next.ensures.puts),
      sym c.if-has_failed.ensures,
    )
