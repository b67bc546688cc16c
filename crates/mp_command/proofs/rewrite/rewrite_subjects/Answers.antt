use Rattle.std.proofs.Common.{refl, arith}
use Rattle.mp_rewrite.specs.Rewritable.{IsRewritable}
use Rattle.mp_text.specs.File.{subject_tree}
use Rattle.mp_command.proofs.Parted.{AllByRecursion-drop, loop-ends, loop-further}
use Rattle.mp_command.proofs.Rewrites.{subject_part, subjects_left}
use Rattle.mp_command.proofs.rewrite.rewrite_subjects.Goals as goal

pub rewrite_subject-requires : goal.rewrite_subject-requires
rewrite_subject-requires g c = record {
  rules = c.requires.rules;
  term =
      (AllByRecursion-drop subject_tree (λ s. IsRewritable c.args.sig.now s.term) c.args.subjects.now
      c.loop-subject.subject-index c.subject-item.result (omega arith) c.subject-item.is
      c.loop-subject.invariant.rewritable).0;
}

pub returns-in-Err : goal.returns-in-Err
returns-in-Err g c =
    let left = subjects_left c.args.sig.now c.args.max c.args.rules.now in
    loop-ends left (subject_part c.args.sig.now c.args.max c.args.rules.now) (λ s ss. refl)
    (left c.args.subjects.now) c.args.subjects.now c.loop-subject.subject-index _ _ _ _
    c.loop-subject.invariant.so_far c.subject-item.result (omega arith) c.subject-item.is _ _
    c.in-Err.ending c.in-Err.ensures

pub loop-subject-preserved : goal.loop-subject-preserved
loop-subject-preserved g c =
    let left = subjects_left c.args.sig.now c.args.max c.args.rules.now in
    record {
      so_far = loop-further left (subject_part c.args.sig.now c.args.max c.args.rules.now) (λ s ss. refl)
          (left c.args.subjects.now) c.args.subjects.now c.loop-subject.subject-index _ _ _ _
          c.loop-subject.invariant.so_far c.subject-item.result (omega arith) c.subject-item.is _ _
          c.in-Ok.ensures;
      rewritable =
          (AllByRecursion-drop subject_tree (λ s. IsRewritable c.args.sig.now s.term) c.args.subjects.now
          c.loop-subject.subject-index c.subject-item.result (omega arith) c.subject-item.is
          c.loop-subject.invariant.rewritable).1;
    }
