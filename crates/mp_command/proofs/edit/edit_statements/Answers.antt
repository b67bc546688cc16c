use Rattle.std.proofs.Common.{refl, subst, arith}
use Rattle.mp_term.proofs.ListLaws.{drop-item}
use Rattle.std.specs.Prelude.{slice_get}
use Rattle.std.specs.List.{AllByRecursion}
use Rattle.mp_text.specs.Sound.{IsSoundEditSet}
use Rattle.mp_command.specs.Outcome.{edits_made, statement_before}
use Rattle.mp_command.proofs.Parted.{loop-ends, loop-further}
use Rattle.mp_command.proofs.edit.edit_statements.Goals as goal

pub edit_statement-requires : goal.edit_statement-requires
edit_statement-requires g c =
    (subst (AllByRecursion (IsSoundEditSet c.args.sig.now c.args.subjects.now))
    (drop-item c.args.sets.now c.loop-set.set-index c.set-item.result (omega arith) c.set-item.is)
    c.loop-set.invariant.sound).0

pub returns-in-Err : goal.returns-in-Err
returns-in-Err g c =
    let left = edits_made c.args.sig.now c.args.subjects.now in
    loop-ends left
    (λ set. statement_before c.args.sig.now set.edits (slice_get c.args.subjects.now set.subject))
    (λ set sets. refl) (left c.args.sets.now) c.args.sets.now c.loop-set.set-index _ _ _ _
    c.loop-set.invariant.so_far c.set-item.result (omega arith) c.set-item.is _ _
    c.in-Err.ending c.in-Err.ensures

pub loop-set-preserved : goal.loop-set-preserved
loop-set-preserved g c =
    let left = edits_made c.args.sig.now c.args.subjects.now in
    record {
      so_far = loop-further left
          (λ set. statement_before c.args.sig.now set.edits (slice_get c.args.subjects.now set.subject))
          (λ set sets. refl) (left c.args.sets.now) c.args.sets.now c.loop-set.set-index _ _ _ _
          c.loop-set.invariant.so_far c.set-item.result (omega arith) c.set-item.is _ _ c.in-Ok.ensures;
      sound = (subst (AllByRecursion (IsSoundEditSet c.args.sig.now c.args.subjects.now))
          (drop-item c.args.sets.now c.loop-set.set-index c.set-item.result (omega arith) c.set-item.is)
          c.loop-set.invariant.sound).1;
    }
