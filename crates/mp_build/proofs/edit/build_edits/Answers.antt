use Rattle.std.proofs.Common.{◌+◌, map, drop, arith, ap}
use Rattle.std.proofs.lemmas.Result.{err_from_is_err_and}
use Rattle.mp_term.proofs.ListLaws.{drop-item}
use Rattle.mp_parser.specs.View.{change_tree}
use Rattle.mp_build.specs.Edits.{edit_of, new_term_faults}
use Rattle.mp_build.proofs.BuiltLists.{built-next, fails-next}
use Rattle.mp_build.proofs.edit.build_edits.Goals as goal

pub returns-in_err-edit : goal.returns-in_err-edit
returns-in_err-edit c =
    let p = err_from_is_err_and c.from_residual.result c.from_residual.ensures.1 in
    let here = drop-item c.args.changes.now c.loop-change.change-index c.change-item.result
    (omega arith) c.change-item.is in
    let sig = c.args.sig.now in
    rw (p.1, p.2)
    (fails-next (new_term_faults sig) (edit_of sig) c.in_err-edit.field-0.0 c.loop-change.edits _ _ _ _
    (ap (map change_tree) here) c.loop-change.invariant c.in_err-edit.ensures)

pub loop-change-preserved : goal.loop-change-preserved
loop-change-preserved c =
    let here = drop-item c.args.changes.now c.loop-change.change-index c.change-item.result
    (omega arith) c.change-item.is in
    let sig = c.args.sig.now in
    built-next (new_term_faults sig) (edit_of sig) c.loop-change.edits _ (change_tree c.change-item.result)
    (map change_tree (drop (c.loop-change.change-index + 1) c.args.changes.now)) _ _ _
    (ap (map change_tree) here) c.loop-change.invariant c.in_ok-edit.ensures.0 c.in_ok-edit.ensures.1
    c.in_ok-push.ensures.ok
