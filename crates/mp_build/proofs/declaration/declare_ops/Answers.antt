use Rattle.std.proofs.Common.{◌≡◌, ◌++◌, ◌∷◌, [], Ok, Err, map, take, arith, sym, ap, ◌∙◌}
use Rattle.std.proofs.lemmas.Result.{err_from_is_err_and}
use Rattle.mp_parser.specs.View.{spot_of, flag_of, statement_tree}
use Rattle.mp_build.specs.Build.{op_decls, sig_with}
use Rattle.mp_build.specs.Checks.{op_statement_faults, faults_by}
use Rattle.mp_term.proofs.ListLaws.{drop-item}
use Rattle.mp_build.proofs.Declared.{gives-OpOf, op_decls-other, no_op, so_far-item}
use Rattle.mp_build.proofs.Fails.{fails-front, fails-along, none-append}
use Rattle.mp_build.proofs.declaration.declare_ops.Goals as goal
use Rattle.mp_build.proofs.declaration.declare_ops.Goals.{in-Op+in_ok-declare_op, in_default}

pub returns-in_err-declare_op : goal.returns-in_err-declare_op
returns-in_err-declare_op c =
    let p = err_from_is_err_and c.from_residual-in_err-declare_op.result
    c.from_residual-in_err-declare_op.ensures.1 in
    let e = c.in_err-declare_op.field-0.0 in
    let before = map statement_tree (take c.loop-statement.statement-index c.args.statements.now) in
    let here = drop-item c.args.statements.now c.loop-statement.statement-index c.statement-item.result
    (omega arith) c.statement-item.is in
    let fails = gives-OpOf c.loop-statement.sig c.declare_op.new.sig before (spot_of c.in-Op.name)
    (spot_of c.in-Op.least) c.in-Op.is_open (map flag_of c.in-Op.flags.items) (Err e)
    c.loop-statement.invariant.declared (rw c.deref.ensures.value at c.in_err-declare_op.ensures) in
    let s = statement_tree c.statement-item.result in
    rw (p.1, p.2)
    (fails-along e _ _ (ap (λ l. faults_by op_statement_faults before (map statement_tree l)) (sym here)
    ∙ c.loop-statement.invariant.faults)
    (fails-front e (op_statement_faults before s) _ (rw c.in-Op.is fails)))

pub loop-statement-preserved : goal.loop-statement-preserved
loop-statement-preserved c =
    let s = statement_tree c.statement-item.result in
    let before = map statement_tree (take c.loop-statement.statement-index c.args.statements.now) in
    let step : (op_statement_faults before s ≡ [])
    × (c.match-statement.sig ≡ sig_with (op_decls (before ++ s ∷ [])) []) =
    elim c.match-statement.branch [
      | in-Op+in_ok-declare_op w ↦ rw (w.in-Op.is, w.sig-is)
          (gives-OpOf c.loop-statement.sig w.declare_op.new.sig before (spot_of w.in-Op.name)
          (spot_of w.in-Op.least) w.in-Op.is_open
          (map flag_of w.in-Op.flags.items) (Ok tt) c.loop-statement.invariant.declared
          (rw w.deref.ensures.value at w.in_ok-declare_op.ensures))
      | in_default w ↦ let q = no_op c.statement-item.result w.in_default.not-Op before in
          (q.0, rw (op_decls-other before s q.1) (w.sig-is ∙ c.loop-statement.invariant.declared))
    ] in
    let more = so_far-item c.args.statements.now c.loop-statement.statement-index c.statement-item.result
    (omega arith) c.statement-item.is in
    let here = drop-item c.args.statements.now c.loop-statement.statement-index c.statement-item.result
    (omega arith) c.statement-item.is in
    rw more (record {
      declared = step.1;
      faults = sym (none-append _ _ step.0) ∙ (rw here at c.loop-statement.invariant.faults);
    })
