use Rattle.std.proofs.Common.{◌≡◌, ◌++◌, ◌∷◌, [], Ok, Err, map, take, arith, sym, ap, ◌∙◌}
use Rattle.std.proofs.lemmas.Result.{err_from_is_err_and}
use Rattle.mp_parser.specs.View.{spot_of, statement_tree}
use Rattle.mp_build.specs.Build.{sig_with}
use Rattle.mp_build.specs.Checks.{kind_statement_faults, faults_by}
use Rattle.mp_term.proofs.ListLaws.{drop-item}
use Rattle.mp_build.proofs.Declared.{gives-KindOf, kind_decls-other, no_kind, so_far-item}
use Rattle.mp_build.proofs.Fails.{fails-front, fails-along, none-append}
use Rattle.mp_build.proofs.declaration.declare_kinds.Goals as goal
use Rattle.mp_build.proofs.declaration.declare_kinds.Goals.{in-Kind+in_ok-declare_kind, in_default}

pub returns-in_err-declare_kind : goal.returns-in_err-declare_kind
returns-in_err-declare_kind c =
    let p = err_from_is_err_and c.from_residual.result c.from_residual.ensures.1 in
    let e = c.in_err-declare_kind.field-0.0 in
    let ds = c.args.sig.now.ops in
    let s = statement_tree c.statement-item.result in
    let before = map statement_tree (take c.loop-statement.statement-index c.args.statements.now) in
    let here = drop-item c.args.statements.now c.loop-statement.statement-index c.statement-item.result
    (omega arith) c.statement-item.is in
    let fails = gives-KindOf c.loop-statement.sig c.declare_kind.new.sig ds before (spot_of c.in-Kind.name)
    (map spot_of c.in-Kind.members.items) (Err e) c.loop-statement.invariant.declared
    (rw c.deref.ensures.value at c.in_err-declare_kind.ensures) in
    rw (p.1, p.2)
    (fails-along e _ _ (ap (λ l. faults_by (kind_statement_faults ds) before (map statement_tree l)) (sym here)
    ∙ c.loop-statement.invariant.faults)
    (fails-front e (kind_statement_faults ds before s) _ (rw c.in-Kind.is fails)))

pub loop-statement-preserved : goal.loop-statement-preserved
loop-statement-preserved c =
    let ds = c.args.sig.now.ops in
    let s = statement_tree c.statement-item.result in
    let before = map statement_tree (take c.loop-statement.statement-index c.args.statements.now) in
    let step : (kind_statement_faults ds before s ≡ []) × (c.match-statement.sig ≡ sig_with ds (before ++ s ∷ [])) =
    elim c.match-statement.branch [
      | in-Kind+in_ok-declare_kind w ↦ rw (w.in-Kind.is, w.sig-is)
          (gives-KindOf c.loop-statement.sig w.declare_kind.new.sig ds before (spot_of w.in-Kind.name)
          (map spot_of w.in-Kind.members.items) (Ok tt) c.loop-statement.invariant.declared
          (rw w.deref.ensures.value at w.in_ok-declare_kind.ensures))
      | in_default w ↦ let q = no_kind c.statement-item.result w.in_default.not-Kind ds before in
          (q.0, rw (kind_decls-other before s q.1) (w.sig-is ∙ c.loop-statement.invariant.declared))
    ] in
    let more = so_far-item c.args.statements.now c.loop-statement.statement-index c.statement-item.result
    (omega arith) c.statement-item.is in
    let here = drop-item c.args.statements.now c.loop-statement.statement-index c.statement-item.result
    (omega arith) c.statement-item.is in
    rw more (record {
      declared = step.1;
      faults = sym (none-append _ _ step.0) ∙ (rw here at c.loop-statement.invariant.faults);
    })
