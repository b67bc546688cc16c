use Rattle.std.proofs.Common.{map, take, arith, refl, sym, ap, ◌∙◌}
use Rattle.std.proofs.lemmas.List.{take_all, drop_all}
use Rattle.std.proofs.lemmas.Result.{err_from_is_err_and}
use Rattle.mp_term.proofs.ListLaws.{drop-item}
use Rattle.mp_parser.specs.View.{statement_tree}
use Rattle.mp_build.specs.Checks.{faults_by}
use Rattle.mp_build.proofs.Declared.{so_far-item}
use Rattle.mp_build.proofs.Fails.{fails-front, fails-along, none-append}
use Rattle.mp_text.specs.FileChecks.{statement_faults}
use Rattle.mp_text.proofs.reader.add_statements.Goals as goal

pub loop-statement-init : goal.loop-statement-init
loop-statement-init c = record { built = c.requires; faults = refl }

pub loop-statement-preserved : goal.loop-statement-preserved
loop-statement-preserved c =
    let ss = c.args.statements.now in
    let index = c.loop-statement.statement-index in
    let was = c.loop-statement.invariant in
    let added = c.in_ok-add_statement.ensures c.args.draft.now.file.sig (map statement_tree (take index ss)) was.built
    in
    let more = so_far-item ss index c.statement-item.result (omega arith) c.statement-item.is in
    let here = drop-item ss index c.statement-item.result (omega arith) c.statement-item.is in
    rw more (record { built = added.1; faults = sym (none-append _ _ added.0) ∙ (rw here at was.faults) })

pub returns-in_err-add_statement : goal.returns-in_err-add_statement
returns-in_err-add_statement c =
    let p = err_from_is_err_and c.from_residual.result c.from_residual.ensures.1 in
    let e = c.in_err-add_statement.field-0.0 in
    let ss = c.args.statements.now in
    let index = c.loop-statement.statement-index in
    let was = c.loop-statement.invariant in
    let rule = statement_faults c.args.draft.now.file.sig in
    let before = map statement_tree (take index ss) in
    let here = drop-item ss index c.statement-item.result (omega arith) c.statement-item.is in
    rw (p.1, p.2)
    (fails-along e _ _ (ap (λ l. faults_by rule before (map statement_tree l)) (sym here) ∙ was.faults)
    (fails-front e (rule before (statement_tree c.statement-item.result)) _
    (c.in_err-add_statement.ensures _ before was.built)))

pub returns : goal.returns
returns c =
    let ss = c.args.statements.now in
    let index = c.loop-statement.statement-index in
    let was = c.loop-statement.invariant in
    let rule = statement_faults c.args.draft.now.file.sig in
    let none = drop_all index ss (omega arith) in (
      sym was.faults ∙ ap (λ l. faults_by rule (map statement_tree (take index ss)) (map statement_tree l)) none,
      rw (take_all index ss (omega arith)) at was.built,
    )
