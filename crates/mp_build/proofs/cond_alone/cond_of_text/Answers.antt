use Rattle.std.proofs.Common.{subst, sym}
use Rattle.std.proofs.lemmas.Result.{err_from_is_err_and}
use Rattle.mp_pattern.specs.CondView.{cond_tree}
use Rattle.mp_parser.specs.Lexing.{first_token_place}
use Rattle.mp_parser.specs.View.{condition_tree}
use Rattle.mp_parser.proofs.FirstPlace.{IsFirstPlace-is}
use Rattle.mp_syntax.proofs.Whole.{condition_reading-only}
use Rattle.mp_syntax.specs.Begins.{OfCondition}
use Rattle.mp_build.specs.AloneCondition.{IsPlacedConditionOf, condition_alone_faults, placed_cond_of}
use Rattle.mp_build.specs.Alone.{Answers}
use Rattle.mp_build.specs.PlacedReading.{at_place, placed_reading}
use Rattle.mp_build.specs.ScopeView.{scope_of}
use Rattle.mp_build.proofs.AloneLaws.{answers-error}
use Rattle.mp_build.proofs.FirstToken.{IsReading-placed_reading}
use Rattle.mp_build.proofs.cond_alone.cond_of_text.Goals as goal

pub returns-in_err-condition : goal.returns-in_err-condition
returns-in_err-condition c =
    let p = err_from_is_err_and c.from_residual.result c.from_residual.ensures.1 in
    let e = c.in_err-condition.field-0.0 in
    rw (p.1, p.2) (answers-error OfCondition IsPlacedConditionOf placed_reading IsReading-placed_reading
    (condition_alone_faults c.args.sig.now (scope_of c.args.scope.now)) (placed_cond_of c.args.sig.now) cond_tree
    c.args.bytes.now e c.in_err-condition.ensures.fault)

pub returns : goal.returns
returns c =
    let tree = condition_tree c.in_ok-condition.condition in
    let faults = condition_alone_faults c.args.sig.now (scope_of c.args.scope.now) in
    subst (λ r. Answers faults (placed_cond_of c.args.sig.now) cond_tree
    (at_place (first_token_place c.args.bytes.now) r) c.cond_alone.result)
    (sym (condition_reading-only c.args.bytes.now tree c.in_ok-condition.ensures.found))
    (rw (IsFirstPlace-is c.args.bytes.now c.first_token_place-start.result c.first_token_place-start.ensures) at
    c.cond_alone.ensures)
