use Rattle.std.proofs.Common.{◌≡◌, ap, map, subst, sym, ◌∙◌}
use Rattle.std.specs.Prelude.{Some, None, Ok, Err}
use Rattle.std.specs.List.{AllByRecursion}
use Rattle.mp_term.specs.View.{tree}
use Rattle.mp_pattern.specs.Planned.{planned_rule}
use Rattle.mp_pattern.specs.SoundRule.{IsSoundRule}
use Rattle.mp_rewrite.specs.Computed.{next_step}
use Rattle.mp_rewrite.specs.Answers.{IsStepAnswer}
use Rattle.mp_rewrite.specs.Faults.{fault_after}
use Rattle.mp_rewrite.specs.Turn.{IsNextTurn, IsStopped, IsTurn}
use Rattle.mp_rewrite.proofs.CallAnswers.{IsStepAnswer-computed, IsComputedStep-stop}
use Rattle.mp_rewrite.proofs.rewrite.step.Goals as goal
use Rattle.mp_rewrite.proofs.rewrite.step.Goals.{After-take_turn}

pub plan_rules-requires : goal.plan_rules-requires
plan_rules-requires c =
    subst (AllByRecursion (IsSoundRule c.args.sig.now)) (sym c.as_slice.ensures) c.requires.rules.sound.each

pub take_turn-requires-clause-here : goal.take_turn-requires-clause-here
take_turn-requires-clause-here c =
    c.in_ok-here.ensures.here c.args.sig.now (map planned_rule c.deref.result.now) c.requires.term

-- the step of the copy is that of the term
same_step : (c : After-take_turn)
    → next_step c.args.sig.now (map planned_rule c.deref.result.now) (tree c.in_ok-here.here.term)
    ≡ next_step c.args.sig.now c.args.rules.now (tree c.args.term.now)
same_step c =
    ap (λ rules. next_step c.args.sig.now rules (tree c.in_ok-here.here.term))
    (ap (map planned_rule) c.deref.ensures.value ∙ c.in_ok-planned.ensures.rules ∙ c.as_slice.ensures)
    ∙ ap (next_step c.args.sig.now c.args.rules.now) c.in_ok-here.ensures.term

pub returns-in-Ok-Made-clause-computed : goal.returns-in-Ok-Made-clause-computed
returns-in-Ok-Made-clause-computed c =
    let o = next_step c.args.sig.now (map planned_rule c.deref.result.now) (tree c.in_ok-here.here.term) in
    sym (same_step (goal.at.returns-in-Ok-Made-clause-computed c).After-take_turn)
    ∙ subst (λ x. IsTurn o c.in_ok-here.here (Ok x)) c.in-Ok-Made.field-0-is c.in-Ok-Made.ensures.turn

pub returns-in-Ok-Made-clause-answer : goal.returns-in-Ok-Made-clause-answer
returns-in-Ok-Made-clause-answer c =
    let o = next_step c.args.sig.now (map planned_rule c.deref.result.now) (tree c.in_ok-here.here.term) in
    IsStepAnswer-computed c.args.sig.now c.args.rules.now c.signature_is_valid.ensures c.requires.rules
    (tree c.args.term.now) c.requires.term (Ok (Some c.in-Ok-Made.next.term))
    (sym (same_step (goal.at.returns-in-Ok-Made-clause-answer c).After-take_turn)
    ∙ subst (λ x. IsTurn o c.in_ok-here.here (Ok x)) c.in-Ok-Made.field-0-is c.in-Ok-Made.ensures.turn)

pub returns-in-Ok-Made-clause-rewritable : goal.returns-in-Ok-Made-clause-rewritable
returns-in-Ok-Made-clause-rewritable c =
    (subst (IsNextTurn c.args.sig.now (map planned_rule c.deref.result.now)) c.in-Ok-Made.field-0-is
    c.in-Ok-Made.ensures.here).rewritable

pub returns-in-Ok-Ended-clause-computed : goal.returns-in-Ok-Ended-clause-computed
returns-in-Ok-Ended-clause-computed c =
    let o = next_step c.args.sig.now (map planned_rule c.deref.result.now) (tree c.in_ok-here.here.term) in
    sym (same_step (goal.at.returns-in-Ok-Ended-clause-computed c).After-take_turn)
    ∙ (subst (λ x. IsTurn o c.in_ok-here.here (Ok x)) c.in-Ok-Ended.field-0-is c.in-Ok-Ended.ensures.turn).0

pub returns-in-Ok-Ended-clause-answer : goal.returns-in-Ok-Ended-clause-answer
returns-in-Ok-Ended-clause-answer c =
    let o = next_step c.args.sig.now (map planned_rule c.deref.result.now) (tree c.in_ok-here.here.term) in
    IsStepAnswer-computed c.args.sig.now c.args.rules.now c.signature_is_valid.ensures c.requires.rules
    (tree c.args.term.now) c.requires.term (Ok None)
    (sym (same_step (goal.at.returns-in-Ok-Ended-clause-answer c).After-take_turn)
    ∙ (subst (λ x. IsTurn o c.in_ok-here.here (Ok x)) c.in-Ok-Ended.field-0-is c.in-Ok-Ended.ensures.turn).0)

pub returns-clause-answer : goal.returns-clause-answer
returns-clause-answer c =
    let t = tree c.args.term.now in
    let o = next_step c.args.sig.now c.args.rules.now t in
    subst (IsStepAnswer c.args.sig.now c.args.rules.now t) (ap Err (sym c.after.ensures))
    (IsStepAnswer-computed c.args.sig.now c.args.rules.now c.signature_is_valid.ensures c.requires.rules t
    c.requires.term (Err (fault_after c.in-Err.stop 0))
    (IsComputedStep-stop o c.in-Err.stop
    (subst (λ o. IsStopped o c.in-Err.stop)
    (same_step (goal.at.returns-clause-answer c).After-take_turn) c.in-Err.ensures.turn)))
