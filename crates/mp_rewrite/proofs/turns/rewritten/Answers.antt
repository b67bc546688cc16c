use Rattle.std.proofs.Common.{◌≡◌, ◌∙◌, ◌-◌, map, ap, refl, subst, sym, arith}
use Rattle.std.specs.Prelude.{Ok, Err, is_some}
use Rattle.mp_rewrite.proofs.CallAnswers.{stopped, went_on, ended, at_limit}
use Rattle.mp_rewrite.proofs.Runs.{left-after, left-still}
use Rattle.mp_term.specs.View.{tree}
use Rattle.mp_term.proofs.SignatureLaws.{is_some-option_map}
use Rattle.mp_rewrite.specs.Computed.{rewriting, rewriting_from, next_step}
use Rattle.mp_rewrite.specs.ComputedAnswers.{IsComputedRewriting}
use Rattle.mp_rewrite.specs.Made.{redex_of}
use Rattle.mp_pattern.specs.Planned.{planned_rule}
use Rattle.mp_rewrite.specs.Rewritable.{IsRewritable}
use Rattle.mp_rewrite.specs.Turn.{IsNextTurn, IsTurn}
use Rattle.mp_rewrite.proofs.Steps.{is_some-next_step}
use Rattle.mp_rewrite.proofs.turns.rewritten.Goals as goal

pub loop-turns-init : goal.loop-turns-init
loop-turns-init c =
    let sig = c.args.sig.now in
    let rules = map planned_rule c.args.rules.now in
    let same : c.args.max - 0 ≡ c.args.max = omega arith in
    record {
      few = omega arith;
      here = c.in_ok-here.ensures.here sig rules c.requires.term;
      left = ap (rewriting_from sig rules (c.args.max - 0) 0) c.in_ok-here.ensures.term
          ∙ ap (λ k. rewriting_from sig rules k 0 (tree c.args.term.now)) same;
    }

pub loop-turns-preserved-then-run-gt0 : goal.loop-turns-preserved-then-run-gt0
loop-turns-preserved-then-run-gt0 c =
    let rules = map planned_rule c.args.rules.now in
    let run = c.in_ok-run in
    record {
      few = omega (arith, run.ensures.few, c.loop-turns-test.true);
      here = run.ensures.here;
      left = sym (left-after c.args.sig.now rules c.args.max c.loop-turns.turns run.run'.made
          (tree c.loop-turns.here.term) (tree run.run'.here.term) run.ensures.run run.ensures.few)
          ∙ c.loop-turns.invariant.left;
    }

pub loop-turns-preserved : goal.loop-turns-preserved
loop-turns-preserved c =
    let sig = c.args.sig.now in
    let rules = map planned_rule c.args.rules.now in
    let w = rewriting sig rules c.args.max (tree c.args.term.now) in
    let turns = c.loop-turns.turns in
    let run = c.in_ok-run in
    let here = tree run.run'.here.term in
    let left : rewriting_from sig rules (c.args.max - turns) turns here ≡ w =
    sym (left-still sig rules c.args.max turns run.run'.made (tree c.loop-turns.here.term) here run.ensures.run
    (omega (arith, c.if-run-gt0.false))) ∙ c.loop-turns.invariant.left in
    record {
      few = omega (arith, c.loop-turns-test.true);
      here = subst (IsNextTurn sig rules) c.in-Ok-Made.field-0-is c.in-Ok-Made.ensures.here;
      left = went_on sig rules c.args.max turns here (tree c.in-Ok-Made.next.term) w c.loop-turns-test.true left
          (subst (λ x. IsTurn (next_step sig rules here) run.run'.here (Ok x)) c.in-Ok-Made.field-0-is
          c.in-Ok-Made.ensures.turn);
    }

pub returns-in-Ok-Ended-clause-computed : goal.returns-in-Ok-Ended-clause-computed
returns-in-Ok-Ended-clause-computed c =
    let sig = c.args.sig.now in
    let rules = map planned_rule c.args.rules.now in
    let w = rewriting sig rules c.args.max (tree c.args.term.now) in
    let turns = c.loop-turns.turns in
    let run = c.in_ok-run in
    let here = tree run.run'.here.term in
    let left : rewriting_from sig rules (c.args.max - turns) turns here ≡ w =
    sym (left-still sig rules c.args.max turns run.run'.made (tree c.loop-turns.here.term) here run.ensures.run
    (omega (arith, c.if-run-gt0.false))) ∙ c.loop-turns.invariant.left in
    let turn = subst (λ x. IsTurn (next_step sig rules here) run.run'.here (Ok x)) c.in-Ok-Ended.field-0-is
    c.in-Ok-Ended.ensures.turn in
    ended sig rules c.args.max turns here (tree c.in-Ok-Ended.term) w c.loop-turns-test.true left turn.0 turn.1

pub returns-in-Ok-Ended-clause-rewritable : goal.returns-in-Ok-Ended-clause-rewritable
returns-in-Ok-Ended-clause-rewritable c =
    let sig = c.args.sig.now in
    let run = c.in_ok-run in
    let o = next_step sig (map planned_rule c.args.rules.now) (tree run.run'.here.term) in
    let turn = subst (λ x. IsTurn o run.run'.here (Ok x)) c.in-Ok-Ended.field-0-is c.in-Ok-Ended.ensures.turn in
    subst (IsRewritable sig) (sym turn.1) run.ensures.here.rewritable

pub returns-in-Err-clause-computed : goal.returns-in-Err-clause-computed
returns-in-Err-clause-computed c =
    let sig = c.args.sig.now in
    let rules = map planned_rule c.args.rules.now in
    let w = rewriting sig rules c.args.max (tree c.args.term.now) in
    let turns = c.loop-turns.turns in
    let run = c.in_ok-run in
    let here = tree run.run'.here.term in
    let left : rewriting_from sig rules (c.args.max - turns) turns here ≡ w =
    sym (left-still sig rules c.args.max turns run.run'.made (tree c.loop-turns.here.term) here run.ensures.run
    (omega (arith, c.if-run-gt0.false))) ∙ c.loop-turns.invariant.left in
    subst (λ e. IsComputedRewriting w (Err e)) (sym c.after.ensures)
    (stopped sig rules c.args.max turns here w c.in-Err.stop c.loop-turns-test.true left c.in-Err.ensures.turn)

pub returns-clause-computed : goal.returns-clause-computed
returns-clause-computed c =
    let sig = c.args.sig.now in
    let rules = map planned_rule c.args.rules.now in
    let w = rewriting sig rules c.args.max (tree c.args.term.now) in
    let here = tree c.loop-turns.here.term in
    let redex = ap is_some c.in_ok-first_known_redex.ensures.redex in
    at_limit sig rules c.args.max c.loop-turns.turns here w (next_step sig rules here) c.is_some-more.result
    (omega (arith, c.loop-turns-test.false)) (omega (arith, c.loop-turns.invariant.few))
    c.loop-turns.invariant.left refl
    (c.is_some-more.ensures ∙ sym (is_some-option_map (λ r. redex_of r.redex) c.in_ok-first_known_redex.field-0) ∙ redex
    ∙ sym (is_some-next_step sig rules c.signature_is_valid.ensures c.requires.rules here
    c.loop-turns.invariant.here.rewritable))

pub returns-clause-rewritable : goal.returns-clause-rewritable
returns-clause-rewritable c = c.loop-turns.invariant.here.rewritable
