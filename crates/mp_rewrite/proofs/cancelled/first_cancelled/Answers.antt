use Rattle.std.proofs.Common.{◌∙◌, ◌+◌, sym, ap, refl, map, drop}
use Rattle.mp_term.specs.View.{tree}
use Rattle.mp_term.proofs.ListLaws.{drop-item}
use Rattle.mp_pattern.specs.Planned.{planned_rule}
use Rattle.mp_rewrite.specs.Computed.{first_match}
use Rattle.mp_rewrite.proofs.CancellationSteps.{no-match, nothing-listed}
use Rattle.mp_rewrite.proofs.cancelled.first_cancelled.Goals as goal

pub returns-in-At : goal.returns-in-At
returns-in-At c =
    let sig = c.args.sig.now in
    let rules = c.args.rules.now in
    let t = tree c.args.term.now in
    let i = c.loop-rule.rule-index in
    let split = drop-item rules i c.rule-item.result c.loop-rule-test.true c.rule-item.is in (
      planned_rule c.rule-item.result,
      map planned_rule (drop (i + 1) rules),
      c.in-At.ensures,
      ap (λ rs. first_match sig (map planned_rule rs) t) (sym split) ∙ c.loop-rule.invariant,
    )

pub loop-rule-preserved-then-not-may_fit : goal.loop-rule-preserved-then-not-may_fit
loop-rule-preserved-then-not-may_fit c =
    let sig = c.args.sig.now in
    let rules = c.args.rules.now in
    let t = tree c.args.term.now in
    let i = c.loop-rule.rule-index in
    let r = planned_rule c.rule-item.result in
    let split = drop-item rules i c.rule-item.result c.loop-rule-test.true c.rule-item.is in
    sym (no-match sig r (map planned_rule (drop (i + 1) rules)) t c.requires
    (c.may_fit.ensures.items c.if-not-may_fit.true c.requires r refl))
    ∙ ap (λ rs. first_match sig (map planned_rule rs) t) (sym split) ∙ c.loop-rule.invariant

pub loop-rule-preserved : goal.loop-rule-preserved
loop-rule-preserved c =
    let sig = c.args.sig.now in
    let rules = c.args.rules.now in
    let t = tree c.args.term.now in
    let i = c.loop-rule.rule-index in
    let r = planned_rule c.rule-item.result in
    let split = drop-item rules i c.rule-item.result c.loop-rule-test.true c.rule-item.is in
    sym (nothing-listed sig r (map planned_rule (drop (i + 1) rules)) t c.in-Nowhere.ensures)
    ∙ ap (λ rs. first_match sig (map planned_rule rs) t) (sym split) ∙ c.loop-rule.invariant
