use Rattle.std.proofs.Common.{◌∙◌, ◌+◌, sym, ap, refl, map, drop}
use Rattle.mp_term.specs.Tree.{app, trees}
use Rattle.mp_term.proofs.ListLaws.{drop-item}
use Rattle.mp_pattern.specs.Planned.{planned_rule}
use Rattle.mp_rewrite.specs.Computed.{first_match}
use Rattle.mp_rewrite.proofs.CancellationSteps.{no-match}
use Rattle.mp_rewrite.proofs.Runs.{some-pairing}
use Rattle.mp_rewrite.proofs.run.first_pairing.Goals as goal

pub returns-then-not-is_apart : goal.returns-then-not-is_apart
returns-then-not-is_apart c =
    let sig = c.args.sig.now in
    let rules = c.args.rules.now in
    let i = c.loop-rule.rule-index in
    let split = drop-item rules i c.rule-item.result c.loop-rule-test.true c.rule-item.is in
    some-pairing sig (planned_rule c.rule-item.result) (map planned_rule (drop (i + 1) rules)) (map planned_rule rules)
    c.args.op.0 c.pairing_of.result c.pairing_of.ensures
    (λ ts n. ap (λ rs. first_match sig (map planned_rule rs) (app c.args.op.0 (trees ts))) (sym split)
    ∙ c.loop-rule.invariant ts n)

pub loop-rule-preserved : goal.loop-rule-preserved
loop-rule-preserved c = λ ts n.
    let sig = c.args.sig.now in
    let rules = c.args.rules.now in
    let t = app c.args.op.0 (trees ts) in
    let i = c.loop-rule.rule-index in
    let r = planned_rule c.rule-item.result in
    let split = drop-item rules i c.rule-item.result c.loop-rule-test.true c.rule-item.is in
    sym (no-match sig r (map planned_rule (drop (i + 1) rules)) t n
    (c.is_apart.ensures c.if-not-is_apart.false ts r n refl))
    ∙ ap (λ rs. first_match sig (map planned_rule rs) t) (sym split) ∙ c.loop-rule.invariant ts n
