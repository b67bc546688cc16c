use Rattle.std.proofs.Common.{◌∙◌, ◌+◌, sym, ap, refl, map, drop}
use Rattle.std.specs.Prelude.{slice_set}
use Rattle.mp_term.specs.Tree.{app, trees}
use Rattle.mp_term.specs.View.{tree}
use Rattle.mp_term.proofs.ListLaws.{drop-item}
use Rattle.mp_pattern.specs.Planned.{planned_rule}
use Rattle.mp_rewrite.specs.Computed.{first_match}
use Rattle.mp_rewrite.proofs.CancellationSteps.{no-match}
use Rattle.mp_rewrite.proofs.quiet.none_fits.Goals as goal

pub loop-rule-preserved : goal.loop-rule-preserved
loop-rule-preserved c = λ free u normal.
    let sig = c.args.sig.now in
    let rules = c.args.rules.now in
    let t = app c.args.op.0 (trees (slice_set (map tree c.args.args.now) c.args.index u)) in
    let i = c.loop-rule.rule-index in
    let r = planned_rule c.rule-item.result in
    let split = drop-item rules i c.rule-item.result c.loop-rule-test.true c.rule-item.is in
    sym (no-match sig r (map planned_rule (drop (i + 1) rules)) t normal
    (c.never_fits.ensures c.if-not-never_fits.false free u r normal refl))
    ∙ ap (λ rs. first_match sig (map planned_rule rs) t) (sym split) ∙ c.loop-rule.invariant free u normal
