use Rattle.std.proofs.Common.{ap, map, subst, sym, ◌∙◌}
use Rattle.std.specs.List.{AllByRecursion}
use Rattle.mp_term.specs.View.{tree}
use Rattle.mp_rewrite.specs.Computed.{rewriting}
use Rattle.mp_rewrite.specs.ComputedAnswers.{IsComputedRewriting}
use Rattle.mp_pattern.specs.Planned.{planned_rule}
use Rattle.mp_pattern.specs.SoundRule.{IsSoundRule}
use Rattle.mp_rewrite.proofs.CallAnswers.{IsRewritingAnswer-computed}
use Rattle.mp_rewrite.proofs.rewrite.replace_all.Goals as goal

pub plan_rules-requires : goal.plan_rules-requires
plan_rules-requires c =
    subst (AllByRecursion (IsSoundRule c.args.sig.now)) (sym c.as_slice.ensures) c.requires.rules.sound.each

pub returns-clause-answer : goal.returns-clause-answer
returns-clause-answer c =
    let t = tree c.args.term.now in
    let same = ap (map planned_rule) c.deref.ensures.value ∙ c.in_ok-planned.ensures.rules ∙ c.as_slice.ensures in
    IsRewritingAnswer-computed c.args.sig.now c.args.rules.now c.signature_is_valid.ensures c.requires.rules t
    c.requires.term c.args.max c.rewritten.result
    (subst (λ rules. IsComputedRewriting (rewriting c.args.sig.now rules c.args.max t) c.rewritten.result) same
    c.rewritten.ensures.computed)
