use Rattle.std.proofs.Common.{◌-◌, length, ap, sym, subst, ◌∙◌}
use Rattle.std.specs.Prelude.{IfSome, slice_get}
use Rattle.mp_pattern.specs.View.{pattern_tree}
use Rattle.mp_ac.specs.CommPlan.{IsCommPlanOf}
use Rattle.mp_ac.proofs.PreparedLaws.{last-found, last-pushed}
use Rattle.mp_ac.proofs.comm_plans.add_tail.Goals as goal

pub returns-clause-last : goal.returns-clause-last
returns-clause-last c = λ _.
    last-found c.args.sig.now c.args.tails.now.items c.in-Some.last.now _ c.requires.tails
    (sym (c.in-Some.ensures.value ∙ ap (λ l. slice_get l (length l - 1)) c.deref.ensures.value))
    (sym c.pattern.ensures ∙ c.is_of.ensures c.if-is_of.true)

pub returns-2-clause-last : goal.returns-2-clause-last
returns-2-clause-last c = λ _.
    let own : IsCommPlanOf c.args.sig.now (pattern_tree c.in_ok-pattern.pattern) c.in-Some-2.plan =
    subst (λ o. IfSome o (IsCommPlanOf c.args.sig.now (pattern_tree c.in_ok-pattern.pattern))) c.in-Some-2.is
    c.in_ok-planned.ensures in
    last-pushed c.args.sig.now c.args.tails.now.items c.push.new.self.items c.in-Some-2.plan _
    c.in_ok-push-in-Some-2.ensures.items
    (subst (λ p. IsCommPlanOf c.args.sig.now p c.in-Some-2.plan) c.in_ok-pattern.ensures own)
