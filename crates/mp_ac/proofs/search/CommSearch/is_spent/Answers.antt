use Rattle.std.proofs.Common.{length, ap, subst, arith}
use Rattle.mp_ac.specs.declared.comm_plan.CommPlan.{CommPlan}
use Rattle.mp_ac.specs.Planned.{plan_of}
use Rattle.mp_ac.specs.Spent.{IsSpent}
use Rattle.mp_ac.proofs.SpentLaws.{spent-ahead, spent-count}
use Rattle.mp_ac.proofs.search.CommSearch.is_spent.Goals as goal

pub is_spent-requires : goal.is_spent-requires
is_spent-requires c =
    omega (arith, spent-count c.args.self.now c.requires.0 c.requires.1, ap length c.deref.ensures.value)

pub returns-in-Standing : goal.returns-in-Standing
returns-in-Standing c = λ truth t h.
    let s = c.args.self.now in
    spent-ahead s t h c.in-Standing.is
    (subst (λ ks. IsSpent (plan_of s.plan).plan (length s.children.now) ks) c.deref.ensures.value
    (subst (λ (p : CommPlan). IsSpent p.plan (length s.children.now) c.deref.result.now) c.get-plan.ensures
    (c.is_spent.ensures truth)))
