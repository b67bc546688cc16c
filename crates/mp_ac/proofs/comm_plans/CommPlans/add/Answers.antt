use Rattle.std.proofs.Common.{◌≡◌, ◌+◌, ◌-◌, [], ◌∷◌, ◌++◌, length, map, ap, sym, subst, ◌∙◌, arith}
use Rattle.std.proofs.lemmas.List.{append-nil, length-append, take-map}
use Rattle.mp_pattern.specs.PatternTree.{app_pattern, patterns}
use Rattle.mp_pattern.specs.View.{pattern_tree}
use Rattle.mp_ac.specs.CommPlans.{AreLeads, IsLed, IsPrepared}
use Rattle.mp_ac.specs.declared.comm_plans.CommPlans.{CommPlans}
use Rattle.mp_ac.specs.declared.comm_plans.Prepared.{Prepared}
use Rattle.mp_ac.proofs.PreparedLaws.{leads-more, prepared-kept, prepared-last}
use Rattle.mp_ac.proofs.comm_plans.CommPlans.add.Goals as goal

pub returns-clause-kept : goal.returns-clause-kept
returns-clause-kept c = λ p r h.
    let added = c.in_ok-add_leads.ensures in
    let more = c.in_ok-count.ensures.more in
    prepared-kept c.args.sig.now c.args.self.now _ added.children.0 added.leads.0 added.numbers.0 more.0 p r
    added.children.1 added.leads.1 added.numbers.1 (ap (λ v. v.items) added.tails ∙ more.1) h

pub returns-clause-added : goal.returns-clause-added
returns-clause-added c =
    let added = c.in_ok-add_leads.ensures in
    let sig = c.args.sig.now in
    let op = c.in-App.op.0 in
    let children = c.as_slice-children.result.now in
    let ps = map pattern_tree children in
    let count = c.in_ok-count.count in
    let tails = c.add_leads.new.self.tails in
    let r : Prepared = record { from = c.len-from.result; count = count; tail = c.len-tail.result - 1 } in
    let new : CommPlans = record c.add_leads.new.self { list = c.push.new.self } in
    let led : IsLed sig tails.items op ps count =
    subst (λ v. IsLed sig v.items op ps count) (sym added.tails) c.in_ok-count.ensures.led in
    let leads = leads-more c.add_leads.new.self new [] [] added.numbers.0 _ (sym (append-nil new.children.items))
    (sym (append-nil new.leads.items)) added.numbers.2 in
    let whole : length tails.items ≡ length led.last.front + 1 =
    ap length led.last.is ∙ length-append led.last.front (led.last.plan ∷ []) in (
      r,
      c.in_ok-push.ensures.items ∙ ap (λ v. v.items ++ r ∷ []) added.list,
      subst (λ p. IsPrepared sig new p r)
          (sym (ap pattern_tree c.in-App.is ∙ ap (λ l. app_pattern op (patterns l)) (sym c.as_slice-children.ensures)))
          (prepared-last sig new c.args.self.now.numbers.items added.numbers.0 op ps r led added.numbers.1
          (subst (AreLeads new added.numbers.0) (sym (take-map pattern_tree count children)) leads)
          (c.len-from.ensures ∙ c.args.self.now.numbers.ok.0)
          (omega (arith, c.len-tail.ensures ∙ tails.ok.0, whole))),
    )
