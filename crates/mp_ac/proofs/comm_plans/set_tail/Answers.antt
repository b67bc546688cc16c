use Rattle.std.proofs.Common.{◌≤◌, map, sym, subst, arith}
use Rattle.std.proofs.lemmas.List.{length-map}
use Rattle.mp_term.specs.Listing.{In}
use Rattle.mp_pattern.specs.PatternTree.{app_pattern, patterns}
use Rattle.mp_pattern.specs.Variables.{variables}
use Rattle.mp_pattern.specs.View.{pattern_tree}
use Rattle.mp_ac.specs.CommPlan.{IsCommPlanOf}
use Rattle.mp_ac.specs.CommPlans.{IsLast}
use Rattle.mp_ac.proofs.PreparedLaws.{last-pushed, trees-behind, variables-behind}
use Rattle.mp_ac.proofs.comm_plans.set_tail.Goals as goal

pub add_tail-requires-clause-names : goal.add_tail-requires-clause-names
add_tail-requires-clause-names c = λ x i.
    let n = c.few_leading-count.result in
    let children = c.args.children.now in
    c.requires.pattern.names x (subst (λ p. In x (variables p)) (sym c.requires.children)
    (variables-behind c.args.op.0 x n (map pattern_tree children)
    (subst (λ ps. In x (variables (app_pattern c.args.op.0 (patterns ps)))) (trees-behind n children) i)))

pub returns-then-branch-clause-led : goal.returns-then-branch-clause-led
returns-then-branch-clause-led c =
    let n = c.few_leading-count.result in
    let children = c.args.children.now in
    record {
      few = subst (λ k. n ≤ k) (sym (length-map children pattern_tree)) c.few_leading-count.ensures.within;
      each = c.few_leading-count.ensures.each;
      last = subst (λ ps. IsLast c.args.sig.now c.add_tail.new.tails.items (app_pattern c.args.op.0 (patterns ps)))
          (trees-behind n children) (c.in_ok-add_tail.ensures.last c.if-branch.true);
    }

pub returns-clause-led : goal.returns-clause-led
returns-clause-led c = record {
  few = omega arith;
  each = tt;
  last = last-pushed c.args.sig.now c.add_tail.new.tails.items c.push.new.self.items c.in_ok-new.field-0 _
      c.in_ok-push.ensures.items
      (subst (λ p. IsCommPlanOf c.args.sig.now p c.in_ok-new.field-0) c.requires.children c.in_ok-new.ensures);
}
