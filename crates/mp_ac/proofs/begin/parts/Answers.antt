use Rattle.std.proofs.Common.{◌≡◌, [], take, drop, ap, sym, subst, ◌∙◌}
use Rattle.std.specs.Prelude.{Some}
use Rattle.std.proofs.lemmas.List.{take-append-drop}
use Rattle.mp_pattern.specs.PatternLists.{patterns-pattern_list}
use Rattle.mp_pattern.specs.PatternTree.{app_pattern, pattern_list, patterns}
use Rattle.mp_ac.specs.CommPlan.{IsCommPlanOf}
use Rattle.mp_ac.specs.CommPlans.{AreLeads}
use Rattle.mp_ac.proofs.begin.parts.Goals as goal

pub ways-requires-clause-numbers : goal.ways-requires-clause-numbers
ways-requires-clause-numbers c =
    let h = c.requires.prepared in
    let ps = take c.args.prepared.count (pattern_list h.children) in
    (ps, subst (λ ns. AreLeads c.args.plans.now ns ps) (sym c.numbers_of-numbers.ensures) h.leads)

pub returns-then-ways-le-FEW-clause-parts : goal.returns-then-ways-le-FEW-clause-parts
returns-then-ways-le-FEW-clause-parts c =
    let h = c.requires.prepared in
    let count = c.args.prepared.count in
    let ps = pattern_list h.children in
    let same : h.plan ≡ c.in-Some.tail.now =
    (let e : Some h.plan ≡ Some c.in-Some.tail.now = sym (c.in-Some.ensures ∙ h.held) in cc) in
    record {
      op = h.op;
      leading = take count ps;
      others = drop count ps;
      is = h.is ∙ ap (app_pattern h.op) (sym (patterns-pattern_list h.children)
          ∙ ap patterns (sym (take-append-drop count ps)));
      each = h.each;
      leads = subst (λ ns. AreLeads c.args.plans.now ns (take count ps)) (sym c.numbers_of-numbers.ensures) h.leads;
      plan = subst (IsCommPlanOf c.args.sig.now (app_pattern h.op (patterns (drop count ps)))) same h.tail;
    }

pub returns-then-ways-eq0-clause-parts : goal.returns-then-ways-eq0-clause-parts
returns-then-ways-eq0-clause-parts c =
    let h = c.requires.prepared in
    let count = c.args.prepared.count in
    let ps = pattern_list h.children in
    record {
      op = h.op;
      leading = take count ps;
      others = drop count ps;
      is = h.is ∙ ap (app_pattern h.op) (sym (patterns-pattern_list h.children)
          ∙ ap patterns (sym (take-append-drop count ps)));
      each = h.each;
      blocked = c.in_ok-ways.ensures.none c.if-ways-eq0.true (take count ps)
          (subst (λ ns. AreLeads c.args.plans.now ns (take count ps)) (sym c.numbers_of-numbers.ensures) h.leads);
    }

pub returns-clause-parts : goal.returns-clause-parts
returns-clause-parts c =
    let h = c.requires.prepared in
    let whole = h.is ∙ ap (app_pattern h.op) (sym (patterns-pattern_list h.children)) in
    record {
      op = h.op;
      leading = [];
      others = pattern_list h.children;
      is = whole;
      each = tt;
      leads = tt;
      plan = subst (λ p. IsCommPlanOf c.args.sig.now p c.in_ok-whole.whole) whole c.in_ok-whole.ensures;
    }
