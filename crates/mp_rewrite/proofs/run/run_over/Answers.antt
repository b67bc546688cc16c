use Rattle.std.proofs.Common.{◌∙◌, ◌+◌, ap, subst, map, arith}
use Rattle.mp_term.specs.Tree.{app, trees}
use Rattle.mp_pattern.specs.Planned.{planned_rule}
use Rattle.mp_rewrite.specs.Computed.{rewriting_from}
use Rattle.mp_rewrite.specs.Rewritable.{IsRewritable}
use Rattle.mp_rewrite.proofs.Runs.{together}
use Rattle.mp_rewrite.proofs.run.run_over.Goals as goal

pub returns-clause-here : goal.returns-clause-here
returns-clause-here c =
    let sig = c.args.sig.now in
    let d = c.args.cancellation.now in
    let p = c.in_ok-passed.passed in
    let all = together p.kept c.in_ok-kept.kept c.in_ok-kept-2.kept c.in_ok-kept-3.kept p.place p.made d.put
    c.args.before.now c.args.behind.now c.in_ok-kept.ensures c.in_ok-kept-2.ensures c.in_ok-kept-3.ensures in
    let rewritable : IsRewritable sig (app d.op.0 (trees c.in_ok-kept-3.kept)) =
    subst (λ l. IsRewritable sig (app d.op.0 (trees l))) all c.in_ok-passed.ensures.passed.rewritable in
    record {
      rewritable = rewritable;
      known = tt;
      nodes = omega (arith, c.node_count-nodes.ensures, rewritable.few_nodes);
    }

pub returns-clause-run : goal.returns-clause-run
returns-clause-run c = λ left n.
    let sig = c.args.sig.now in
    let rules = map planned_rule c.args.rules.now in
    let d = c.args.cancellation.now in
    let p = c.in_ok-passed.passed in
    let all = together p.kept c.in_ok-kept.kept c.in_ok-kept-2.kept c.in_ok-kept-3.kept p.place p.made d.put
    c.args.before.now c.args.behind.now c.in_ok-kept.ensures c.in_ok-kept-2.ensures c.in_ok-kept-3.ensures in
    c.in_ok-passed.ensures.passed.leads left n
    ∙ ap (λ l. rewriting_from sig rules left (p.made + n) (app d.op.0 (trees l))) all
