use Rattle.std.proofs.Common.{◌≤◌, arith, sym}
use Rattle.mp_pattern.specs.declared.limits.TheConstants.{MAX_VARIABLES}
use Rattle.mp_parser.specs.View.{expr_tree}
use Rattle.mp_build.proofs.Counts.{few-counted}
use Rattle.mp_build.proofs.checks.is_large_pattern.Goals as goal

pub returns-then-nodes : goal.returns-then-nodes
returns-then-nodes c =
    let few : c.node_count-nodes.result ≤ MAX_VARIABLES = omega (arith, c.if-nodes.true) in
    sym (few-counted (expr_tree c.args.expr.now) (rw c.node_count-nodes.ensures at few))
