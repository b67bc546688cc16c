use Rattle.std.proofs.Common.{◌≡◌, ◌≤◌, ◌+◌, ◌-◌, ◌^◌, drop, map, min}
use Rattle.mp_parser.specs.Syntax.{trees}
use Rattle.mp_parser.specs.View.{expr_tree}
use Rattle.mp_build.specs.Checks.{all_nodes, some_large_default}
use Rattle.mp_build.proofs.Counts.{counted}
use Rattle.mp_build.proofs.checks.+node_count.Given as goal

abbrev pub invariant-node_counts-loop-expr : goal.invariant-node_counts-loop-expr
invariant-node_counts-loop-expr l =
    let rest = trees (map expr_tree (drop l.expr-index l.exprs)) in
    let all = trees (map expr_tree l.exprs) in
    record {
      fits : l.count ≤ 2 ^ 64 - 1;
      rest : min (l.count + counted (some_large_default rest) (all_nodes rest)) (2 ^ 64 - 1)
          ≡ counted (some_large_default all) (all_nodes all);
    }
