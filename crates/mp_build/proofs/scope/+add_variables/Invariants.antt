use Rattle.std.proofs.Common.{◌≡◌, ◌+◌, ◌*◌, ◌++◌, drop, map}
use Rattle.mp_parser.specs.Syntax.{trees}
use Rattle.mp_parser.specs.View.{expr_tree}
use Rattle.mp_build.specs.Checks.{nodes, all_nodes}
use Rattle.mp_build.specs.Scope.{all_pattern_variables}
use Rattle.mp_build.specs.ScopeView.{variable_of}
use Rattle.mp_build.proofs.scope.+add_variables.Given as goal

abbrev pub invariant-add_all_variables-loop-expr : goal.invariant-add_all_variables-loop-expr
invariant-add_all_variables-loop-expr l =
    map variable_of l.variables.items ++ all_pattern_variables (trees (map expr_tree (drop l.expr-index l.exprs)))
    ≡ map variable_of l.fn.variables.items ++ all_pattern_variables (trees (map expr_tree l.exprs))

-- a list of expressions lies between the expression that holds it and its items
abbrev pub decreases-add_variables : goal.decreases-add_variables
decreases-add_variables l = 2 * nodes (expr_tree l.expr.now)

abbrev pub decreases-add_all_variables : goal.decreases-add_all_variables
decreases-add_all_variables l = 2 * all_nodes (trees (map expr_tree l.exprs.now)) + 1
