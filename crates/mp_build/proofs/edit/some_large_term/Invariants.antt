use Rattle.std.proofs.Common.{◌≡◌, drop, map}
use Rattle.std.specs.List.{list_any}
use Rattle.mp_parser.specs.View.{expr_tree}
use Rattle.mp_build.specs.Checks.{is_large_term}
use Rattle.mp_build.proofs.edit.some_large_term.Given as goal

abbrev pub invariant-loop-expr : goal.invariant-loop-expr
invariant-loop-expr l = list_any is_large_term (map expr_tree (drop l.expr-index l.exprs))
    ≡ list_any is_large_term (map expr_tree l.exprs)
