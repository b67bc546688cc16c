use Rattle.std.proofs.Common.{◌≡◌, ◌++◌, ◌+◌, ◌*◌, drop, map}
use Rattle.mp_parser.specs.Syntax.{trees}
use Rattle.mp_parser.specs.View.{expr_tree}
use Rattle.mp_build.specs.Build.{term_of}
use Rattle.mp_build.specs.Checks.{nodes, all_nodes, all_term_faults}
use Rattle.mp_build.proofs.build.+build_term.Given as goal

-- what is built stands before what is to be built, and the faults are those of the rest
abbrev pub invariant-build_terms-loop-expr : goal.invariant-build_terms-loop-expr
invariant-build_terms-loop-expr l =
    let rest = map expr_tree (drop l.expr-index l.exprs) in
    record {
      built : l.terms ++ map (term_of l.sig) rest ≡ map (term_of l.sig) (map expr_tree l.exprs);
      faults : all_term_faults l.sig (trees rest) ≡ all_term_faults l.sig (trees (map expr_tree l.exprs));
    }

-- each function of the cycle is nearer to the expressions than the one before it
abbrev pub decreases-build_term : goal.decreases-build_term
decreases-build_term l = 3 * nodes (expr_tree l.expr.now)

abbrev pub decreases-infix_term : goal.decreases-infix_term
decreases-infix_term l = 3 * all_nodes (trees (map expr_tree l.operands.now)) + 2

abbrev pub decreases-build_terms : goal.decreases-build_terms
decreases-build_terms l = 3 * all_nodes (trees (map expr_tree l.exprs.now)) + 1
