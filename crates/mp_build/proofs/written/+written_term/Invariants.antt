use Rattle.std.proofs.Common.{◌≡◌, ◌++◌, ◌+◌, ◌*◌, drop, map}
use Rattle.mp_parser.specs.Syntax.{trees}
use Rattle.mp_parser.specs.View.{expr_tree}
use Rattle.mp_build.specs.Build.{all_have_terms, term_of}
use Rattle.mp_build.specs.Checks.{nodes, all_nodes}
use Rattle.mp_build.proofs.written.+written_term.Given as goal

-- what is made stands before what is to be made, and all are terms where the rest are
abbrev pub invariant-written_terms-loop-expr : goal.invariant-written_terms-loop-expr
invariant-written_terms-loop-expr l =
    let rest = map expr_tree (drop l.expr-index l.exprs) in
    record {
      made : l.terms ++ map (term_of l.sig) rest ≡ map (term_of l.sig) (map expr_tree l.exprs);
      have : all_have_terms l.sig (trees rest) ≡ all_have_terms l.sig (trees (map expr_tree l.exprs));
    }

-- each function of the cycle is nearer to the expressions than the one before it
abbrev pub decreases-written_term : goal.decreases-written_term
decreases-written_term l = 3 * nodes (expr_tree l.expr.now)

abbrev pub decreases-written_application : goal.decreases-written_application
decreases-written_application l = 3 * all_nodes (trees (map expr_tree l.args.now)) + 2

abbrev pub decreases-written_terms : goal.decreases-written_terms
decreases-written_terms l = 3 * all_nodes (trees (map expr_tree l.exprs.now)) + 1
