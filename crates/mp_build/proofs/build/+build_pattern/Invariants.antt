use Rattle.std.proofs.Common.{◌≡◌, ◌++◌, ◌+◌, ◌*◌, drop, map}
use Rattle.mp_parser.specs.Syntax.{trees}
use Rattle.mp_parser.specs.View.{expr_tree}
use Rattle.mp_build.specs.Build.{pattern_of}
use Rattle.mp_build.specs.Checks.{nodes, all_nodes, all_pattern_faults}
use Rattle.mp_build.specs.Wildcards.{all_pattern_wildcards}
use Rattle.mp_build.specs.WildcardView.{wildcard_view}
use Rattle.mp_build.proofs.build.+build_pattern.Given as goal

-- what is built stands before what is to be built, and the faults are those of the rest behind the wildcards so far
abbrev pub invariant-build_patterns-loop-expr : goal.invariant-build_patterns-loop-expr
invariant-build_patterns-loop-expr l =
    let rest = map expr_tree (drop l.expr-index l.exprs) in
    record {
      built : l.patterns ++ map (pattern_of l.sig) rest ≡ map (pattern_of l.sig) (map expr_tree l.exprs);
      faults : all_pattern_faults l.sig (map wildcard_view l.before.items) (trees rest)
          ≡ all_pattern_faults l.sig (map wildcard_view l.fn.before.items) (trees (map expr_tree l.exprs));
      seen : map wildcard_view l.before.items ++ all_pattern_wildcards l.sig (trees rest)
          ≡ map wildcard_view l.fn.before.items ++ all_pattern_wildcards l.sig (trees (map expr_tree l.exprs));
    }

-- each function of the cycle is nearer to the expressions than the one before it
abbrev pub decreases-build_pattern : goal.decreases-build_pattern
decreases-build_pattern l = 3 * nodes (expr_tree l.expr.now)

abbrev pub decreases-infix_pattern : goal.decreases-infix_pattern
decreases-infix_pattern l = 3 * all_nodes (trees (map expr_tree l.operands.now)) + 2

abbrev pub decreases-build_patterns : goal.decreases-build_patterns
decreases-build_patterns l = 3 * all_nodes (trees (map expr_tree l.exprs.now)) + 1
