use Rattle.std.proofs.Common.{◌≡◌, ◌++◌, ◌+◌, ◌*◌, drop, map}
use Rattle.mp_parser.specs.Syntax.{trees}
use Rattle.mp_parser.specs.View.{expr_tree}
use Rattle.mp_build.specs.Build.{template_of}
use Rattle.mp_build.specs.Checks.{nodes, all_nodes}
use Rattle.mp_build.specs.ScopeView.{variable_of}
use Rattle.mp_build.specs.TemplateChecks.{all_template_faults}
use Rattle.mp_text.proofs.template.+build_template.Given as goal

-- what is built stands before what is to be built, and the faults are those of the rest
abbrev pub invariant-build_templates-loop-expr : goal.invariant-build_templates-loop-expr
invariant-build_templates-loop-expr l =
    let rest = map expr_tree (drop l.expr-index l.exprs) in
    let vs = map variable_of l.variables in
    record {
      built : l.templates ++ map (template_of l.sig) rest ≡ map (template_of l.sig) (map expr_tree l.exprs);
      faults : all_template_faults vs l.sig (trees rest)
          ≡ all_template_faults vs l.sig (trees (map expr_tree l.exprs));
    }

-- each function of the cycle is nearer to the expressions than the one before it
abbrev pub decreases-build_template : goal.decreases-build_template
decreases-build_template l = 3 * nodes (expr_tree l.expr.now)

abbrev pub decreases-infix_template : goal.decreases-infix_template
decreases-infix_template l = 3 * all_nodes (trees (map expr_tree l.operands.now)) + 2

abbrev pub decreases-build_templates : goal.decreases-build_templates
decreases-build_templates l = 3 * all_nodes (trees (map expr_tree l.exprs.now)) + 1
