use Rattle.std.proofs.Common.{drop, map}
use Rattle.mp_term.specs.Normal.{normal}
use Rattle.mp_parser.specs.View.{expr_tree}
use Rattle.mp_build.specs.Build.{term_of}
use Rattle.mp_build.specs.Checks.{term_faults}
use Rattle.mp_build.proofs.BuiltLists.{IsBuilt}
use Rattle.mp_build.proofs.edit.normal_terms.Given as goal

-- the terms so far are built of the expressions before those that are left
abbrev pub invariant-loop-expr : goal.invariant-loop-expr
invariant-loop-expr l = IsBuilt (term_faults l.sig) (λ t. normal l.sig (term_of l.sig t)) l.terms
    (map expr_tree (drop l.expr-index l.exprs)) (map expr_tree l.exprs)
