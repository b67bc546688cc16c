use Rattle.std.proofs.Common.{◌≡◌, ◌+◌, map, arith, append_assoc}
use Rattle.mp_parser.specs.Syntax.{trees}
use Rattle.mp_parser.specs.View.{expr_tree}
use Rattle.mp_build.specs.Checks.{nodes, all_nodes}
use Rattle.mp_build.proofs.Applied.{nodes-Apply, nodes-Infix, nodes-item, pattern_variables-Apply}
use Rattle.mp_build.proofs.Applied.{pattern_variables-Infix}
use Rattle.mp_term.proofs.ListLaws.{drop-item}
use Rattle.mp_build.proofs.scope.+add_variables.Goals as goal

pub add_all_variables-add_variables-requires : goal.add_all_variables-add_variables-requires
add_all_variables-add_variables-requires t c =
    omega (
      arith,
      nodes-item c.args.exprs.now c.loop-expr.expr-index c.expr-item.result
          (omega arith) c.expr-item.is,
      c.decreases,
    )

pub add_all_variables-loop-expr-preserved : goal.add_all_variables-loop-expr-preserved
add_all_variables-loop-expr-preserved t c =
    let here = drop-item _ c.loop-expr.expr-index c.expr-item.result (omega arith) c.expr-item.is in
    rw (c.in_ok-add_variables.ensures, append_assoc) (rw here at c.loop-expr.invariant)

pub add_variables-add_all_variables-requires : goal.add_variables-add_all_variables-requires
add_variables-add_all_variables-requires t c =
    let args : nodes (expr_tree c.args.expr.now) ≡ 1 + all_nodes (trees (map expr_tree c.in-Apply.args.now)) =
    rw c.in-Apply.is (nodes-Apply c.in-Apply.field-0 c.in-Apply.args) in
    omega (arith, args, c.decreases)

pub add_variables-add_all_variables-requires-in-Infix : goal.add_variables-add_all_variables-requires-in-Infix
add_variables-add_all_variables-requires-in-Infix t c =
    let args : nodes (expr_tree c.args.expr.now) ≡ 1 + all_nodes (trees (map expr_tree c.in-Infix.operands.now)) =
    rw c.in-Infix.is (nodes-Infix c.in-Infix.«open» c.in-Infix.sign c.in-Infix.operands) in
    omega (arith, args, c.decreases)

pub add_variables-returns-in-Apply : goal.add_variables-returns-in-Apply
add_variables-returns-in-Apply t c = rw (c.in-Apply.is, pattern_variables-Apply c.in-Apply.field-0 c.in-Apply.args)
    c.add_all_variables.ensures

pub add_variables-returns-in-Infix : goal.add_variables-returns-in-Infix
add_variables-returns-in-Infix t c =
    rw (c.in-Infix.is, pattern_variables-Infix c.in-Infix.«open» c.in-Infix.sign c.in-Infix.operands)
    c.add_all_variables-in-Infix.ensures
