use Rattle.std.proofs.Common.{◌≡◌, ◌+◌, ◌++◌, map, None, arith, ◌∙◌, sym, ap, subst, refl}
use Rattle.std.proofs.lemmas.Result.{err_from_is_err_and}
use Rattle.mp_parser.specs.Syntax.{Tree, trees}
use Rattle.mp_pattern.specs.View.{pattern_tree}
use Rattle.mp_parser.specs.View.{spot_of_sign, expr_tree}
use Rattle.mp_build.specs.WildcardView.{wildcard_view}
use Rattle.mp_build.specs.Wildcards.{pattern_wildcards}
use Rattle.mp_parser.proofs.Trees.{expr_tree-Infix}
use Rattle.mp_build.specs.Answers.{Gives}
use Rattle.mp_build.specs.Checks.{nodes, all_nodes, op_signed, sign_faults, pattern_faults, pattern_operand_faults}
use Rattle.mp_build.specs.Checks.{all_pattern_faults}
use Rattle.mp_build.specs.Build.{head_number, sign_number, pattern_of}
use Rattle.mp_pattern.specs.PatternTree as pattern
use Rattle.mp_build.proofs.Applied.{nodes-Apply, nodes-Infix, nodes-item, pattern_wildcards-Apply}
use Rattle.mp_build.proofs.Fails.{fails-front, fails-behind, fails-along, none-append}
use Rattle.mp_build.proofs.Built.{none-unknown, pattern_of-Apply, pattern_faults-Apply, pattern_of-operands}
use Rattle.mp_build.proofs.Built.{pattern_faults-operands, pattern_faults-unknown, pattern_operand_faults-known}
use Rattle.mp_build.proofs.Built.{fails-first_operand}
use Rattle.mp_build.proofs.build.+build_pattern.Goals as goal

pub build_pattern-returns-in_err-op-in-Apply : goal.build_pattern-returns-in_err-op-in-Apply
build_pattern-returns-in_err-op-in-Apply t c =
    let p = err_from_is_err_and c.from_residual-in_err-op-in-Apply.result
    c.from_residual-in_err-op-in-Apply.ensures.1 in
    rw (
      p.1,
      p.2,
      c.in-Apply.is,
      pattern_faults-Apply c.args.sig.now
          (map wildcard_view c.args.before.now.items) c.in-Apply.name c.in-Apply.args,
    )
    (fails-front c.in_err-op-in-Apply.field-0.0 _ _ c.in_err-op-in-Apply.ensures)

pub build_pattern-returns-in_err-patterns-in-Apply : goal.build_pattern-returns-in_err-patterns-in-Apply
build_pattern-returns-in_err-patterns-in-Apply t c =
    let p = err_from_is_err_and c.from_residual-in_err-patterns-in-Apply.result
    c.from_residual-in_err-patterns-in-Apply.ensures.1 in
    rw (
      p.1,
      p.2,
      c.in-Apply.is,
      pattern_faults-Apply c.args.sig.now
          (map wildcard_view c.args.before.now.items) c.in-Apply.name c.in-Apply.args,
    )
    (fails-behind c.in_err-patterns-in-Apply.field-0.0 _ _ c.in_ok-op-in-Apply.ensures.0
    c.in_err-patterns-in-Apply.ensures)

pub build_pattern-returns-in_ok-patterns-in-Apply : goal.build_pattern-returns-in_ok-patterns-in-Apply
build_pattern-returns-in_ok-patterns-in-Apply t c = (
  rw (
    c.in-Apply.is,
    pattern_faults-Apply c.args.sig.now
        (map wildcard_view c.args.before.now.items) c.in-Apply.name c.in-Apply.args,
  )
      (none-append _ _ c.in_ok-op-in-Apply.ensures.0 ∙ c.in_ok-patterns-in-Apply.ensures.0),
  (
    rw (
      c.in-Apply.is,
      pattern_of-Apply c.args.sig.now c.in-Apply.name
          c.in-Apply.args,
      c.in_ok-op-in-Apply.ensures.1,
      c.in_ok-patterns-in-Apply.ensures.1.0,
    ) refl,
    rw (c.in-Apply.is, pattern_wildcards-Apply c.args.sig.now c.in-Apply.name c.in-Apply.args)
        c.in_ok-patterns-in-Apply.ensures.1.1,
  ),
)

pub build_pattern-build_patterns-requires : goal.build_pattern-build_patterns-requires
build_pattern-build_patterns-requires t c =
    let args : nodes (expr_tree c.args.expr.now) ≡ 1 + all_nodes (trees (map expr_tree c.in-Apply.args.now)) =
    rw c.in-Apply.is (nodes-Apply c.in-Apply.name c.in-Apply.args) in
    omega (arith, args, c.decreases)

pub build_patterns-build_pattern-requires : goal.build_patterns-build_pattern-requires
build_patterns-build_pattern-requires t c =
    omega (
      arith,
      nodes-item c.args.exprs.now c.loop-expr.expr-index c.expr-item.result
          (omega arith) c.expr-item.is,
      c.decreases,
    )

pub build_pattern-infix_pattern-requires : goal.build_pattern-infix_pattern-requires
build_pattern-infix_pattern-requires t c =
    let args : nodes (expr_tree c.args.expr.now) ≡ 1 + all_nodes (trees (map expr_tree c.in-Infix.operands.now)) =
    rw c.in-Infix.is (nodes-Infix c.in-Infix.place c.in-Infix.sign c.in-Infix.operands) in
    omega (arith, args, c.decreases)

pub build_pattern-returns-in-Infix : goal.build_pattern-returns-in-Infix
build_pattern-returns-in-Infix t c =
    let Q : Tree → Type 0 = λ e. Gives c.infix_pattern.result
    (pattern_faults c.args.sig.now (map wildcard_view c.args.before.now.items) e)
    (λ v. (pattern_tree v ≡ pattern_of c.args.sig.now e)
    × (map wildcard_view c.infix_pattern.new.before.items
    ≡ map wildcard_view c.args.before.now.items ++ pattern_wildcards c.args.sig.now e)) in
    let same = ap expr_tree c.in-Infix.is ∙ expr_tree-Infix c.in-Infix.place c.in-Infix.sign c.in-Infix.operands in
    subst Q (sym same) c.infix_pattern.ensures

pub infix_pattern-returns-in_err-sign_op : goal.infix_pattern-returns-in_err-sign_op
infix_pattern-returns-in_err-sign_op t c =
    let p = err_from_is_err_and c.from_residual.result c.from_residual.ensures.1 in
    let e = c.in_err-sign_op.field-0.0 in
    rw (p.1, p.2)
    (fails-along e _ _
    (sym (pattern_faults-operands c.args.sig.now (map wildcard_view c.args.before.now.items) c.args.place
    (spot_of_sign c.args.sign) c.args.operands.now)) (fails-front e _ _ c.in_err-sign_op.ensures))

pub infix_pattern-returns-in_err-build_pattern-in-None : goal.infix_pattern-returns-in_err-build_pattern-in-None
infix_pattern-returns-in_err-build_pattern-in-None t c =
    let p = err_from_is_err_and c.from_residual-in_err-build_pattern-in-None.result
    c.from_residual-in_err-build_pattern-in-None.ensures.1 in
    let e = c.in_err-build_pattern-in-None.field-0.0 in
    let sig = c.args.sig.now in
    let before = map wildcard_view c.args.before.now.items in
    let sign = spot_of_sign c.args.sign in
    let operands = trees (map expr_tree c.args.operands.now) in
    let none = none-unknown (op_signed sig sign.text) (rw c.in-None.is at c.in_ok-sign_op.ensures.1.1) in
    rw (p.1, p.2)
    (fails-along e _ _ (sym (pattern_faults-unknown sig before c.args.place sign operands none))
    (fails-first_operand (pattern_faults sig before)
    (λ t ts. sign_faults sign None ++ all_pattern_faults sig (before ++ pattern_wildcards sig t) ts)
    (pattern_operand_faults sig before (sign_faults sign None)) (λ _ _. refl) c.args.operands.now c.first-item.result e
    (omega arith) c.first-item.is c.in_err-build_pattern-in-None.ensures))

pub infix_pattern-returns-in_err-patterns-in-Some : goal.infix_pattern-returns-in_err-patterns-in-Some
infix_pattern-returns-in_err-patterns-in-Some t c =
    let p = err_from_is_err_and c.from_residual-in_err-patterns-in-Some.result
    c.from_residual-in_err-patterns-in-Some.ensures.1 in
    let e = c.in_err-patterns-in-Some.field-0.0 in
    let sig = c.args.sig.now in
    let sign = spot_of_sign c.args.sign in
    rw (p.1, p.2)
    (fails-along e _ _
    (sym (pattern_faults-operands sig (map wildcard_view c.args.before.now.items) c.args.place sign
    c.args.operands.now))
    (fails-behind e _ _ c.in_ok-sign_op.ensures.0
    (fails-along e _ _
    (sym (pattern_operand_faults-known sig (map wildcard_view c.args.before.now.items) sign
    (op_signed sig sign.text) (trees (map expr_tree c.args.operands.now))
    (rw c.in-Some.is at c.in_ok-sign_op.ensures.1.1))) c.in_err-patterns-in-Some.ensures)))

pub infix_pattern-returns-in_ok-patterns-in-Some : goal.infix_pattern-returns-in_ok-patterns-in-Some
infix_pattern-returns-in_ok-patterns-in-Some t c =
    let sig = c.args.sig.now in
    let sign = spot_of_sign c.args.sign in
    let ts = trees (map expr_tree c.args.operands.now) in (
      pattern_faults-operands sig (map wildcard_view c.args.before.now.items) c.args.place sign c.args.operands.now
          ∙ none-append _ _ c.in_ok-sign_op.ensures.0
          ∙ pattern_operand_faults-known sig (map wildcard_view c.args.before.now.items) sign
          (op_signed sig sign.text) ts (rw c.in-Some.is at c.in_ok-sign_op.ensures.1.1)
          ∙ c.in_ok-patterns-in-Some.ensures.0,
      (
        ap (λ n. pattern.app_pattern (head_number n) (pattern.patterns c.in_ok-patterns-in-Some.patterns))
            (rw c.in-Some.is at c.in_ok-sign_op.ensures.1.0)
            ∙ ap (λ l. pattern.app_pattern (head_number (sign_number sig sign.text)) (pattern.patterns l))
            c.in_ok-patterns-in-Some.ensures.1.0
            ∙ sym (pattern_of-operands sig c.args.place sign c.args.operands.now),
        c.in_ok-patterns-in-Some.ensures.1.1,
      ),
    )
