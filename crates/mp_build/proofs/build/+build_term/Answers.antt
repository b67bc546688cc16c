use Rattle.std.proofs.Common.{◌≡◌, ◌+◌, ◌++◌, map, None, arith, ◌∙◌, sym, ap, subst, refl}
use Rattle.std.proofs.lemmas.Result.{err_from_is_err_and}
use Rattle.mp_parser.specs.Syntax.{Tree, trees}
use Rattle.mp_term.specs.View.{tree}
use Rattle.mp_parser.specs.View.{spot_of_sign, expr_tree}
use Rattle.mp_parser.proofs.Trees.{expr_tree-Infix}
use Rattle.mp_build.specs.Answers.{Gives}
use Rattle.mp_build.specs.Checks.{nodes, all_nodes, op_signed, sign_faults, term_faults, term_operand_faults}
use Rattle.mp_build.specs.Checks.{all_term_faults}
use Rattle.mp_build.specs.Build.{head_number, sign_number, term_of}
use Rattle.mp_term.specs.Tree as term
use Rattle.mp_build.proofs.Applied.{nodes-Apply, nodes-Infix, nodes-item}
use Rattle.mp_build.proofs.Fails.{fails-front, fails-behind, fails-along, none-append}
use Rattle.mp_build.proofs.Built.{none-unknown, term_of-Apply, term_faults-Apply, term_of-operands}
use Rattle.mp_build.proofs.Built.{term_faults-operands, term_faults-unknown, term_operand_faults-known}
use Rattle.mp_build.proofs.Built.{fails-first_operand}
use Rattle.mp_build.proofs.build.+build_term.Goals as goal

pub build_term-returns-in_err-op-in-Apply : goal.build_term-returns-in_err-op-in-Apply
build_term-returns-in_err-op-in-Apply t c =
    let p = err_from_is_err_and c.from_residual-in_err-op-in-Apply.result
    c.from_residual-in_err-op-in-Apply.ensures.1 in
    rw (p.1, p.2, c.in-Apply.is, term_faults-Apply c.args.sig.now c.in-Apply.name c.in-Apply.args)
    (fails-front c.in_err-op-in-Apply.field-0.0 _ _ c.in_err-op-in-Apply.ensures)

pub build_term-returns-in_err-terms-in-Apply : goal.build_term-returns-in_err-terms-in-Apply
build_term-returns-in_err-terms-in-Apply t c =
    let p = err_from_is_err_and c.from_residual-in_err-terms-in-Apply.result
    c.from_residual-in_err-terms-in-Apply.ensures.1 in
    rw (p.1, p.2, c.in-Apply.is, term_faults-Apply c.args.sig.now c.in-Apply.name c.in-Apply.args)
    (fails-behind c.in_err-terms-in-Apply.field-0.0 _ _ c.in_ok-op-in-Apply.ensures.0
    c.in_err-terms-in-Apply.ensures)

pub build_term-returns-in_ok-terms-in-Apply : goal.build_term-returns-in_ok-terms-in-Apply
build_term-returns-in_ok-terms-in-Apply t c = (
  rw (c.in-Apply.is, term_faults-Apply c.args.sig.now c.in-Apply.name c.in-Apply.args)
      (none-append _ _ c.in_ok-op-in-Apply.ensures.0 ∙ c.in_ok-terms-in-Apply.ensures.0),
  rw (
    c.in-Apply.is,
    term_of-Apply c.args.sig.now c.in-Apply.name
        c.in-Apply.args,
    c.in_ok-op-in-Apply.ensures.1,
    c.in_ok-terms-in-Apply.ensures.1,
  )
      refl,
)

pub build_term-build_terms-requires : goal.build_term-build_terms-requires
build_term-build_terms-requires t c =
    let args : nodes (expr_tree c.args.expr.now) ≡ 1 + all_nodes (trees (map expr_tree c.in-Apply.args.now)) =
    rw c.in-Apply.is (nodes-Apply c.in-Apply.name c.in-Apply.args) in
    omega (arith, args, c.decreases)

pub build_terms-build_term-requires : goal.build_terms-build_term-requires
build_terms-build_term-requires t c =
    omega (
      arith,
      nodes-item c.args.exprs.now c.loop-expr.expr-index c.expr-item.result
          (omega arith) c.expr-item.is,
      c.decreases,
    )

pub build_term-infix_term-requires : goal.build_term-infix_term-requires
build_term-infix_term-requires t c =
    let args : nodes (expr_tree c.args.expr.now) ≡ 1 + all_nodes (trees (map expr_tree c.in-Infix.operands.now)) =
    rw c.in-Infix.is (nodes-Infix c.in-Infix.place c.in-Infix.sign c.in-Infix.operands) in
    omega (arith, args, c.decreases)

pub build_term-returns-in-Infix : goal.build_term-returns-in-Infix
build_term-returns-in-Infix t c =
    let Q : Tree → Type 0 = λ e. Gives c.infix_term.result (term_faults c.args.sig.now e)
    (λ v. tree v ≡ term_of c.args.sig.now e) in
    let same = ap expr_tree c.in-Infix.is ∙ expr_tree-Infix c.in-Infix.place c.in-Infix.sign c.in-Infix.operands in
    subst Q (sym same) c.infix_term.ensures

pub infix_term-returns-in_err-sign_op : goal.infix_term-returns-in_err-sign_op
infix_term-returns-in_err-sign_op t c =
    let p = err_from_is_err_and c.from_residual.result c.from_residual.ensures.1 in
    let e = c.in_err-sign_op.field-0.0 in
    rw (p.1, p.2)
    (fails-along e _ _
    (sym (term_faults-operands c.args.sig.now c.args.place (spot_of_sign c.args.sign) c.args.operands.now))
    (fails-front e _ _ c.in_err-sign_op.ensures))

pub infix_term-returns-in_err-build_term-in-None : goal.infix_term-returns-in_err-build_term-in-None
infix_term-returns-in_err-build_term-in-None t c =
    let p = err_from_is_err_and c.from_residual-in_err-build_term-in-None.result
    c.from_residual-in_err-build_term-in-None.ensures.1 in
    let e = c.in_err-build_term-in-None.field-0.0 in
    let sig = c.args.sig.now in
    let sign = spot_of_sign c.args.sign in
    let operands = trees (map expr_tree c.args.operands.now) in
    let none = none-unknown (op_signed sig sign.text) (rw c.in-None.is at c.in_ok-sign_op.ensures.1.1) in
    rw (p.1, p.2)
    (fails-along e _ _ (sym (term_faults-unknown sig c.args.place sign operands none))
    (fails-first_operand (term_faults sig) (λ _ ts. sign_faults sign None ++ all_term_faults sig ts)
    (term_operand_faults sig (sign_faults sign None)) (λ _ _. refl) c.args.operands.now c.first-item.result e
    (omega arith) c.first-item.is c.in_err-build_term-in-None.ensures))

pub infix_term-returns-in_err-terms-in-Some : goal.infix_term-returns-in_err-terms-in-Some
infix_term-returns-in_err-terms-in-Some t c =
    let p = err_from_is_err_and c.from_residual-in_err-terms-in-Some.result
    c.from_residual-in_err-terms-in-Some.ensures.1 in
    let e = c.in_err-terms-in-Some.field-0.0 in
    let sig = c.args.sig.now in
    let sign = spot_of_sign c.args.sign in
    rw (p.1, p.2)
    (fails-along e _ _ (sym (term_faults-operands sig c.args.place sign c.args.operands.now))
    (fails-behind e _ _ c.in_ok-sign_op.ensures.0
    (fails-along e _ _
    (sym (term_operand_faults-known sig sign (op_signed sig sign.text) (trees (map expr_tree c.args.operands.now))
    (rw c.in-Some.is at c.in_ok-sign_op.ensures.1.1))) c.in_err-terms-in-Some.ensures)))

pub infix_term-returns-in_ok-terms-in-Some : goal.infix_term-returns-in_ok-terms-in-Some
infix_term-returns-in_ok-terms-in-Some t c =
    let sig = c.args.sig.now in
    let sign = spot_of_sign c.args.sign in
    let ts = trees (map expr_tree c.args.operands.now) in (
      term_faults-operands sig c.args.place sign c.args.operands.now ∙ none-append _ _ c.in_ok-sign_op.ensures.0
          ∙ term_operand_faults-known sig sign (op_signed sig sign.text) ts
          (rw c.in-Some.is at c.in_ok-sign_op.ensures.1.1) ∙ c.in_ok-terms-in-Some.ensures.0,
      ap (λ n. term.app (head_number n) (term.trees c.in_ok-terms-in-Some.terms))
          (rw c.in-Some.is at c.in_ok-sign_op.ensures.1.0)
          ∙ ap (λ l. term.app (head_number (sign_number sig sign.text)) (term.trees l)) c.in_ok-terms-in-Some.ensures.1
          ∙ sym (term_of-operands sig c.args.place sign c.args.operands.now),
    )
