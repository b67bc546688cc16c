use Rattle.std.proofs.Common.{◌≡◌, ◌+◌, ◌++◌, map, None, arith, ◌∙◌, sym, ap, subst, refl}
use Rattle.std.proofs.lemmas.Result.{err_from_is_err_and}
use Rattle.mp_pattern.specs.TemplateTree as template
use Rattle.mp_pattern.specs.TemplateView.{template_tree}
use Rattle.mp_parser.specs.Syntax.{Tree, trees}
use Rattle.mp_parser.specs.View.{spot_of_sign, expr_tree}
use Rattle.mp_parser.proofs.Trees.{expr_tree-Infix}
use Rattle.mp_build.specs.Answers.{Gives}
use Rattle.mp_build.specs.Checks.{nodes, all_nodes, op_signed, sign_faults}
use Rattle.mp_build.specs.Build.{head_number, sign_number, template_of}
use Rattle.mp_build.specs.ScopeView.{variable_of}
use Rattle.mp_build.specs.TemplateChecks.{template_faults, template_operand_faults, all_template_faults}
use Rattle.mp_build.proofs.Applied.{nodes-Apply, nodes-Infix, nodes-item}
use Rattle.mp_build.proofs.Fails.{fails-front, fails-behind, fails-along, none-append}
use Rattle.mp_build.proofs.Built.{none-unknown, template_of-Apply, template_faults-Apply, template_of-operands}
use Rattle.mp_build.proofs.Built.{template_faults-unknown, template_operand_faults-known, fails-first_operand}
use Rattle.mp_text.proofs.template.+build_template.Goals as goal

pub build_template-returns-in_err-op-in-Apply : goal.build_template-returns-in_err-op-in-Apply
build_template-returns-in_err-op-in-Apply t c =
    let p = err_from_is_err_and c.from_residual-in_err-op-in-Apply.result
    c.from_residual-in_err-op-in-Apply.ensures.1 in
    rw (
      p.1,
      p.2,
      c.in-Apply.is,
      template_faults-Apply c.args.sig.now (map variable_of c.args.variables.now) c.in-Apply.name
          c.in-Apply.args,
    )
    (fails-front c.in_err-op-in-Apply.field-0.0 _ _ c.in_err-op-in-Apply.ensures)

pub build_template-returns-in_err-templates-in-Apply : goal.build_template-returns-in_err-templates-in-Apply
build_template-returns-in_err-templates-in-Apply t c =
    let p = err_from_is_err_and c.from_residual-in_err-templates-in-Apply.result
    c.from_residual-in_err-templates-in-Apply.ensures.1 in
    rw (
      p.1,
      p.2,
      c.in-Apply.is,
      template_faults-Apply c.args.sig.now (map variable_of c.args.variables.now) c.in-Apply.name
          c.in-Apply.args,
    )
    (fails-behind c.in_err-templates-in-Apply.field-0.0 _ _ c.in_ok-op-in-Apply.ensures.0
    c.in_err-templates-in-Apply.ensures)

pub build_template-returns-in_ok-templates-in-Apply : goal.build_template-returns-in_ok-templates-in-Apply
build_template-returns-in_ok-templates-in-Apply t c = (
  rw (
    c.in-Apply.is,
    template_faults-Apply c.args.sig.now (map variable_of c.args.variables.now) c.in-Apply.name
        c.in-Apply.args,
  )
      (none-append _ _ c.in_ok-op-in-Apply.ensures.0 ∙ c.in_ok-templates-in-Apply.ensures.0),
  rw (
    c.in-Apply.is,
    template_of-Apply c.args.sig.now c.in-Apply.name
        c.in-Apply.args,
    c.in_ok-op-in-Apply.ensures.1,
    c.in_ok-templates-in-Apply.ensures.1,
  )
      refl,
)

pub build_template-build_templates-requires : goal.build_template-build_templates-requires
build_template-build_templates-requires t c =
    let args : nodes (expr_tree c.args.expr.now) ≡ 1 + all_nodes (trees (map expr_tree c.in-Apply.args.now)) =
    rw c.in-Apply.is (nodes-Apply c.in-Apply.name c.in-Apply.args) in
    omega (arith, args, c.decreases)

pub build_templates-build_template-requires : goal.build_templates-build_template-requires
build_templates-build_template-requires t c =
    omega (
      arith,
      nodes-item c.args.exprs.now c.loop-expr.expr-index c.expr-item.result
          (omega arith) c.expr-item.is,
      c.decreases,
    )

pub build_template-infix_template-requires : goal.build_template-infix_template-requires
build_template-infix_template-requires t c =
    let args : nodes (expr_tree c.args.expr.now) ≡ 1 + all_nodes (trees (map expr_tree c.in-Infix.operands.now)) =
    rw c.in-Infix.is (nodes-Infix c.in-Infix.place c.in-Infix.sign c.in-Infix.operands) in
    omega (arith, args, c.decreases)

pub build_template-returns-in-Infix : goal.build_template-returns-in-Infix
build_template-returns-in-Infix t c =
    let Q : Tree → Type 0 = λ e. Gives c.infix_template.result
    (template_faults (map variable_of c.args.variables.now) c.args.sig.now e)
    (λ v. template_tree v ≡ template_of c.args.sig.now e) in
    let same = ap expr_tree c.in-Infix.is ∙ expr_tree-Infix c.in-Infix.place c.in-Infix.sign c.in-Infix.operands in
    subst Q (sym same) c.infix_template.ensures

pub infix_template-returns-in_err-sign_op : goal.infix_template-returns-in_err-sign_op
infix_template-returns-in_err-sign_op t c =
    let p = err_from_is_err_and c.from_residual.result c.from_residual.ensures.1 in
    rw (p.1, p.2) (fails-front c.in_err-sign_op.field-0.0 _ _ c.in_err-sign_op.ensures)

pub infix_template-returns-in_err-build_template-in-None : goal.infix_template-returns-in_err-build_template-in-None
infix_template-returns-in_err-build_template-in-None t c =
    let p = err_from_is_err_and c.from_residual-in_err-build_template-in-None.result
    c.from_residual-in_err-build_template-in-None.ensures.1 in
    let e = c.in_err-build_template-in-None.field-0.0 in
    let sig = c.args.sig.now in
    let vs = map variable_of c.args.variables.now in
    let sign = spot_of_sign c.args.sign in
    let operands = trees (map expr_tree c.args.operands.now) in
    let none = none-unknown (op_signed sig sign.text) (rw c.in-None.is at c.in_ok-sign_op.ensures.1.1) in
    rw (p.1, p.2)
    (fails-along e _ _ (sym (template_faults-unknown sig vs c.args.place sign operands none))
    (fails-first_operand (template_faults vs sig) (λ _ ts. sign_faults sign None ++ all_template_faults vs sig ts)
    (template_operand_faults vs sig (sign_faults sign None)) (λ _ _. refl) c.args.operands.now c.first-item.result e
    (omega arith) c.first-item.is c.in_err-build_template-in-None.ensures))

pub infix_template-returns-in_err-templates-in-Some : goal.infix_template-returns-in_err-templates-in-Some
infix_template-returns-in_err-templates-in-Some t c =
    let p = err_from_is_err_and c.from_residual-in_err-templates-in-Some.result
    c.from_residual-in_err-templates-in-Some.ensures.1 in
    let e = c.in_err-templates-in-Some.field-0.0 in
    let sig = c.args.sig.now in
    let sign = spot_of_sign c.args.sign in
    rw (p.1, p.2)
    (fails-behind e _ _ c.in_ok-sign_op.ensures.0
    (fails-along e _ _
    (sym (template_operand_faults-known sig (map variable_of c.args.variables.now) sign (op_signed sig sign.text)
    (trees (map expr_tree c.args.operands.now)) (rw c.in-Some.is at c.in_ok-sign_op.ensures.1.1)))
    c.in_err-templates-in-Some.ensures))

pub infix_template-returns-in_ok-templates-in-Some : goal.infix_template-returns-in_ok-templates-in-Some
infix_template-returns-in_ok-templates-in-Some t c =
    let sig = c.args.sig.now in
    let sign = spot_of_sign c.args.sign in
    let ts = trees (map expr_tree c.args.operands.now) in (
      none-append _ _ c.in_ok-sign_op.ensures.0
          ∙ template_operand_faults-known sig (map variable_of c.args.variables.now) sign (op_signed sig sign.text) ts
          (rw c.in-Some.is at c.in_ok-sign_op.ensures.1.1) ∙ c.in_ok-templates-in-Some.ensures.0,
      ap (λ n. template.app_template (head_number n) (template.templates c.in_ok-templates-in-Some.templates))
          (rw c.in-Some.is at c.in_ok-sign_op.ensures.1.0)
          ∙ ap (λ l. template.app_template (head_number (sign_number sig sign.text)) (template.templates l))
          c.in_ok-templates-in-Some.ensures.1
          ∙ sym (template_of-operands sig c.args.place sign c.args.operands.now),
    )
