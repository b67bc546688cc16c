use Rattle.std.proofs.Common.{◌≡◌, ◌+◌, [], Option, Some, None, map, arith, ◌∙◌, sym, ap, subst}
use Rattle.std.specs.Prelude.{◌&&◌, is_some, option_map, if◌then◌else◌}
use Rattle.mp_term.specs.Tree as term
use Rattle.mp_term.specs.View.{tree}
use Rattle.mp_parser.specs.Syntax.{trees}
use Rattle.mp_parser.specs.View.{spot_of_sign, expr_tree}
use Rattle.mp_parser.proofs.Trees.{expr_tree-Infix}
use Rattle.mp_build.specs.Answers.{Gives}
use Rattle.mp_build.specs.Build.{op_number, sign_number, head_number, has_term, all_have_terms, term_of}
use Rattle.mp_build.specs.Checks.{nodes, all_nodes}
use Rattle.mp_build.proofs.Applied.{nodes-Apply, nodes-Infix, nodes-item, has_term-Apply, has_term-Infix}
use Rattle.mp_build.proofs.Built.{term_of-Apply, term_of-operands}
use Rattle.mp_build.proofs.written.+written_term.Goals as goal

pub written_term-written_application-requires : goal.written_term-written_application-requires
written_term-written_application-requires t c =
    let args : nodes (expr_tree c.args.expr.now) ≡ 1 + all_nodes (trees (map expr_tree c.in-Apply.args.now)) =
    rw c.in-Apply.is (nodes-Apply c.in-Apply.name c.in-Apply.args) in
    omega (arith, args, c.decreases)

pub written_term-written_application-requires-in-Some-find_sign :
    goal.written_term-written_application-requires-in-Some-find_sign
written_term-written_application-requires-in-Some-find_sign t c =
    let args : nodes (expr_tree c.args.expr.now)
    ≡ 1 + all_nodes (trees (map expr_tree c.in-Infix.operands.now)) =
    rw c.in-Infix.is (nodes-Infix c.in-Infix.«open» c.in-Infix.sign c.in-Infix.operands) in
    omega (arith, args, c.decreases)

pub written_term-returns-in-Some : goal.written_term-returns-in-Some
written_term-returns-in-Some t c =
    let sig = c.args.sig.now in
    let found : Some c.in-Some.op.0 ≡ op_number sig c.in-Apply.name.text.now = c.in-Some.ensures in
    let has : has_term sig (expr_tree c.args.expr.now)
    ≡ all_have_terms sig (trees (map expr_tree c.in-Apply.args.now)) =
    ap (λ e. has_term sig (expr_tree e)) c.in-Apply.is ∙ has_term-Apply sig c.in-Apply.name c.in-Apply.args
    ∙ ap (λ n. is_some n && all_have_terms sig (trees (map expr_tree c.in-Apply.args.now))) (sym found) in
    let made : term_of sig (expr_tree c.args.expr.now)
    ≡ term.app c.in-Some.op.0 (term.trees (map (term_of sig) (map expr_tree c.in-Apply.args.now))) =
    ap (λ e. term_of sig (expr_tree e)) c.in-Apply.is ∙ term_of-Apply sig c.in-Apply.name c.in-Apply.args
    ∙ ap (λ n. term.app (head_number n) (term.trees (map (term_of sig) (map expr_tree c.in-Apply.args.now))))
    (sym found) in
    let Q : Option term.Tree → Type 0 = λ o. Gives c.written_application.result [] (λ r. option_map tree r ≡ o) in
    subst Q (sym (λ i. if has i then Some (made i) else None)) c.written_application.ensures

pub written_term-returns-in-Some-find_sign : goal.written_term-returns-in-Some-find_sign
written_term-returns-in-Some-find_sign t c =
    let sig = c.args.sig.now in
    let sign = c.in-Infix.sign in
    let found : Some c.in-Some-find_sign.op.0 ≡ sign_number sig sign.text.now = c.in-Some-find_sign.ensures in
    let has : has_term sig (expr_tree c.args.expr.now)
    ≡ all_have_terms sig (trees (map expr_tree c.in-Infix.operands.now)) =
    ap (λ e. has_term sig (expr_tree e)) c.in-Infix.is ∙ has_term-Infix sig c.in-Infix.«open» sign c.in-Infix.operands
    ∙ ap (λ n. is_some n && all_have_terms sig (trees (map expr_tree c.in-Infix.operands.now))) (sym found) in
    let made : term_of sig (expr_tree c.args.expr.now)
    ≡ term.app c.in-Some-find_sign.op.0
    (term.trees (map (term_of sig) (map expr_tree c.in-Infix.operands.now))) =
    ap (λ e. term_of sig (expr_tree e)) c.in-Infix.is
    ∙ ap (term_of sig) (expr_tree-Infix c.in-Infix.«open» sign c.in-Infix.operands)
    ∙ term_of-operands sig c.in-Infix.«open» (spot_of_sign sign) c.in-Infix.operands.now
    ∙ ap (λ n. term.app (head_number n) (term.trees (map (term_of sig) (map expr_tree c.in-Infix.operands.now))))
    (sym found) in
    let Q : Option term.Tree → Type 0 = λ o.
    Gives c.written_application-in-Some-find_sign.result [] (λ r. option_map tree r ≡ o) in
    subst Q (sym (λ i. if has i then Some (made i) else None)) c.written_application-in-Some-find_sign.ensures

pub written_terms-written_term-requires : goal.written_terms-written_term-requires
written_terms-written_term-requires t c =
    omega (
      arith,
      nodes-item c.args.exprs.now c.loop-expr.expr-index c.expr-item.result
          (omega arith) c.expr-item.is,
      c.decreases,
    )
