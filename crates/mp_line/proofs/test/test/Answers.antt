use Rattle.std.proofs.Common.{length, ap, sym, subst, ◌∙◌, arith}
use Rattle.std.specs.Prelude.{codes}
use Rattle.std.proofs.lemmas.List.{length-append}
use Rattle.mp_pattern.specs.CondView.{cond_tree}
use Rattle.mp_line.specs.Finds.{Finds}
use Rattle.mp_line.specs.LineTexts.{IsExactCond}
use Rattle.mp_line.proofs.TestLaws.{no-test, test-unread, test-other, test-only}
use Rattle.mp_line.proofs.test.test.Goals as goal

pub exact_cond-requires : goal.exact_cond-requires
exact_cond-requires c =
    omega (arith, ap length c.in-Some.ensures.is, length-append c.in-Some.text.now (codes ";"))

pub returns-in_default : goal.returns-in_default
returns-in_default c = no-test c.args.sig.now c.args.line.now c.in_default.ensures

pub returns-in_default-2 : goal.returns-in_default-2
returns-in_default-2 c =
    test-unread c.args.sig.now c.args.line.now c.in-Some.text.now c.in-Some.ensures.is
    (subst (Finds cond_tree
    (IsExactCond c.args.sig.now c.in-Some.text.now)) c.in_default-2.is c.in_ok-cond.ensures)

pub returns-then-is_named : goal.returns-then-is_named
returns-then-is_named c =
    test-only c.args.sig.now c.args.line.now c.in-Some.text.now c.in-Some.ensures.is (cond_tree c.in-Some-2.cond)
    (subst (Finds cond_tree (IsExactCond c.args.sig.now c.in-Some.text.now)) c.in-Some-2.is c.in_ok-cond.ensures)
    (sym c.if-is_named.true ∙ c.in_ok-is_named.ensures)

pub returns-else-is_named : goal.returns-else-is_named
returns-else-is_named c =
    test-other c.args.sig.now c.args.line.now c.in-Some.text.now c.in-Some.ensures.is (cond_tree c.in-Some-2.cond)
    (subst (Finds cond_tree (IsExactCond c.args.sig.now c.in-Some.text.now)) c.in-Some-2.is c.in_ok-cond.ensures)
    (sym c.if-is_named.false ∙ c.in_ok-is_named.ensures)
