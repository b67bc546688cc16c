use Rattle.std.proofs.Common.{◌∷◌, refl, ◌∙◌, arith}
use Rattle.mp_parser.specs.Machine.{AfterExpr, Operand, Second, OfRelation}
use Rattle.mp_parser.specs.View.{expr_tree}
use Rattle.mp_parser.proofs.Runs.{breaks}
use Rattle.mp_parser.proofs.parser.Parser.relation.Goals as goal

pub returns-in_err-first-clause-read : goal.returns-in_err-first-clause-read
returns-in_err-first-clause-read c = λ done x k s len.
    breaks _ _ _ _ _ _ _ c.from_residual.ensures.1 refl
    (c.in_err-first.ensures.read done x k s (OfRelation c.args.relation) len)

pub returns-in_err-expect-clause-read : goal.returns-in_err-expect-clause-read
returns-in_err-expect-clause-read c = λ done x k s len.
    breaks _ _ _ _ _ _ _ c.from_residual-in_err-expect.ensures.1
    (c.in_ok-first.ensures.read done x k s (OfRelation c.args.relation) len)
    (c.in_err-expect.ensures.read done
    (AfterExpr x (Operand s (OfRelation c.args.relation) ∷ k) (expr_tree c.in_ok-first.first)) _ refl)

pub returns-in_err-second-clause-read : goal.returns-in_err-second-clause-read
returns-in_err-second-clause-read c = λ done x k s len.
    let some = c.in_ok-first.ensures.some in
    breaks _ _ _ _ _ _ _ c.from_residual-in_err-second.ensures.1
    (c.in_ok-first.ensures.read done x k s (OfRelation c.args.relation) len
    ∙ c.in_ok-expect.ensures.read done
    (AfterExpr x (Operand s (OfRelation c.args.relation) ∷ k) (expr_tree c.in_ok-first.first)) _ refl)
    (c.in_err-second.ensures.read done x (Second s c.args.relation (expr_tree c.in_ok-first.first) ∷ k)
    (omega (arith, len, some)))

pub returns-in_err-expect-2-clause-read : goal.returns-in_err-expect-2-clause-read
returns-in_err-expect-2-clause-read c = λ done x k s len.
    let some = c.in_ok-first.ensures.some in
    breaks _ _ _ _ _ _ _ c.from_residual-in_err-expect-2.ensures.1
    (c.in_ok-first.ensures.read done x k s (OfRelation c.args.relation) len
    ∙ c.in_ok-expect.ensures.read done
    (AfterExpr x (Operand s (OfRelation c.args.relation) ∷ k) (expr_tree c.in_ok-first.first)) _ refl
    ∙ c.in_ok-second.ensures.read done x (Second s c.args.relation (expr_tree c.in_ok-first.first) ∷ k)
    (omega (arith, len, some)))
    (c.in_err-expect-2.ensures.read done
    (AfterExpr x (Second s c.args.relation (expr_tree c.in_ok-first.first) ∷ k) (expr_tree c.in_ok-second.second)) _
    refl)

pub returns-clause-read : goal.returns-clause-read
returns-clause-read c = λ done x k s len.
    let some = c.in_ok-first.ensures.some in
    c.in_ok-first.ensures.read done x k s (OfRelation c.args.relation) len
    ∙ c.in_ok-expect.ensures.read done
    (AfterExpr x (Operand s (OfRelation c.args.relation) ∷ k) (expr_tree c.in_ok-first.first)) _ refl
    ∙ c.in_ok-second.ensures.read done x (Second s c.args.relation (expr_tree c.in_ok-first.first) ∷ k)
    (omega (arith, len, some))
    ∙ c.in_ok-expect-2.ensures.read done
    (AfterExpr x (Second s c.args.relation (expr_tree c.in_ok-first.first) ∷ k) (expr_tree c.in_ok-second.second)) _
    refl
