use Rattle.std.proofs.Common.{[], refl, sym, ◌∙◌}
use Rattle.mp_parser.specs.declared.token.Punct.TheVariants.{Dot}
use Rattle.mp_parser.specs.Syntax.{Root, Path}
use Rattle.mp_parser.specs.Machine.{Go, BeforeChange, AfterPosition, AfterArrow}
use Rattle.mp_parser.specs.View.{placed, spot_of}
use Rattle.mp_parser.proofs.Runs.{breaks, over-punct}
use Rattle.mp_parser.proofs.EditRuns.{root-step, wants-first}
use Rattle.mp_parser.proofs.parser.Parser.position.Goals as goal

pub returns-in_err-arrow-clause-read : goal.returns-in_err-arrow-clause-read
returns-in_err-arrow-clause-read c = λ done d.
    let held = sym c.sees.ensures ∙ c.if-sees.true in
    let t = placed c.args.self.now.token in
    breaks _ _ _ _ _ _ _ c.from_residual.ensures.1
    (over-punct Dot t _ _ c.advance.ensures held done (BeforeChange d) (Go (AfterPosition d (Root t.place)))
    (root-step d t held))
    (c.in_err-arrow.ensures.read done (AfterPosition d (Root t.place)) (AfterArrow d (Root t.place)) refl)

pub returns-then-sees-clause-read : goal.returns-then-sees-clause-read
returns-then-sees-clause-read c = λ done d.
    let held = sym c.sees.ensures ∙ c.if-sees.true in
    let t = placed c.args.self.now.token in
    over-punct Dot t _ _ c.advance.ensures held done (BeforeChange d) (Go (AfterPosition d (Root t.place)))
    (root-step d t held)
    ∙ c.in_ok-arrow.ensures.read done (AfterPosition d (Root t.place)) (AfterArrow d (Root t.place)) refl

pub returns-in_err-first-clause-read : goal.returns-in_err-first-clause-read
returns-in_err-first-clause-read c = λ done d.
    breaks _ _ _ _ _ _ _ c.from_residual-in_err-first.ensures.1 refl
    (c.in_err-first.ensures.read done (BeforeChange d) (λ w. AfterPosition d (Path w []))
    (wants-first d (placed c.args.self.now.token) (sym c.sees.ensures ∙ c.if-sees.false)))

pub returns-in_err-others-clause-read : goal.returns-in_err-others-clause-read
returns-in_err-others-clause-read c = λ done d.
    breaks _ _ _ _ _ _ _ c.from_residual-in_err-others.ensures.1
    (c.in_ok-first.ensures.read done (BeforeChange d) (λ w. AfterPosition d (Path w []))
    (wants-first d (placed c.args.self.now.token) (sym c.sees.ensures ∙ c.if-sees.false)))
    (c.in_err-others.ensures.read done d (spot_of c.in_ok-first.first))

pub returns-clause-read : goal.returns-clause-read
returns-clause-read c = λ done d.
    c.in_ok-first.ensures.read done (BeforeChange d) (λ w. AfterPosition d (Path w []))
    (wants-first d (placed c.args.self.now.token) (sym c.sees.ensures ∙ c.if-sees.false))
    ∙ c.in_ok-others.ensures.read done d (spot_of c.in_ok-first.first)
