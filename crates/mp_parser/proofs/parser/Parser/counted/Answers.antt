use Rattle.std.proofs.Common.{refl, sym, ◌∙◌}
use Rattle.mp_parser.specs.Syntax.{Counted}
use Rattle.mp_parser.specs.Machine.{AfterBrace, AfterCount, AfterExpr, BeforeBrace, run}
use Rattle.mp_parser.specs.View.{placed, spot_of, wildcard_of}
use Rattle.mp_parser.specs.Parsing.{ahead}
use Rattle.mp_parser.proofs.Runs.{breaks, over-count}
use Rattle.mp_parser.proofs.parser.Parser.counted.Goals as goal

pub returns-in_err-count-clause-read : goal.returns-in_err-count-clause-read
returns-in_err-count-clause-read c = λ done x k.
    let w = wildcard_of c.args.wildcard in
    breaks _ _ _ _ _ _ _ c.from_residual.ensures.1
    (over-count (placed c.args.self.now.token) _ _ c.advance.ensures done x k w c.requires
    (sym c.sees_count.ensures ∙ c.if-not-sees_count.false))
    (c.in_err-count.ensures.read done (AfterBrace x k w) (λ n. AfterCount x k w n) refl)

pub returns-in_err-expect-clause-read : goal.returns-in_err-expect-clause-read
returns-in_err-expect-clause-read c = λ done x k.
    let w = wildcard_of c.args.wildcard in
    let n = spot_of c.in_ok-count.count in
    breaks _ _ _ _ _ _ _ c.from_residual-in_err-expect.ensures.1
    (over-count (placed c.args.self.now.token) _ _ c.advance.ensures done x k w c.requires
    (sym c.sees_count.ensures ∙ c.if-not-sees_count.false)
    ∙ c.in_ok-count.ensures.read done (AfterBrace x k w) (λ n. AfterCount x k w n) refl
    ∙ c.plus-open.ensures.read done (AfterCount x k w n) (λ more. BeforeBrace x k w n more) (λ t. refl))
    (c.in_err-expect.ensures.read done (BeforeBrace x k w n c.plus-open.result) _ refl)

pub returns-clause-read : goal.returns-clause-read
returns-clause-read c = λ done x k.
    let w = wildcard_of c.args.wildcard in
    let n = spot_of c.in_ok-count.count in
    over-count (placed c.args.self.now.token) _ _ c.advance.ensures done x k w c.requires
    (sym c.sees_count.ensures ∙ c.if-not-sees_count.false)
    ∙ c.in_ok-count.ensures.read done (AfterBrace x k w) (λ n. AfterCount x k w n) refl
    ∙ c.plus-open.ensures.read done (AfterCount x k w n) (λ more. BeforeBrace x k w n more) (λ t. refl)
    ∙ c.in_ok-expect.ensures.read done (BeforeBrace x k w n c.plus-open.result) _ refl
    ∙ (λ i. run done (AfterExpr x k
    (Counted (wildcard_of (sym c.in_ok-try_alloc.ensures i)) (spot_of (sym c.in_ok-try_alloc-2.ensures i))
    c.plus-open.result)) (ahead c.expect.new.self))
