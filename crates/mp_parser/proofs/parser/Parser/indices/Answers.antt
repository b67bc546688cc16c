use Rattle.std.proofs.Common.{[], ◌∷◌, ◌++◌, map, refl, sym, ap, ◌∙◌, arith}
use Rattle.std.proofs.lemmas.List.{map_push}
use Rattle.mp_parser.specs.Syntax.{Path}
use Rattle.mp_parser.specs.Machine.{Go, AfterPosition, BeforeIndex, AfterArrow, run}
use Rattle.mp_parser.specs.View.{placed, spot_of}
use Rattle.mp_parser.specs.Parsing.{ahead}
use Rattle.mp_parser.proofs.Runs.{breaks, over-arrow, length-passed_arrow}
use Rattle.mp_parser.proofs.EditRuns.{wants-dot, arrow-step}
use Rattle.mp_parser.proofs.parser.Parser.indices.Goals as goal

pub returns-in_err-expect-clause-read : goal.returns-in_err-expect-clause-read
returns-in_err-expect-clause-read c = λ done d first.
    let others = map spot_of c.loop-self.others.items in
    breaks _ _ _ _ _ _ _ c.from_residual.ensures.1
    (c.loop-self.invariant.read done d first)
    (c.in_err-expect.ensures.read done (AfterPosition d (Path first others)) _
    (wants-dot d first others (placed c.loop-self.self.token) (sym c.sees_arrow.ensures ∙ c.loop-self-test.true)))

pub returns-in_err-number-clause-read : goal.returns-in_err-number-clause-read
returns-in_err-number-clause-read c = λ done d first.
    let others = map spot_of c.loop-self.others.items in
    breaks _ _ _ _ _ _ _ c.from_residual-in_err-number.ensures.1
    (c.loop-self.invariant.read done d first
    ∙ c.in_ok-expect.ensures.read done (AfterPosition d (Path first others)) _
    (wants-dot d first others (placed c.loop-self.self.token) (sym c.sees_arrow.ensures ∙ c.loop-self-test.true)))
    (c.in_err-number.ensures.read done (BeforeIndex d first others)
    (λ w. AfterPosition d (Path first (others ++ w ∷ []))) refl)

pub loop-self-preserved : goal.loop-self-preserved
loop-self-preserved c = record {
  read = λ done d first.
      let others = map spot_of c.loop-self.others.items in
      c.loop-self.invariant.read done d first
      ∙ c.in_ok-expect.ensures.read done (AfterPosition d (Path first others)) _
      (wants-dot d first others (placed c.loop-self.self.token) (sym c.sees_arrow.ensures ∙ c.loop-self-test.true))
      ∙ c.in_ok-number.ensures.read done (BeforeIndex d first others)
      (λ w. AfterPosition d (Path first (others ++ w ∷ []))) refl
      ∙ ap (λ l. run done (AfterPosition d (Path first l)) (ahead c.number.new.self))
      (sym (ap (map spot_of) c.in_ok-push.ensures.items ∙ map_push spot_of _ _));
  shorter = omega (
    arith,
    c.in_ok-expect.ensures.shorter,
    c.in_ok-number.ensures.shorter,
    c.loop-self.invariant.shorter,
  );
}

pub returns-clause-read : goal.returns-clause-read
returns-clause-read c = λ done d first.
    let others = map spot_of c.loop-self.others.items in
    let held = sym c.sees_arrow.ensures ∙ c.loop-self-test.false in
    c.loop-self.invariant.read done d first
    ∙ over-arrow (placed c.loop-self.self.token) _ _ c.advance.ensures held done (AfterPosition d (Path first others))
    (Go (AfterArrow d (Path first others))) (arrow-step d (Path first others) (placed c.loop-self.self.token) held)

pub returns-clause-shorter : goal.returns-clause-shorter
returns-clause-shorter c =
    let passed = length-passed_arrow (placed c.loop-self.self.token) _ _ c.advance.ensures
    (sym c.sees_arrow.ensures ∙ c.loop-self-test.false) in
    omega (arith, passed, c.loop-self.invariant.shorter)
