use Rattle.std.proofs.Common.{sym, refl, ◌∙◌}
use Rattle.mp_parser.specs.Machine.{BeforeBody, AfterSense, OnLeft, OnRight}
use Rattle.mp_parser.specs.View.{placed, amount_tree}
use Rattle.mp_parser.proofs.Runs.{breaks, passes-along}
use Rattle.mp_parser.proofs.ConditionRuns.{amount-wanted, relation-begins, property-begins}
use Rattle.mp_parser.proofs.parser.Parser.atom.Goals as goal

pub returns-in-Some-clause-read : goal.returns-in-Some-clause-read
returns-in-Some-clause-read c = λ done x k s len.
    let t = placed c.args.self.now.token in
    passes-along _ _ _ c.relation.result _ _ _
    (relation-begins done x k s t c.in-Some.relation _ _ c.advance.ensures c.in-Some.ensures)
    (c.relation.ensures.read done x k s len)

pub returns-in-Some-sees_property-clause-read : goal.returns-in-Some-sees_property-clause-read
returns-in-Some-sees_property-clause-read c = λ done x k s len.
    let t = placed c.args.self.now.token in
    passes-along _ _ _ c.property.result _ _ _
    (property-begins done x k s t c.in-Some-sees_property.property _ _ c.advance-in-Some-sees_property.ensures
    (sym c.sees_relation.ensures ∙ c.in_default.is) c.in-Some-sees_property.ensures)
    (c.property.ensures.read done x k s len)

pub returns-in_err-first-clause-read : goal.returns-in_err-first-clause-read
returns-in_err-first-clause-read c = λ done x k s len.
    let relation = sym c.sees_relation.ensures ∙ c.in_default.is in
    let property = sym c.sees_property.ensures ∙ c.in_default-sees_property.is in
    breaks _ _ _ _ _ _ _ c.from_residual.ensures.1 refl
    (c.in_err-first.ensures.read done (BeforeBody x k s) x k s OnLeft
    (amount-wanted x k s (placed c.args.self.now.token) c.requires relation property) len)

pub returns-in_err-sense-clause-read : goal.returns-in_err-sense-clause-read
returns-in_err-sense-clause-read c = λ done x k s len.
    let relation = sym c.sees_relation.ensures ∙ c.in_default.is in
    let property = sym c.sees_property.ensures ∙ c.in_default-sees_property.is in
    breaks _ _ _ _ _ _ _ c.from_residual-in_err-sense.ensures.1
    (c.in_ok-first.ensures.read done (BeforeBody x k s) x k s OnLeft
    (amount-wanted x k s (placed c.args.self.now.token) c.requires relation property) len)
    (c.in_err-sense.ensures.read done x k s (amount_tree c.in_ok-first.first))

pub returns-in_err-second-clause-read : goal.returns-in_err-second-clause-read
returns-in_err-second-clause-read c = λ done x k s len.
    let relation = sym c.sees_relation.ensures ∙ c.in_default.is in
    let property = sym c.sees_property.ensures ∙ c.in_default-sees_property.is in
    breaks _ _ _ _ _ _ _ c.from_residual-in_err-second.ensures.1
    (c.in_ok-first.ensures.read done (BeforeBody x k s) x k s OnLeft
    (amount-wanted x k s (placed c.args.self.now.token) c.requires relation property) len
    ∙ c.in_ok-sense.ensures.read done x k s (amount_tree c.in_ok-first.first))
    (c.in_err-second.ensures.read done (AfterSense x k s (amount_tree c.in_ok-first.first) c.in_ok-sense.sense) x k s
    (OnRight (amount_tree c.in_ok-first.first) c.in_ok-sense.sense) refl len)

pub returns-clause-read : goal.returns-clause-read
returns-clause-read c = λ done x k s len.
    let relation = sym c.sees_relation.ensures ∙ c.in_default.is in
    let property = sym c.sees_property.ensures ∙ c.in_default-sees_property.is in
    c.in_ok-first.ensures.read done (BeforeBody x k s) x k s OnLeft
    (amount-wanted x k s (placed c.args.self.now.token) c.requires relation property) len
    ∙ c.in_ok-sense.ensures.read done x k s (amount_tree c.in_ok-first.first)
    ∙ c.in_ok-second.ensures.read done (AfterSense x k s (amount_tree c.in_ok-first.first) c.in_ok-sense.sense) x k s
    (OnRight (amount_tree c.in_ok-first.first) c.in_ok-sense.sense) refl len
