use Rattle.std.proofs.Common.{◌∙◌}
use Rattle.mp_parser.specs.View.{placed, arrow_tree}
use Rattle.mp_parser.proofs.Runs.{breaks}
use Rattle.mp_parser.proofs.ConditionRuns.{behind-template, behind-if}
use Rattle.mp_syntax.proofs.statement.read_rule_end.Goals as goal

pub returns-in_err-condition-clause-read : goal.returns-in_err-condition-clause-read
returns-in_err-condition-clause-read c = λ done name e.
    let o = c.in_ok-template.template in
    let r = behind-template o (placed c.template.new.self.token) _ _ c.in_ok-template.ensures.read done name e in
    breaks _ _ _ _ _ _ _ c.from_residual-in_err-condition.ensures.1 r.1
    (c.in_err-condition.ensures.read done r.0 name e (arrow_tree o) r.2)

pub returns-in_err-expect-clause-read : goal.returns-in_err-expect-clause-read
returns-in_err-expect-clause-read c = λ done name e.
    let o = c.in_ok-template.template in
    let r = behind-template o (placed c.template.new.self.token) _ _ c.in_ok-template.ensures.read done name e in
    let s = behind-if c.in_ok-condition.condition (placed c.template.new.self.token)
    (placed c.rule_condition.new.self.token) _ _ c.in_ok-condition.ensures.read c.in_ok-condition.ensures.ends done r.0
    name e (arrow_tree o) r.2 in
    breaks _ _ _ _ _ _ _ c.from_residual-in_err-expect.ensures.1 (r.1 ∙ s.1)
    (c.in_err-expect.ensures.read done s.0 _ s.2)

pub returns-clause-read : goal.returns-clause-read
returns-clause-read c = λ done name e.
    let o = c.in_ok-template.template in
    let r = behind-template o (placed c.template.new.self.token) _ _ c.in_ok-template.ensures.read done name e in
    let s = behind-if c.in_ok-condition.condition (placed c.template.new.self.token)
    (placed c.rule_condition.new.self.token) _ _ c.in_ok-condition.ensures.read c.in_ok-condition.ensures.ends done r.0
    name e (arrow_tree o) r.2 in
    r.1 ∙ s.1 ∙ c.in_ok-expect.ensures.read done s.0 _ s.2
