use Rattle.std.proofs.Common.{[], ◌∷◌, ◌++◌, sym, ◌∙◌}
use Rattle.mp_parser.specs.Syntax.{RuleOf}
use Rattle.mp_parser.specs.Machine.{OfRule, Top, run}
use Rattle.mp_parser.specs.View.{spot_of, expr_tree, arrow_tree, if_tree}
use Rattle.mp_parser.specs.Parsing.{ahead}
use Rattle.mp_parser.proofs.Runs.{breaks}
use Rattle.mp_syntax.proofs.statement.rule.Goals as goal

pub returns-in_err-template-clause-read : goal.returns-in_err-template-clause-read
returns-in_err-template-clause-read c = λ done.
    breaks _ _ _ _ _ _ _ c.from_residual-in_err-template.ensures.1 (c.in_ok-name.ensures.read done OfRule)
    (c.in_err-template.ensures.read done (spot_of c.in_ok-name.name) (expr_tree c.in_ok-name.pattern))

pub returns-clause-read : goal.returns-clause-read
returns-clause-read c = λ done.
    let name = spot_of c.in_ok-name.name in
    c.in_ok-name.ensures.read done OfRule
    ∙ c.in_ok-template.ensures.read done name (expr_tree c.in_ok-name.pattern)
    ∙ (λ i. run (done ++ RuleOf name (expr_tree (sym c.in_ok-pattern.ensures i)) (arrow_tree c.in_ok-template.template)
    (if_tree c.in_ok-template.condition) ∷ []) Top (ahead c.read_rule_end.new.parser))
