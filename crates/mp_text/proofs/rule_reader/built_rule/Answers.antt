use Rattle.std.proofs.Common.{[], sym, ◌∙◌}
use Rattle.std.proofs.lemmas.Result.{err_from_is_err_and}
use Rattle.mp_term.proofs.ListLaws.{both-empty}
use Rattle.mp_parser.specs.View.{arrow_tree, if_tree}
use Rattle.mp_build.specs.Checks.{loose_faults}
use Rattle.mp_build.proofs.Fails.{fails-along}
use Rattle.mp_build.proofs.SoundLaws.{holds_ops-pattern_of, defaults-pattern_of}
use Rattle.mp_text.proofs.RuleReaderLaws.{rule_faults-whole}
use Rattle.mp_text.proofs.rule_reader.built_rule.Goals as goal

pub normal_built_pattern-requires-clause-held : goal.normal_built_pattern-requires-clause-held
normal_built_pattern-requires-clause-held c =
    let e = c.requires.0 in
    rw c.requires.1.pattern
    (holds_ops-pattern_of c.args.sig.now [] e (both-empty (loose_faults e) _ c.requires.1.faultless).1)

pub normal_built_pattern-requires-clause-defaults : goal.normal_built_pattern-requires-clause-defaults
normal_built_pattern-requires-clause-defaults c =
    rw c.requires.1.pattern (defaults-pattern_of c.args.sig.now c.requires.0)

pub returns-in_err-results : goal.returns-in_err-results
returns-in_err-results c = λ e whole.
    let p = err_from_is_err_and c.from_residual-in_err-results.result c.from_residual-in_err-results.ensures.1 in
    let faults = rule_faults-whole c.args.sig.now e _ _ whole (arrow_tree c.args.template.now)
    (if_tree c.args.condition.now) in
    rw (p.1, p.2) (fails-along c.in_err-results.field-0.0 _ _ (sym faults) c.in_err-results.ensures)

pub returns : goal.returns
returns c = λ e whole.
    let faults = rule_faults-whole c.args.sig.now e _ _ whole (arrow_tree c.args.template.now)
    (if_tree c.args.condition.now) in
    let results = c.in_ok-results.ensures in (
      faults ∙ results.0,
      rw (c.in_ok-name.ensures.1, c.in_ok-pattern.ensures.1, whole.pattern, results.1.0, results.1.1)
          at c.rule_with.ensures,
    )
