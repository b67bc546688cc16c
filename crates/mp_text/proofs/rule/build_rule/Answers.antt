use Rattle.std.proofs.Common.{◌∙◌}
use Rattle.mp_build.proofs.Fails.{none-append}
use Rattle.mp_text.proofs.rule.build_rule.Goals as goal

pub returns : goal.returns
returns c =
    let normal = c.in_ok-normal.ensures in
    let results = c.in_ok-results.ensures in (
      none-append _ _ normal.0 ∙ results.0,
      rw (c.in_ok-name.ensures.1, normal.1, results.1.0, results.1.1) at c.rule_with.ensures,
    )
