use Rattle.std.proofs.Common.{◌≡◌, ◌++◌, drop, map, flat_map}
use Rattle.mp_term.specs.View.{tree}
use Rattle.mp_pattern.specs.RuleView.{rule_tree}
use Rattle.mp_pattern.specs.Constants.{rule_constants}
use Rattle.mp_pattern.proofs.constant.constants.Given as goal

abbrev pub invariant-loop-rule : goal.invariant-loop-rule
invariant-loop-rule l =
    map tree l.found.items ++ flat_map rule_constants (map rule_tree (drop l.rule-index l.rule-items))
    ≡ flat_map rule_constants l.rules
