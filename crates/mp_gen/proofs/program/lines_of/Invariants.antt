use Rattle.std.proofs.Common.{◌≡◌, ◌++◌, map, drop}
use Rattle.mp_pattern.specs.RuleView.{rule_tree}
use Rattle.mp_program.specs.RuleView.{rule_line_view}
use Rattle.mp_gen.specs.Generated.{spelled_rule}
use Rattle.mp_gen.proofs.program.lines_of.Given as goal

-- the rules that are left add the lines that are lacking
abbrev pub invariant-loop-rule : goal.invariant-loop-rule
invariant-loop-rule l =
    map rule_line_view l.lines.items ++ map spelled_rule (map rule_tree (drop l.rule-index l.rules))
    ≡ map spelled_rule (map rule_tree l.rules)
