-- The record that a rule is read as.
use Rattle.std.specs.Prelude.{option_map}
use Rattle.mp_pattern.specs.View.{pattern_tree}
use Rattle.mp_pattern.specs.TemplateView.{template_tree}
use Rattle.mp_pattern.specs.CondView.{cond_tree}
use Rattle.mp_pattern.specs.Admission as plain
use Rattle.mp_pattern.specs.declared.rule.Rule.{Rule}

-- a rule with the trees of its pattern, its template and its condition
abbrev pub rule_tree : Rule → plain.Rule
rule_tree r = record {
  name = r.name;
  pattern = pattern_tree r.pattern;
  template = option_map template_tree r.template;
  condition = option_map cond_tree r.condition;
}
