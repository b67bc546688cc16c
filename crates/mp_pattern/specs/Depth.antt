-- How deep a pattern is, with its defaults, and how deep a template.
use Rattle.std.specs.Prelude.{ℕ, ◌+◌, max}
use Rattle.mp_term.specs.Size.{depth}
use Rattle.mp_pattern.specs.PatternTree.{Wildcard, optional, Pattern, symbol_pattern, app_pattern, wild_pattern}
use Rattle.mp_pattern.specs.PatternTree.{Patterns, no_patterns, more_patterns}
use Rattle.mp_pattern.specs.TemplateTree.{Template, symbol_template, app_template, variable_template, Templates}
use Rattle.mp_pattern.specs.TemplateTree.{no_templates, more_templates}

-- an optional wildcard is as deep as its default, and any other has the depth 0
abbrev pub wildcard_depth : Wildcard → ℕ
wildcard_depth (optional t) = depth t
wildcard_depth _ = 0

-- a symbol has the depth 0, and an application one more than the greatest depth of its arguments
abbrev mutual
  pub pattern_depth : Pattern → ℕ
  pattern_depth (symbol_pattern n) = 0
  pattern_depth (app_pattern f ps) = greatest_pattern_depth ps + 1
  pattern_depth (wild_pattern w x) = wildcard_depth w

  pub greatest_pattern_depth : Patterns → ℕ
  greatest_pattern_depth no_patterns = 0
  greatest_pattern_depth (more_patterns p ps) = max (pattern_depth p) (greatest_pattern_depth ps)

-- the same of a template, a variable having the depth 0
abbrev mutual
  pub template_depth : Template → ℕ
  template_depth (symbol_template n) = 0
  template_depth (app_template f xs) = greatest_template_depth xs + 1
  template_depth (variable_template x) = 0

  pub greatest_template_depth : Templates → ℕ
  greatest_template_depth no_templates = 0
  greatest_template_depth (more_templates x xs) = max (template_depth x) (greatest_template_depth xs)
