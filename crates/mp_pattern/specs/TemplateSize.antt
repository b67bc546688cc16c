-- How many nodes a template has.
use Rattle.std.specs.Prelude.{ℕ, ◌+◌, List}
use Rattle.mp_pattern.specs.TemplateTree.{Template, symbol_template, app_template, variable_template, Templates}
use Rattle.mp_pattern.specs.TemplateTree.{no_templates, more_templates, templates}

abbrev mutual
  -- its symbols, applications and variables
  pub template_nodes : Template → ℕ
  template_nodes (symbol_template n) = 1
  template_nodes (app_template f xs) = all_template_nodes xs + 1
  template_nodes (variable_template x) = 1

  -- those of all templates of a list
  pub all_template_nodes : Templates → ℕ
  all_template_nodes no_templates = 0
  all_template_nodes (more_templates x xs) = template_nodes x + all_template_nodes xs

-- the same of a `List`
abbrev pub template_list_nodes : List Template → ℕ
template_list_nodes xs = all_template_nodes (templates xs)
