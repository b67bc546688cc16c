-- The tree that a template is read as.
use Rattle.mp_pattern.specs.TemplateTree as plain
use Rattle.mp_pattern.specs.TemplateTree.{templates, symbol_template, app_template, variable_template}
use Rattle.mp_pattern.specs.declared.template.Template.{Template}
use Rattle.mp_pattern.specs.declared.template.Template.TheVariants.{Sym, App, Var}

-- a template with the numbers of its operations and the trees of its parts
abbrev pub template_tree : Template → plain.Template
template_tree (Sym n) = symbol_template n
template_tree (App f xs) = app_template f.0 (templates xs)
template_tree (Var x) = variable_template x
