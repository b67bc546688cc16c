-- A template as a term that gives it back.
use Rattle.std.specs.Prelude.{◌≡◌, zero, suc, [], refl}
use Rattle.std.proofs.Common.{ap}
use Rattle.std.specs.Coded.{Coded, code_by}
use Rattle.mp_term.specs.Tree.{Tree, symbol, app, Trees, no_trees, more_trees}
use Rattle.mp_term.specs.Code.{coded_tree}
use Rattle.mp_pattern.specs.TemplateTree.{Template, symbol_template, app_template, variable_template, Templates}
use Rattle.mp_pattern.specs.TemplateTree.{no_templates, more_templates}

abbrev mutual
  -- a symbol, an application whose number is one greater, or an application of 0 to a variable
  as_tree : Template → Tree
  as_tree (symbol_template n) = symbol n
  as_tree (app_template f xs) = app (suc f) (as_trees xs)
  as_tree (variable_template x) = app 0 (more_trees (symbol x) no_trees)

  -- those of a list
  as_trees : Templates → Trees
  as_trees no_templates = no_trees
  as_trees (more_templates x xs) = more_trees (as_tree x) (as_trees xs)

abbrev mutual
  -- the template of a term
  to_template : Tree → Template
  to_template (symbol n) = symbol_template n
  to_template (app (suc f) ts) = app_template f (to_templates ts)
  to_template (app zero (more_trees (symbol x) ts)) = variable_template x
  to_template _ = symbol_template []

  -- those of a list
  to_templates : Trees → Templates
  to_templates no_trees = no_templates
  to_templates (more_trees t ts) = more_templates (to_template t) (to_templates ts)

mutual
  pub to_template-as_tree : (x : Template) → to_template (as_tree x) ≡ x
  to_template-as_tree (symbol_template n) = refl
  to_template-as_tree (app_template f xs) = ap (app_template f) (to_templates-as_trees xs)
  to_template-as_tree (variable_template x) = refl

  to_templates-as_trees : (xs : Templates) → to_templates (as_trees xs) ≡ xs
  to_templates-as_trees no_templates = refl
  to_templates-as_trees (more_templates x xs) =
      λ i. more_templates (to_template-as_tree x i) (to_templates-as_trees xs i)

-- the code of templates
abbrev pub coded_template : Coded Template
coded_template = code_by Tree coded_tree as_tree to_template to_template-as_tree
