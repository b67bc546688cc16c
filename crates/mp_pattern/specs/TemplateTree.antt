-- The plain trees that contracts see in place of templates.
use Rattle.std.specs.Prelude.{ℕ, List, [], ◌∷◌}

mutual
  -- a symbol with the bytes of its name, an operation's number with its arguments, or a variable by its name
  pub data Template : Type 0 where
    symbol_template : List ℕ → Template
    app_template : ℕ → Templates → Template
    variable_template : List ℕ → Template

  -- a list of templates, which stands here since a type can't hold itself inside `List`
  pub data Templates : Type 0 where
    no_templates : Templates
    more_templates : Template → Templates → Templates

-- the same as a `List`
abbrev pub template_list : Templates → List Template
template_list no_templates = []
template_list (more_templates x xs) = x ∷ template_list xs

-- and back
abbrev pub templates : List Template → Templates
templates [] = no_templates
templates (x ∷ xs) = more_templates x (templates xs)
