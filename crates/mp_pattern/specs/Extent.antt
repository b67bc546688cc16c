-- How many terms a variable stands for, and how many arguments a template gives to the operation around it.
use Rattle.std.specs.Prelude.{ℕ, ◌+◌, Bool, true, false, ◌&&◌, nat_eq, nat_le, List, [], ◌∷◌, Option, Some, None}
use Rattle.std.specs.Prelude.{if◌then◌else◌}
use Rattle.std.specs.Option.{unwrap_or}
use Rattle.mp_term.specs.declared.signature.OpDecl.{OpDecl}
use Rattle.mp_pattern.specs.PatternTree.{Wildcard, plus, star, counted, Pattern}
use Rattle.mp_pattern.specs.TemplateTree.{Template, variable_template, Templates, no_templates, more_templates}
use Rattle.mp_pattern.specs.Value.{same_name}
use Rattle.mp_pattern.specs.Variables.{Use, uses}

-- `least` terms where the number is fixed, and `least` or more where it is open
pub record Extent : Type 0 where
  pub least : ℕ
  pub fixed : Bool

-- one term
abbrev pub single : Extent
single = record { least = 1; fixed = true }

-- how many terms the variable of a wildcard stands for: one but for a plus, star or counted wildcard
abbrev pub extent : Wildcard → Extent
extent plus = record { least = 1; fixed = false }
extent star = record { least = 0; fixed = false }
extent (counted n fixed) = record { least = n; fixed = fixed }
extent _ = single

-- the first terms and the second ones together
abbrev pub sum_extent : Extent → Extent → Extent
sum_extent e f = record { least = e.least + f.least; fixed = e.fixed && f.fixed }

-- the operation allows each such number of arguments
abbrev pub allows_extent : Extent → OpDecl → Bool
allows_extent e d = if d.fixed then (e.fixed && nat_eq e.least d.least) else nat_le d.least e.least

-- how many terms a variable stands for: what its first occurrence says
abbrev pub extent_among : List Use → List ℕ → Option Extent
extent_among [] x = None
extent_among (u ∷ us) x = if same_name u.name x then Some (extent u.wildcard) else extent_among us x

-- the same of a variable of p
abbrev pub extent_named : Pattern → List ℕ → Option Extent
extent_named p = extent_among (uses None p)

module _ (named : List ℕ → Option Extent) where
  -- how many arguments a template gives: a variable the terms that it stands for, and any other template one
  abbrev pub template_extent : Template → Extent
  template_extent (variable_template x) = unwrap_or (named x) single
  template_extent _ = single

  -- the templates of a list together
  abbrev pub templates_extent : Templates → Extent
  templates_extent no_templates = record { least = 0; fixed = true }
  templates_extent (more_templates x xs) = sum_extent (template_extent x) (templates_extent xs)
