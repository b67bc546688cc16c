-- The variables of a pattern, which a condition and a template may name.
use Rattle.std.specs.Prelude.{ℕ, ◌==◌, Bool, false, ◌&&◌, not, List, [], ◌∷◌, ◌++◌, map, flat_map, Option, Some}
use Rattle.std.specs.Prelude.{None, if◌then◌else◌}
use Rattle.std.specs.List.{list_any}
use Rattle.std.specs.Str.{bytes_eq}
use Rattle.mp_pattern.specs.Extent.{Extent, single, extent}
use Rattle.mp_pattern.specs.Firsts.{firsts_after}
use Rattle.mp_pattern.specs.Value.{Form, one_form, seq_form, bag_form}
use Rattle.mp_pattern.specs.Plan as plan
use Rattle.mp_parser.specs.Syntax as syntax
use Rattle.mp_parser.specs.Syntax.{Tree, Symbol, Apply, InfixOf, Wild, Optional, Counted, Trees, no_trees, more_trees}
use Rattle.mp_build.specs.Names.{named}
use Rattle.mp_build.specs.Build.{marked_shape, count_of, counted_shape}

-- ---- variables

-- a variable: its name, which is empty for a wildcard without one, and how many terms it stands for
pub record Variable : Type 0 where
  pub name : List ℕ
  pub extent : Extent

-- any number of terms
abbrev pub any_terms : Extent
any_terms = record { least = 0; fixed = false }

-- it may be another number of terms than one
abbrev pub is_many : Extent → Bool
is_many e = not (e.fixed && (e.least == 1))

-- the variables of a pattern, one for each wildcard, in order; those within defaults aren't among them
abbrev mutual
  pub pattern_variables : Tree → List Variable
  pattern_variables (Symbol w) = []
  pattern_variables (Apply f args) = all_pattern_variables args
  pattern_variables (InfixOf opened sign operands) = all_pattern_variables operands
  pattern_variables (Wild w) = record { name = w.name; extent = extent (marked_shape w.marks) } ∷ []
  pattern_variables (Optional w others default) = record { name = w.name; extent = single } ∷ []
  pattern_variables (Counted w count more) =
      record { name = w.name; extent = extent (counted_shape (count_of count) more) } ∷ []
  pattern_variables (syntax.Variable x) = []

  pub all_pattern_variables : Trees → List Variable
  all_pattern_variables no_trees = []
  all_pattern_variables (more_trees t ts) = pattern_variables t ++ all_pattern_variables ts

-- the names of variables, in order
abbrev pub names_of : List Variable → List (List ℕ)
names_of vs = flat_map (λ v. named v.name) vs

-- the names of a pattern's variables, each once, at its first place
abbrev pub variable_names : Tree → List (List ℕ)
variable_names p = firsts_after bytes_eq [] (names_of (pattern_variables p))

-- a value of the form may have several terms
abbrev pub form_extent : Form → Extent
form_extent one_form = single
form_extent seq_form = any_terms
form_extent bag_form = any_terms

-- that of a plan's variable
abbrev pub plan_variable : plan.Variable → Variable
plan_variable v = record { name = v.name; extent = form_extent v.form }

-- the variables of a plan
abbrev pub plan_variables : plan.Plan → List Variable
plan_variables p = map plan_variable p.variables

-- ---- what may be named

-- the variables that may be named, or none where that isn't checked
abbrev pub Scope : Type 0
Scope = Option (List Variable)

-- one of the variables has the name
abbrev pub is_bound : List Variable → List ℕ → Bool
is_bound vs x = list_any (λ v. bytes_eq x v.name) vs

-- one of the variables has the name, and may stand for another number of terms than one
abbrev pub is_bound_sequence : List Variable → List ℕ → Bool
is_bound_sequence vs x = list_any (λ v. bytes_eq x v.name && is_many v.extent) vs

-- how many terms the first variable of the name stands for, where there is one
abbrev pub extent_in : List Variable → List ℕ → Option Extent
extent_in [] x = None
extent_in (v ∷ vs) x = if bytes_eq x v.name then Some v.extent else extent_in vs x
