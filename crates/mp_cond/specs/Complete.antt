-- Trails that have bound all variables of a plan.
use Rattle.std.specs.Prelude.{◌≡◌, ℕ, List, Some, option_map, position, slice_get}
use Rattle.std.specs.List.{AllByRecursion}
use Rattle.mp_pattern.specs.Plan.{Variable, Plan}
use Rattle.mp_pattern.specs.Value.{form_of, same_name, value_of}
use Rattle.mp_table.specs.Table.{Table}
use Rattle.mp_subst.specs.Trail.{Trail, subst_in}

-- each variable is the first one of its name
abbrev pub AreFirst : List Variable → Type 0
AreFirst xs = (i : ℕ) (x : Variable) → slice_get xs i ≡ Some x → position (λ v. same_name x.name v.name) xs ≡ Some i

-- the trail has bound each variable to a value of its form
abbrev pub IsComplete : Table → Plan → Trail → Type 0
IsComplete t p trail =
    AllByRecursion (λ x. option_map form_of (value_of (subst_in t p.variables trail) x.name) ≡ Some x.form) p.variables
