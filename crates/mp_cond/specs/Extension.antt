-- Substitutions at which a trail can still arrive.
use Rattle.std.specs.Prelude.{◌≡◌, ℕ, Some, IsSomeAnd, slice_get}
use Rattle.mp_pattern.specs.Value.{form_of, Subst, value_of, merge}
use Rattle.mp_pattern.specs.Plan.{Variable, Plan}
use Rattle.mp_table.specs.Table.{Table}
use Rattle.mp_subst.specs.Bound.{Bound, value_in}
use Rattle.mp_subst.specs.Trail.{Trail, last_value}

-- each variable that the trail has bound has a value of its form in s: the one that it is bound to, or one that this
-- becomes by merging
abbrev pub Extends : Table → Plan → Trail → Subst → Type 0
Extends t p trail s = (n : ℕ) (x : Variable) (b : Bound) → slice_get p.variables n ≡ Some x
    → last_value trail.stack n ≡ Some b
    → IsSomeAnd (value_of s x.name) (λ v. (form_of v ≡ x.form) × (merge (value_in t b) v ≡ Some v))
