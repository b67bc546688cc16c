-- Trails: the values of variables in the order in which they were bound, and how much room is left.
use Rattle.std.specs.Prelude.{◌≡◌, ◌<◌, ◌-◌, ℕ, suc, List, [], ◌∷◌, ◌++◌, take, slice_get, Option, Some, None}
use Rattle.std.specs.Prelude.{if◌then◌else◌, nat_eq}
use Rattle.std.specs.List.{AllByRecursion}
use Rattle.mp_term.specs.Signature.{Sig}
use Rattle.mp_pattern.specs.Value.{Value, IsFinal, merge, Subst}
use Rattle.mp_pattern.specs.Plan.{Variable}
use Rattle.mp_table.specs.Table.{Table}
use Rattle.mp_subst.specs.Bound.{Bound, value_in, IsBoundIn}
use Rattle.mp_subst.specs.declared.trail.Mark.{Mark}

-- the value that a variable had from then on, and the spare room before it
pub record TrailEntry : Type 0 where
  pub var : ℕ
  pub value : Bound
  pub spare : ℕ

-- the number of variables, the whole room, the room that is left, and the entries, the oldest first
pub record Trail : Type 0 where
  pub vars : ℕ
  pub room : ℕ
  pub spare : ℕ
  pub stack : List TrailEntry

-- the length of the stack at a mark
abbrev pub length_at : Mark → ℕ
length_at m = m.length

-- the value of the last entry of a variable
abbrev pub last_value : List TrailEntry → ℕ → Option Bound
last_value [] x = None
last_value (e ∷ es) x = elim (last_value es x) [
  | None ↦ if nat_eq e.var x then Some e.value else None
  | Some b ↦ Some b
]

-- the room that was left when the stack had that length
abbrev pub spare_at : Trail → ℕ → ℕ
spare_at t n = elim (slice_get t.stack n) [ None ↦ t.spare | Some e ↦ e.spare ]

-- the trail as it was when the stack had that length
abbrev pub cut : ℕ → Trail → Trail
cut n t = record { vars = t.vars; room = t.room; spare = spare_at t n; stack = take n t.stack }

-- the trail with one entry more, which takes that much of the room
abbrev pub with_entry : Trail → ℕ → Bound → ℕ → Trail
with_entry t x b cost = record {
  vars = t.vars;
  room = t.room;
  spare = t.spare - cost;
  stack = t.stack ++ record { var = x; value = b; spare = t.spare } ∷ [];
}

-- the values are ones of the table, and the variables are below the number of variables
pub record GoesWith (table : Table) (t : Trail) : Type 0 where
  pub values : AllByRecursion (λ e. IsBoundIn table e.value) t.stack
  pub variables : AllByRecursion (λ e. e.var < t.vars) t.stack

-- the values' terms are normal, and the multisets ascend
abbrev pub AreFinal : Sig → Table → List TrailEntry → Type 0
AreFinal sig table = AllByRecursion (λ e. IsFinal sig (value_in table e.value))

-- the value of a variable when it is bound to w too: w where it was unbound, else what its value and w merge to
abbrev pub joined : Table → List TrailEntry → ℕ → Value → Option Value
joined table es x w = elim (last_value es x) [ None ↦ Some w | Some b ↦ merge (value_in table b) w ]

-- one entry was put on the stack, which holds the value of the variable when it is bound to w too
pub record IsBind (table : Table) (old new : Trail) (x : ℕ) (w : Value) : Type 0 where
  pub bound : Bound
  pub stack : new.stack ≡ old.stack ++ record { var = x; value = bound; spare = old.spare } ∷ []
  pub value : joined table old.stack x w ≡ Some (value_in table bound)

-- the variable x, which has the number n, with its value, if it is bound
abbrev pub binding_in : Table → List TrailEntry → ℕ → Variable → Subst
binding_in table es n x = elim (last_value es n) [
  | None ↦ []
  | Some b ↦ record { name = x.name; value = value_in table b } ∷ []
]

-- those of the variables xs, which are numbered from n, that are bound, each with its value
abbrev pub bindings_from : Table → List TrailEntry → ℕ → List Variable → Subst
bindings_from table es n [] = []
bindings_from table es n (x ∷ xs) = binding_in table es n x ++ bindings_from table es (suc n) xs

-- the substitution of the trail: the variables in order that are bound, each with the value of its last entry
abbrev pub subst_in : Table → List Variable → Trail → Subst
subst_in table xs t = bindings_from table t.stack 0 xs
