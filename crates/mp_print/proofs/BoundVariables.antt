-- The variables of a plan that a trail binds, one after another.
use Rattle.std.proofs.Common.{◌≡◌, ℕ, zero, suc, ◌+◌, List, [], ◌∷◌, ◌++◌, take, Option, Some, None, refl, ap}
use Rattle.std.proofs.Common.{sym, ◌∙◌, add-one, append-nil, append_assoc, arith}
use Rattle.std.specs.Prelude.{slice_get, option_map}
use Rattle.mp_io.specs.Devices.{Text}
use Rattle.mp_pattern.specs.Plan.{Variable}
use Rattle.mp_pattern.specs.Value.{Subst}
use Rattle.mp_table.specs.Table.{Table}
use Rattle.mp_subst.specs.Bound.{Bound, value_in}
use Rattle.mp_subst.specs.Trail.{TrailEntry, last_value, binding_in, bindings_from}

module _ (table : Table) (es : List TrailEntry) where
  -- the binding of a variable of that name, if it is bound
  abbrev pub binding_as : Option Bound → Option Text → Subst
  binding_as None n = []
  binding_as (Some b) None = []
  binding_as (Some b) (Some n) = record { name = n; value = value_in table b } ∷ []

  -- without a name there is none
  binding_as-nameless : (b : Option Bound) → binding_as b None ≡ []
  binding_as-nameless None = refl
  binding_as-nameless (Some b) = refl

  binding_as-first : (b : Option Bound) (n : Text)
      → elim b [ None ↦ [] | Some v ↦ record { name = n; value = value_in table v } ∷ [] ] ++ []
      ≡ binding_as b (Some n)
  binding_as-first None n = refl
  binding_as-first (Some b) n = refl

  -- the bindings of the variables before the next number end with that of the one there
  bindings_from-take : (xs : List Variable) (i : ℕ)
      → bindings_from table es 0 (take (i + 1) xs)
      ≡ bindings_from table es 0 (take i xs)
      ++ binding_as (last_value es i) (option_map (λ (x : Variable). x.name) (slice_get xs i))
  bindings_from-take xs i = ap (λ k. bindings_from table es 0 (take k xs)) (add-one i)
      ∙ (let e : 0 + i ≡ i = omega arith in rw e at (go 0 xs i))
    where
      go : (n : ℕ) (xs : List Variable) (i : ℕ) → bindings_from table es n (take (suc i) xs)
          ≡ bindings_from table es n (take i xs)
          ++ binding_as (last_value es (n + i)) (option_map (λ (x : Variable). x.name) (slice_get xs i))
      go n [] zero = sym (binding_as-nameless (last_value es (n + 0)))
      go n [] (suc i) = sym (binding_as-nameless (last_value es (n + suc i)))
      go n (x ∷ xs) zero = let e : n + 0 ≡ n = omega arith in rw e (binding_as-first (last_value es n) x.name)
      go n (x ∷ xs) (suc i) =
          let e : n + suc i ≡ suc n + i = omega arith in
          let last = binding_as (last_value es (suc n + i)) (option_map (λ (y : Variable). y.name) (slice_get xs i)) in
          rw e (ap (λ l. binding_in table es n x ++ l) (go (suc n) xs i)
          ∙ sym (append_assoc (binding_in table es n x) (bindings_from table es (suc n) (take i xs)) last))

  module _ (xs : List Variable) (i : ℕ) where
    -- an unbound variable adds none
    pub bindings_from-unbound : last_value es i ≡ None
        → bindings_from table es 0 (take (i + 1) xs) ≡ bindings_from table es 0 (take i xs)
    bindings_from-unbound unbound =
        bindings_from-take xs i
        ∙ ap (λ o. bindings_from table es 0 (take i xs)
        ++ binding_as o (option_map (λ (x : Variable). x.name) (slice_get xs i))) unbound
        ∙ append-nil (bindings_from table es 0 (take i xs))

    -- nor does one that there isn't
    pub bindings_from-nameless : option_map (λ (x : Variable). x.name) (slice_get xs i) ≡ None
        → bindings_from table es 0 (take (i + 1) xs) ≡ bindings_from table es 0 (take i xs)
    bindings_from-nameless nameless =
        bindings_from-take xs i
        ∙ ap (λ o. bindings_from table es 0 (take i xs) ++ binding_as (last_value es i) o) nameless
        ∙ ap (λ l. bindings_from table es 0 (take i xs) ++ l) (binding_as-nameless (last_value es i))
        ∙ append-nil (bindings_from table es 0 (take i xs))

    -- a bound one adds its own
    pub bindings_from-bound : (b : Bound) (n : Text) → last_value es i ≡ Some b
        → option_map (λ (x : Variable). x.name) (slice_get xs i) ≡ Some n
        → bindings_from table es 0 (take (i + 1) xs)
        ≡ bindings_from table es 0 (take i xs) ++ record { name = n; value = value_in table b } ∷ []
    bindings_from-bound b n bound named = bindings_from-take xs i
        ∙ (λ k. bindings_from table es 0 (take i xs) ++ binding_as (bound k) (named k))
