-- The substitution of a trail, variable by variable.
use Rattle.std.proofs.Common.{◌≡◌, ℕ, suc, ◌+◌, ◌<◌, List, [], ◌∷◌, ◌++◌, drop, length, ap, sym, ◌∙◌}
use Rattle.std.proofs.Common.{arith}
use Rattle.std.specs.Prelude.{Some, None, slice_get, option_map}
use Rattle.std.proofs.lemmas.Option.{get_or_from_slice_get}
use Rattle.mp_term.proofs.ListLaws.{drop-item}
use Rattle.mp_pattern.specs.Value.{Subst}
use Rattle.mp_pattern.specs.Plan.{Variable}
use Rattle.mp_table.specs.Table.{Table}
use Rattle.mp_subst.specs.Bound.{Bound, value_in}
use Rattle.mp_subst.specs.Trail.{TrailEntry, last_value, binding_in, bindings_from}
use Rattle.mp_subst.proofs.TrailLaws.{item_at}

module _ (table : Table) (es : List TrailEntry) (xs : List Variable) (n : ℕ) (below : n < length xs) where
  next : (x : Variable) → slice_get xs n ≡ Some x → bindings_from table es n (drop n xs)
      ≡ binding_in table es n x ++ bindings_from table es (n + 1) (drop (n + 1) xs)
  next x at =
      let more : suc n ≡ n + 1 = omega arith in
      ap (bindings_from table es n) (drop-item xs n x below (sym (get_or_from_slice_get xs n x x at)))
      ∙ ap (λ m. binding_in table es n x ++ bindings_from table es m (drop (n + 1) xs)) more

  -- past an unbound variable
  pub past_unbound : last_value es n ≡ None
      → bindings_from table es n (drop n xs) ≡ bindings_from table es (n + 1) (drop (n + 1) xs)
  past_unbound h =
      let x = item_at xs n below in
      next x.0 x.1
      ∙ ap (λ o. (elim o as (λ _. Subst) [
        | None ↦ []
        | Some b ↦ record { name = x.0.name; value = value_in table b } ∷ []
      ]) ++ bindings_from table es (n + 1) (drop (n + 1) xs)) h

  -- past a bound one
  pub past_bound : (name : List ℕ) (b : Bound) → Some name ≡ option_map (λ x. x.name) (slice_get xs n)
      → last_value es n ≡ Some b → bindings_from table es n (drop n xs)
      ≡ record { name = name; value = value_in table b } ∷ bindings_from table es (n + 1) (drop (n + 1) xs)
  past_bound name b is h =
      let x = item_at xs n below in
      let same : Some name ≡ Some x.0.name = is ∙ ap (option_map (λ y. y.name)) x.1 in
      let named : name ≡ x.0.name = cc in
      next x.0 x.1
      ∙ ap (λ o. (elim o as (λ _. Subst) [
        | None ↦ []
        | Some c ↦ record { name = x.0.name; value = value_in table c } ∷ []
      ]) ++ bindings_from table es (n + 1) (drop (n + 1) xs)) h
      ∙ ap (λ m. record { name = m; value = value_in table b } ∷ bindings_from table es (n + 1) (drop (n + 1) xs))
      (sym named)
