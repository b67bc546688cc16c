-- The values of an item, called by names that are given, are those of each substitution with which its table fits a
-- pattern.
use Rattle.std.proofs.Common.{◌≡◌, ℕ, suc, ◌+◌, ◌≤◌, List, [], ◌∷◌, ◌++◌, map, drop, length, refl, ap, sym, ◌∙◌}
use Rattle.std.proofs.Common.{arith}
use Rattle.std.specs.Prelude.{Option, Some, None, slice_get}
use Rattle.std.proofs.lemmas.List.{length-map}
use Rattle.std.proofs.lemmas.Option.{get_or_from_slice_get, slice_get_within}
use Rattle.mp_term.specs.Listing.{In}
use Rattle.mp_term.specs.Normal.{IsNormal}
use Rattle.mp_term.specs.Signature.{Sig}
use Rattle.mp_term.specs.Tree.{Tree}
use Rattle.mp_term.proofs.ListLaws.{drop-item}
use Rattle.mp_pattern.specs.declared.limits.TheConstants.{MAX_VARIABLES}
use Rattle.mp_pattern.specs.Fits.{Table, Fits}
use Rattle.mp_pattern.specs.NetTokens.{tokens_of}
use Rattle.mp_pattern.specs.PatternTree.{Pattern}
use Rattle.mp_pattern.specs.Plan.{Variable}
use Rattle.mp_pattern.specs.Value.{Binding, Subst}
use Rattle.mp_pattern.specs.Variables.{variables}
use Rattle.mp_table.specs.Table as tables
use Rattle.mp_subst.specs.Bound.{Bound, value_in}
use Rattle.mp_subst.specs.Trail.{Trail, TrailEntry, last_value, bindings_from, subst_in}
use Rattle.mp_theory.proofs.FitsSolves.{fits-solves}
use Rattle.mp_walk.specs.CodeForest.{code_forest}
use Rattle.mp_walk.specs.Forests.{lists}
use Rattle.mp_walk.specs.Instrs.{Instr}
use Rattle.mp_walk.specs.NamedItems.{with_names, called, IsItemTrail}

-- the names of the variables that are called by them
pub names-called : (xs : List (List ℕ)) → map (λ (v : Variable). v.name) (called xs) ≡ xs
names-called [] = refl
names-called (x ∷ xs) = ap (λ l. x ∷ l) (names-called xs)

module _ (table : tables.Table) (es : List TrailEntry) where
  -- the binding of a variable, if it is bound
  abbrev bound_as : List ℕ → Option Bound → Subst
  bound_as x o = elim o as (λ _. Subst) [
    | None ↦ []
    | Some b ↦ record { name = x; value = value_in table b } ∷ []
  ]

  -- those of the variables behind the one with the number n
  abbrev rest_of : ℕ → List (List ℕ) → Subst
  rest_of n xs = bindings_from table es (suc n) (called xs)

  -- past a variable, which is bound or not
  past : (xs : List (List ℕ)) (n : ℕ) (x : List ℕ) → slice_get xs n ≡ Some x
      → bindings_from table es n (called (drop n xs))
      ≡ bound_as x (last_value es n) ++ bindings_from table es (n + 1) (called (drop (n + 1) xs))
  past xs n x at =
      let more : suc n ≡ n + 1 = omega arith in
      ap (λ l. bindings_from table es n (called l))
      (drop-item xs n x (slice_get_within xs n x at) (sym (get_or_from_slice_get xs n x x at)))
      ∙ ap (λ m. bound_as x (last_value es n) ++ bindings_from table es m (called (drop (n + 1) xs))) more

  pub past-unbound : (xs : List (List ℕ)) (n : ℕ) (x : List ℕ) → slice_get xs n ≡ Some x → last_value es n ≡ None
      → bindings_from table es n (called (drop n xs)) ≡ bindings_from table es (n + 1) (called (drop (n + 1) xs))
  past-unbound xs n x at h = past xs n x at
      ∙ ap (λ o. bound_as x o ++ bindings_from table es (n + 1) (called (drop (n + 1) xs))) h

  pub past-bound : (xs : List (List ℕ)) (n : ℕ) (x : List ℕ) (b : Bound) → slice_get xs n ≡ Some x
      → last_value es n ≡ Some b → bindings_from table es n (called (drop n xs))
      ≡ record { name = x; value = value_in table b } ∷ bindings_from table es (n + 1) (called (drop (n + 1) xs))
  past-bound xs n x b at h = past xs n x at
      ∙ ap (λ o. bound_as x o ++ bindings_from table es (n + 1) (called (drop (n + 1) xs))) h

  -- there are no more bindings than variables
  few-bindings : (n : ℕ) (xs : List (List ℕ)) → length (bindings_from table es n (called xs)) ≤ length xs
  few-bindings n [] = omega arith
  few-bindings n (x ∷ xs) = by_last (last_value es n) (few-bindings (suc n) xs)
    where
      by_last : (o : Option Bound) → length (bindings_from table es (suc n) (called xs)) ≤ length xs
          → length (bound_as x o ++ bindings_from table es (suc n) (called xs)) ≤ suc (length xs)
      by_last None h = omega (arith, h)
      by_last (Some b) h = omega (arith, h)

  -- where all are bound, other names call the same values
  bindings-called : (n : ℕ) (xs ys : List (List ℕ)) → length ys ≡ length xs
      → length (bindings_from table es n (called xs)) ≡ length xs
      → bindings_from table es n (called ys) ≡ with_names ys (bindings_from table es n (called xs))
  bindings-called n [] [] e h = refl
  bindings-called n [] (y ∷ ys) e h = absurd (omega (arith, e))
  bindings-called n (x ∷ xs) [] e h = absurd (omega (arith, e))
  bindings-called n (x ∷ xs) (y ∷ ys) e h = by_last (last_value es n) h
      (λ k. bindings-called (suc n) xs ys (omega (arith, e)) k)
    where
      by_last : (o : Option Bound) → length (bound_as x o ++ rest_of n xs) ≡ suc (length xs)
          → (length (rest_of n xs) ≡ length xs → rest_of n ys ≡ with_names ys (rest_of n xs))
          → bound_as y o ++ rest_of n ys ≡ with_names (y ∷ ys) (bound_as x o ++ rest_of n xs)
      by_last None k go = absurd (omega (arith, k, few-bindings (suc n) xs))
      by_last (Some b) k go = ap (λ s. record { name = y; value = value_in table b } ∷ s) (go (omega (arith, k)))

-- the substitution with which the table of an item fits each pattern whose tokens lead to the instruction and which has
-- as many variables as there are names, these called by the names
abbrev pub IsNamedSubst : Sig → List Instr → Tree → List (List ℕ) → Subst → (ℕ × Table) → Type 0
IsNamedSubst sig code t names s i = (q : Pattern) (r : Subst) → length (variables q) ≡ length names
    → In (i.0, tokens_of sig q) (lists (code_forest code)) → Fits sig q t r i.1 → s ≡ with_names names r

-- the values of an item's trail are those of the item's substitution
pub trail-named : (sig : Sig) (code : List Instr) (t : Tree) (terms : tables.Table) (trail : Trail)
    (names : List (List ℕ)) (i : ℕ × Table) → length names ≤ MAX_VARIABLES → IsNormal sig t
    → IsItemTrail sig code t terms trail i → IsNamedSubst sig code t names (subst_in terms (called names) trail) i
trail-named sig code t terms trail names i few normal fits q r count leaf given =
    let xs = variables q in
    let own = subst_in terms (called xs) trail in
    let f = fits q (omega (arith, count, few)) leaf in
    let both : Some r ≡ Some own = sym (fits-solves sig q t r i.1 normal given).1
    ∙ (fits-solves sig q t own i.1 normal f).1 in
    let same : own ≡ r = cc in
    let all : length own ≡ length xs = sym (length-map own (λ (b : Binding). b.name)) ∙ ap length f.subst_of.names in
    bindings-called terms trail.stack 0 xs names (sym count) all ∙ ap (with_names names) same
