-- The substitution at the end of the tokens of a pattern is the one with which the table fits the pattern.
use Rattle.std.proofs.Common.{◌≡◌, ℕ, zero, suc, ◌+◌, ◌<◌, ◌≤◌, List, [], ◌∷◌, ◌++◌, map, length, true, false}
use Rattle.std.proofs.Common.{refl, ap, sym, ◌∙◌, inl, inr, subst, arith}
use Rattle.std.specs.Prelude.{Option, Some, None, ◌^◌, slice_get, option_map, if◌then◌else◌}
use Rattle.std.specs.List.{AllByRecursion}
use Rattle.mp_term.specs.Listing.{In}
use Rattle.mp_term.specs.Normal.{IsNormal}
use Rattle.mp_term.specs.Signature.{Sig}
use Rattle.mp_term.specs.Tree.{Tree}
use Rattle.mp_term.proofs.ListingLaws.{all_in}
use Rattle.mp_term.proofs.SearchLaws.{in-map}
use Rattle.mp_pattern.specs.declared.limits.TheConstants.{MAX_VARIABLES}
use Rattle.mp_pattern.specs.Fits.{Table, Fits}
use Rattle.mp_pattern.specs.NetTokens.{number_in, numbered, renamed, tokens_of}
use Rattle.mp_pattern.specs.PatternTree.{Pattern}
use Rattle.mp_pattern.specs.Plan.{Variable}
use Rattle.mp_pattern.specs.Size.{pattern_nodes}
use Rattle.mp_pattern.specs.Value.{Value, Binding, Subst, value_of, same_name}
use Rattle.mp_pattern.specs.Variables.{Use, uses, variables}
use Rattle.mp_pattern.proofs.NameLaws.{same_name-itself}
use Rattle.mp_table.specs.Table as tables
use Rattle.mp_subst.specs.Bound.{Bound, value_in}
use Rattle.mp_subst.specs.Trail.{TrailEntry, Trail, last_value, bindings_from, subst_in}
use Rattle.mp_theory.specs.Frames.{Next, settle, start}
use Rattle.mp_theory.specs.OneList.{Item}
use Rattle.mp_theory.proofs.FirstsLaws.{Distinct, distinct-firsts}
use Rattle.mp_theory.proofs.FitsSolves.{solves-fits}
use Rattle.mp_theory.proofs.ItemLaws.{items-derivations}
use Rattle.mp_theory.proofs.ItemTables.{items-exact}
use Rattle.mp_theory.proofs.TrailLaws.{shape-tested}
use Rattle.mp_search.proofs.SubstLaws.{value_of-subst_from}
use Rattle.mp_search.proofs.NumberLaws.{in-slice_get}
use Rattle.mp_ac.specs.CommItems.{SameValues}
use Rattle.mp_walk.specs.TokenMachine.{begin_state, steps_by}
use Rattle.mp_ac.specs.Numbered.{name_of, numbered_subst}
use Rattle.mp_walk.proofs.ByRule.{searched, runs_kept}
use Rattle.mp_walk.proofs.Renaming.{new_name, new_subst, same_new, renamed-solved}
use Rattle.mp_ac.proofs.NumberedLaws.{name_of-less, name_of-only}
use Rattle.mp_walk.proofs.Walked.{items-read}

-- ---- the trail at the end of a run

-- the table fits with a substitution that the trail names by numbers
pub run-fits : (sig : Sig) (t : Tree) → IsNormal sig t → (q : Pattern) (few : length (variables q) < 2 ^ 64) (T : Table)
    (r : Subst) → In {X = Item} (T, r) (runs_kept (steps_by sig (searched sig)) (tokens_of sig q) (begin_state t) [])
    → (s : Subst) × Fits sig q t s T × (new_subst sig (variables q) few s ≡ r)
run-fits sig t normal q few T r i =
    let n : Next = settle (start (renamed (variables q) q) t) in
    let a = (items-exact sig (pattern_nodes q) (settle (start (renamed (variables q) q) t)) [] T r).0
    (subst (In {X = Item} (T, r)) (items-read sig (variables q) q t
    ∙ items-derivations sig (pattern_nodes q) (settle (start (renamed (variables q) q) t)) []) i) in
    let b = renamed-solved sig q t few T r
    ((shape-tested sig (settle (start (renamed (variables q) q) t)) T).1 a.1) a.2 in
    (b.0, solves-fits sig q t b.0 T normal b.1 b.2, b.3)

-- ---- variables by their numbers

got-below : {X : Type 0} (xs : List X) (j : ℕ) (x : X) → slice_get xs j ≡ Some x → j < length xs
got-below [] zero x e = cc
got-below [] (suc j) x e = cc
got-below (y ∷ xs) zero x e = omega arith
got-below (y ∷ xs) (suc j) x e = (let h = got-below xs j x e in omega (arith, h))

got-name : (s : Subst) (j : ℕ) (b : Binding) → slice_get s j ≡ Some b
    → slice_get (map (λ (c : Binding). c.name) s) j ≡ Some b.name
got-name [] zero b e = cc
got-name [] (suc j) b e = cc
got-name (c ∷ s) zero b e = (let q : c ≡ b = cc in ap (λ (z : Binding). Some z.name) q)
got-name (c ∷ s) (suc j) b e = got-name s j b e

number-at : (vs : List (List ℕ)) (j : ℕ) (x : List ℕ) → Distinct same_name vs → slice_get vs j ≡ Some x
    → number_in vs x ≡ j
number-at [] zero x d e = cc
number-at [] (suc j) x d e = cc
number-at (v ∷ vs) zero x d e =
    (let q : v ≡ x = cc in rw (ap (λ z. same_name z x) q ∙ same_name-itself x) refl)
number-at (v ∷ vs) (suc j) x d e =
    rw (all_in (λ y. same_name v y ≡ false) vs x d.0 (in-slice_get vs j x e))
    (let h = number-at vs j x d.1 e in omega (arith, h))

value-at : (s : Subst) (j : ℕ) (b : Binding) → Distinct same_name (map (λ (c : Binding). c.name) s)
    → slice_get s j ≡ Some b → value_of s b.name ≡ Some b.value
value-at [] zero b d e = cc
value-at [] (suc j) b d e = cc
value-at (c ∷ s) zero b d e =
    (let q : c ≡ b = cc in rw (ap (λ z. same_name z.name b.name) q ∙ same_name-itself b.name)
    (ap (λ (z : Binding). Some z.value) q))
value-at (c ∷ s) (suc j) b d e =
    rw (all_in (λ y. same_name c.name y ≡ false) (map (λ (z : Binding). z.name) s) b.name d.0
    (in-map (λ (z : Binding). z.name) b s (in-slice_get s j b e))) (value-at s j b d.1 e)

module _ (sig : Sig) (vs : List (List ℕ)) (few : length vs < 2 ^ 64) where
  -- a variable has the value that its new name has
  value-new : (s : Subst) (x : List ℕ) → AllByRecursion (λ (b : Binding). In b.name vs) s → In x vs
      → value_of (new_subst sig vs few s) (new_name sig vs few x) ≡ value_of s x
  value-new [] x k i = refl
  value-new (b ∷ s) x k i =
      rw (same_new sig vs few b.name x k.0 i) (elim (same_name b.name x) as
      (λ c. (if c then Some b.value else value_of (new_subst sig vs few s) (new_name sig vs few x))
      ≡ (if c then Some b.value else value_of s x)) [ true ↦ refl | false ↦ value-new s x k.1 i ])

-- the bindings of the variables are those of the substitution
bindings-same : (t : tables.Table) (es : List TrailEntry) (k : ℕ) (xs : List Variable) (s : Subst)
    → map (λ (b : Binding). b.name) s ≡ map (λ (x : Variable). x.name) xs
    → ((j : ℕ) (b : Binding) → slice_get s j ≡ Some b
    → option_map (value_in t) (last_value es (k + j)) ≡ Some b.value)
    → bindings_from t es k xs ≡ s
bindings-same t es k [] [] e h = refl
bindings-same t es k [] (b ∷ s) e h = cc
bindings-same t es k (x ∷ xs) [] e h = cc
bindings-same t es k (x ∷ xs) (b ∷ s) e h =
    let name : b.name ≡ x.name = cc in
    let rest : map (λ (b : Binding). b.name) s ≡ map (λ (x : Variable). x.name) xs = cc in
    let here : option_map (value_in t) (last_value es k) ≡ Some b.value =
    subst (λ n. option_map (value_in t) (last_value es n) ≡ Some b.value) (omega arith) (h 0 b refl) in
    ap (λ bs. bs ++ bindings_from t es (suc k) xs) (one (last_value es k) here name)
    ∙ ap (λ bs. b ∷ bs) (bindings-same t es (suc k) xs s rest
    (λ j c g. subst (λ n. option_map (value_in t) (last_value es n) ≡ Some c.value)
    (omega arith) (h (suc j) c g)))
  where
    one : (o : Option Bound) → option_map (value_in t) o ≡ Some b.value → b.name ≡ x.name
        → (elim o as (λ _. Subst) [ None ↦ [] | Some c ↦ record { name = x.name; value = value_in t c } ∷ [] ]) ≡ b ∷ []
    one None e n = cc
    one (Some c) e n =
        let v : value_in t c ≡ b.value = cc in
        ap (λ z. record { name = z; value = value_in t c } ∷ []) (sym n)
        ∙ ap (λ z. record { name = b.name; value = z } ∷ []) v

-- what is read from the trail for the variables of a pattern is the substitution that the trail names by numbers
pub trail-read : (sig : Sig) (q : Pattern) (few : length (variables q) < 2 ^ 64) → length (variables q) ≤ MAX_VARIABLES
    → (table : tables.Table) (u : Trail) (xs : List Variable) (s r : Subst)
    → map (λ (b : Binding). b.name) s ≡ variables q → map (λ (x : Variable). x.name) xs ≡ variables q
    → new_subst sig (variables q) few s ≡ r → SameValues (numbered_subst table u.stack) r
    → subst_in table xs u ≡ s
trail-read sig q few many table u xs s r names read e same =
    bindings-same table u.stack 0 xs s (names ∙ sym read)
    (λ j b g. subst (λ n. option_map (value_in table) (last_value u.stack n) ≡ Some b.value) (omega arith)
    (at j b g))
  where
    distinct : Distinct same_name (variables q)
    distinct = distinct-firsts same_name [] (map (λ (v : Use). v.name) (uses None q)) tt

    named : (b : Binding) → In b s → In b.name (variables q)
    named b i = subst (In b.name) names (in-map (λ (c : Binding). c.name) b s i)

    known-all : (r : Subst) → ((b : Binding) → In b r → In b.name (variables q))
        → AllByRecursion (λ (b : Binding). In b.name (variables q)) r
    known-all [] h = tt
    known-all (b ∷ r) h = (h b (inl refl), known-all r (λ c i. h c (inr i)))

    known : AllByRecursion (λ (b : Binding). In b.name (variables q)) s
    known = known-all s named

    at : (j : ℕ) (b : Binding) → slice_get s j ≡ Some b
        → option_map (value_in table) (last_value u.stack j) ≡ Some b.value
    at j b g =
        let here : slice_get (variables q) j ≡ Some b.name =
        subst (λ ns. slice_get ns j ≡ Some b.name) names (got-name s j b g) in
        let less = got-below (variables q) j b.name here in
        let number : number_in (variables q) b.name ≡ j = number-at (variables q) j b.name distinct here in
        let value : value_of (numbered_subst table u.stack) (numbered j) ≡ Some b.value =
        same (numbered j) ∙ ap (λ z. value_of z (numbered j)) (sym e)
        ∙ ap (λ n. value_of (new_subst sig (variables q) few s) (numbered n)) (sym number)
        ∙ value-new sig (variables q) few s b.name known (named b (in-slice_get s j b g))
        ∙ value-at s j b (subst (Distinct same_name) (sym names) distinct) g in
        through (last_value u.stack j)
        (sym (value_of-subst_from table name_of (numbered j) j (name_of-less j (omega (arith, less, many)))
        (λ v. name_of-only v j (omega (arith, less, many))) [] u.stack) ∙ value)
      where
        through : (o : Option Bound)
            → (elim o as (λ _. Option Value) [ None ↦ None | Some c ↦ Some (value_in table c) ]) ≡ Some b.value
            → option_map (value_in table) o ≡ Some b.value
        through None p = cc
        through (Some c) p = p
