-- Which choices lead to all that comes: those that have items.
use Rattle.std.proofs.Common.{◌≡◌, ℕ, List, [], ◌∷◌, Bool, true, false, refl, ap, sym, ◌∙◌}
use Rattle.std.proofs.Common.{inl}
use Rattle.std.specs.Prelude.{flat_map, filter}
use Rattle.std.specs.List.Sorted.{IsStrictlySortedBy}
use Rattle.std.proofs.lemmas.List.Kept.{IsStrictlySortedBy-filter}
use Rattle.mp_term.specs.Signature.{Sig}
use Rattle.mp_term.specs.Search.{In}
use Rattle.mp_term.proofs.ListingLaws.{same_members}
use Rattle.mp_term.proofs.SearchLaws.{in-filter, from_in-filter}
use Rattle.mp_pattern.specs.Value.{Subst}
use Rattle.mp_pattern.specs.Fits.{Entry}
use Rattle.mp_pattern.specs.DerivationOrder.{entry_cmp}
use Rattle.mp_theory.specs.Frames.{Next}
use Rattle.mp_theory.specs.Machine.{choices}
use Rattle.mp_theory.specs.OneList.{Item}
use Rattle.mp_theory.specs.Items.{items_by, LeadsTo}
use Rattle.mp_theory.proofs.Tables.{entry_cmp_total, choices-ascending}
use Rattle.mp_theory.proofs.CursorLaws.{pruned}

-- there is something in the list
is_something : {X : Type 0} → List X → Bool
is_something [] = false
is_something (x ∷ xs) = true

something-nothing : {X : Type 0} (xs : List X) → is_something xs ≡ false → xs ≡ []
unfolding is_something
something-nothing [] h = refl
something-nothing (x ∷ xs) h = cc

something-in : {X : Type 0} (xs : List X) → is_something xs ≡ true → (x : X) × In x xs
unfolding is_something
something-in [] h = cc
something-in (x ∷ xs) h = (x, inl refl)

module _ (sig : Sig) where
  -- ascending choices lead to all that comes where they have each choice with an item
  pub leads-items : (n : Next) (s : Subst) (es : List Entry) → IsStrictlySortedBy entry_cmp es
      → ((e : Entry) → In e es → In e (choices sig n))
      → ((k : ℕ) (e : Entry) (i : Item) → In e (choices sig n) → In i (items_by sig k n s e) → In e es)
      → LeadsTo sig n s es (choices sig n)
  leads-items n s es up sub all k =
      let f = items_by sig k n s in
      let keep = λ (e : Entry). is_something (f e) in
      let cs = choices sig n in
      sym (pruned keep f es (λ e i q. something-nothing (f e) q))
      ∙ ap (flat_map f)
      (same_members entry_cmp entry_cmp_total (filter keep es) (filter keep cs)
      (IsStrictlySortedBy-filter entry_cmp keep es up)
      (IsStrictlySortedBy-filter entry_cmp keep cs (choices-ascending sig n))
      (λ e i. let j = from_in-filter keep e es i in in-filter keep e cs (sub e j.0) j.1)
      (λ e i. let j = from_in-filter keep e cs i in let m = something-in (f e) j.1 in
      in-filter keep e es (all k e m.0 j.0 m.1) j.1))
      ∙ pruned keep f cs (λ e i q. something-nothing (f e) q)
