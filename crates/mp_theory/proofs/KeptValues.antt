-- The values of a substitution stay while a search goes on, but that a multiset may become a tuple with its terms.
use Rattle.std.proofs.Common.{◌≡◌, ℕ, zero, suc, List, [], ◌∷◌, Bool, true, false, refl, ap, sym, ◌∙◌, inl, inr, subst}
use Rattle.std.specs.Prelude.{Option, Some, None, filter, option_map, option_and_then, if◌then◌else◌}
use Rattle.std.specs.Ordering.{is_eq}
use Rattle.std.proofs.lemmas.Cmp.{tied_itself}
use Rattle.mp_term.specs.Search.{In}
use Rattle.mp_term.specs.Order.{tree_cmp}
use Rattle.mp_term.specs.OrderLaws.{tree_cmp_total}
use Rattle.mp_term.specs.Sorting.{sorted}
use Rattle.mp_term.specs.Signature.{Sig}
use Rattle.mp_term.proofs.SearchLaws.{from_in-flat, from_in-map}
use Rattle.mp_pattern.specs.Value.{Value, one, seq, bag, form_of, Subst, value_of, same_name, merge}
use Rattle.mp_pattern.specs.CondTree.{Cond}
use Rattle.mp_pattern.specs.Admission.{meets}
use Rattle.mp_pattern.specs.Fits.{Entry, Table}
use Rattle.mp_theory.specs.Solve.{Taken, bind, given, solve}
use Rattle.mp_theory.specs.Frames.{Next}
use Rattle.mp_theory.specs.Machine.{is_ended, onward, said, choices}
use Rattle.mp_theory.specs.OneList.{Item}
use Rattle.mp_theory.specs.Trail.{listed_by}
use Rattle.mp_theory.specs.Items.{items, items_by, behind}
use Rattle.mp_theory.specs.Kept.{IsKept, Keeps}
use Rattle.mp_theory.proofs.Merging.{from_if, mapped, same_terms-sound, same_terms-complete}
use Rattle.mp_theory.proofs.Solving.{then_some}
use Rattle.mp_theory.proofs.ItemLaws.{GoesOn, from_in-items_by}

pub kept-itself : (v : Value) → IsKept v v
kept-itself (one t) = refl
kept-itself (seq ts) = refl
kept-itself (bag ts) = refl

pub kept-then : (v u w : Value) → IsKept v u → IsKept u w → IsKept v w
kept-then (one t) (one s) (one r) h k = h ∙ k
kept-then (seq ts) (seq ss) (seq rs) h k = h ∙ k
kept-then (bag ts) (bag ss) (bag rs) h k = h ∙ k
kept-then (bag ts) (bag ss) (seq rs) h k = ap (sorted tree_cmp) h ∙ k
kept-then (bag ts) (seq ss) (seq rs) h k = h ∙ ap (sorted tree_cmp) k
kept-then (one t) (one s) (seq rs) h k = absurd k
kept-then (one t) (one s) (bag rs) h k = absurd k
kept-then (one t) (seq ss) w h k = absurd h
kept-then (one t) (bag ss) w h k = absurd h
kept-then (seq ts) (one s) w h k = absurd h
kept-then (seq ts) (bag ss) w h k = absurd h
kept-then (seq ts) (seq ss) (one r) h k = absurd k
kept-then (seq ts) (seq ss) (bag rs) h k = absurd k
kept-then (bag ts) (one s) w h k = absurd h
kept-then (bag ts) (bag ss) (one r) h k = absurd k
kept-then (bag ts) (seq ss) (one r) h k = absurd k
kept-then (bag ts) (seq ss) (bag rs) h k = absurd k

-- a value that is kept in its form is the same
pub kept-form : (v u : Value) → IsKept v u → form_of u ≡ form_of v → u ≡ v
kept-form (one t) (one s) h e = ap one (sym h)
kept-form (seq ts) (seq ss) h e = ap seq (sym h)
kept-form (bag ts) (bag ss) h e = ap bag (sym h)
kept-form (bag ts) (seq ss) h e = cc
kept-form (one t) (seq ss) h e = absurd h
kept-form (one t) (bag ss) h e = absurd h
kept-form (seq ts) (one s) h e = absurd h
kept-form (seq ts) (bag ss) h e = absurd h
kept-form (bag ts) (one s) h e = absurd h

-- a merge keeps the value
pub merge-kept : (v w u : Value) → merge v w ≡ Some u → IsKept v u
merge-kept (one t) (one s) u e = subst (IsKept (one t)) (from_if _ _ u e).1 refl
merge-kept (seq ts) (seq ss) u e = subst (IsKept (seq ts)) (from_if _ _ u e).1 refl
merge-kept (bag ts) (bag ss) u e = subst (IsKept (bag ts)) (from_if _ _ u e).1 refl
merge-kept (seq ts) (bag ss) u e = subst (IsKept (seq ts)) (from_if _ _ u e).1 refl
merge-kept (bag ts) (seq ss) u e = let k = from_if _ _ u e in
    subst (IsKept (bag ts)) k.1 (same_terms-sound (sorted tree_cmp ts) (sorted tree_cmp ss) k.0)
merge-kept (one t) (seq ss) u e = cc
merge-kept (one t) (bag ss) u e = cc
merge-kept (seq ts) (one s) u e = cc
merge-kept (bag ts) (one s) u e = cc

pub keeps-itself : (s : Subst) → Keeps s s
keeps-itself s x v e = (v, e, kept-itself v)

pub keeps-then : (s q r : Subst) → Keeps s q → Keeps q r → Keeps s r
keeps-then s q r h k x v e =
    let a = h x v e in
    let b = k x a.0 a.1 in
    (b.0, b.1, kept-then v a.0 b.0 a.2 b.2)

-- binding keeps the values
pub bind-keeps : (s : Subst) (y : List ℕ) (w : Value) (r : Subst) → bind s y w ≡ Some r → Keeps s r
bind-keeps [] y w r e x v h = cc
bind-keeps (b ∷ s) y w r e x v h =
    elim (same_name b.name y) as (λ c. same_name b.name y ≡ c
    → (if c then option_map (λ u. record { name = b.name; value = u } ∷ s) (merge b.value w) else option_map
    (λ q. b ∷ q) (bind s y w)) ≡ Some r → (u : Value) × (value_of r x ≡ Some u) × IsKept v u) [
      | true ↦ λ p q.
          let m = mapped (λ u. record { name = b.name; value = u } ∷ s) (merge b.value w) r q in
          subst (λ z. (u : Value) × (value_of z x ≡ Some u) × IsKept v u) m.2
          (elim (same_name b.name x) as (λ c. (if c then Some b.value else value_of s x) ≡ Some v
          → (u : Value) × ((if c then Some m.0 else value_of s x) ≡ Some u) × IsKept v u) [
            | true ↦ λ g. (let i : b.value ≡ v = cc in
                (m.0, refl, subst (λ z. IsKept z m.0) i (merge-kept b.value w m.0 m.1)))
            | false ↦ λ g. (v, g, kept-itself v)
          ] h)
      | false ↦ λ p q.
          let m = mapped (λ z. b ∷ z) (bind s y w) r q in
          subst (λ z. (u : Value) × (value_of z x ≡ Some u) × IsKept v u) m.2
          (elim (same_name b.name x) as (λ c. (if c then Some b.value else value_of s x) ≡ Some v
          → (u : Value) × ((if c then Some b.value else value_of m.0 x) ≡ Some u) × IsKept v u) [
            | true ↦ λ g. (v, g, kept-itself v)
            | false ↦ λ g. bind-keeps s y w m.0 m.1 x v g
          ] h)
    ] refl e

module _ (sig : Sig) where
  -- so do takes that are solved
  pub solve-keeps : (s : Subst) (ts : List Taken) (r : Subst) → solve sig s ts ≡ Some r → Keeps s r
  solve-keeps s [] r e = let q : s ≡ r = cc in subst (Keeps s) q (keeps-itself s)
  solve-keeps s (t ∷ ts) r e =
      let a = then_some (λ w. option_and_then (λ q. solve sig q ts) (bind s t.by.name w))
      (given sig t.by.under t.by.wildcard t.terms) r e in
      let b = then_some (λ q. solve sig q ts) (bind s t.by.name a.0) r a.2 in
      keeps-then s b.0 r (bind-keeps s t.by.name a.0 b.0 b.1) (solve-keeps b.0 ts r b.2)

  -- an item that goes on with an entry has the entry, and its take is bound
  pub item-by : (k : ℕ) (n : Next) (s : Subst) (e : Entry) (i : Item) → In i (items_by sig k n s e)
      → (T : Table) × (i.0 ≡ e ∷ T) × ((q : Subst) × (solve sig s (said n e) ≡ Some q)
      × In {X = Item} (T, i.1) (items sig k (onward n e) q))
  item-by k n s e i h =
      let b = from_in-map (behind e) i (listed_by (λ r. items sig k (onward n e) r) (solve sig s (said n e))) h in
      let c = from_in-items_by sig k n s e e b.0.0 b.0.1 (subst (λ j. In j (items_by sig k n s e)) b.1 h) in (
        b.0.0,
        ap (λ j. j.0) b.1,
        subst (λ r. (q : Subst) × (solve sig s (said n e) ≡ Some q)
            × In {X = Item} (b.0.0, r) (items sig k (onward n e) q)) (sym (ap (λ j. j.1) b.1)) c.1,
      )

  -- an item of one entry or more
  pub item-goes_on : (k : ℕ) (n : Next) (s : Subst) (i : Item) → In i (items sig (suc k) n s)
      → (e : Entry) × (T : Table) × (i.0 ≡ e ∷ T) × GoesOn sig k n s e T i.1
  item-goes_on k n s i h =
      let a = from_in-flat (items_by sig k n s) i (choices sig n) h in
      let b = item-by k n s a.0 i a.2 in
      (a.0, b.0, b.1, record { choice = a.1; after = b.2.0; bound = b.2.1; rest = b.2.2 })

  -- and the items that come
  pub items-keep : (k : ℕ) (n : Next) (s : Subst) (i : Item) → In i (items sig k n s) → Keeps s i.1
  items-keep zero n s i h =
      elim (is_ended n) as (λ b. In i (if b then ([], s) ∷ [] else []) → Keeps s i.1) [
        | true ↦ λ m. elim m [
          | inl e ↦ subst (Keeps s) (sym (ap (λ j. j.1) e)) (keeps-itself s)
          | inr j ↦ absurd j
        ]
        | false ↦ λ m. absurd m
      ] h
  items-keep (suc k) n s i h =
      let g = item-goes_on k n s i h in
      keeps-then s g.3.after i.1 (solve-keeps s (said n g.0) g.3.after g.3.bound)
      (items-keep k (onward n g.0) g.3.after (g.1, i.1) g.3.rest)

-- a value that is kept merges with what it has become
pub kept-merge : (v u : Value) → IsKept v u → merge v u ≡ Some u
kept-merge (one t) (one s) h =
    subst (λ r. merge (one t) (one r) ≡ Some (one r)) h
    (ap (λ o. if is_eq o then Some (one t) else None) (tied_itself tree_cmp_total t))
kept-merge (seq ts) (seq us) h = subst (λ r. merge (seq ts) (seq r) ≡ Some (seq r)) h
    (ap (λ b. if b then Some (seq ts) else None) (same_terms-complete ts ts refl))
kept-merge (bag ts) (bag us) h = subst (λ r. merge (bag ts) (bag r) ≡ Some (bag r)) h
    (ap (λ b. if b then Some (bag ts) else None) (same_terms-complete ts ts refl))
kept-merge (bag ts) (seq us) h =
    ap (λ b. if b then Some (seq us) else None) (same_terms-complete (sorted tree_cmp ts) (sorted tree_cmp us) h)
kept-merge (one t) (seq us) h = absurd h
kept-merge (one t) (bag us) h = absurd h
kept-merge (seq ts) (one s) h = absurd h
kept-merge (seq ts) (bag us) h = absurd h
kept-merge (bag ts) (one s) h = absurd h

-- nothing is kept of what fails
pub filter-none : {X : Type 0} (p : X → Bool) (xs : List X) → ((x : X) → In x xs → p x ≡ false) → filter p xs ≡ []
filter-none p [] h = refl
filter-none p (x ∷ xs) h = ap (λ b. if b then x ∷ filter p xs else filter p xs) (h x (inl refl))
    ∙ filter-none p xs (λ y i. h y (inr i))

-- a condition that fails of all that keeps the values fails of each item
pub conditions-early : (sig : Sig) (c : Option Cond) (k : ℕ) (n : Next) (s : Subst)
    → ((i : Item) → In i (items sig k n s) → Keeps s i.1 → meets sig c i.1 ≡ false)
    → filter (λ i. meets sig c i.1) (items sig k n s) ≡ []
conditions-early sig c k n s h =
    filter-none (λ i. meets sig c i.1) (items sig k n s) (λ i m. h i m (items-keep sig k n s i m))
