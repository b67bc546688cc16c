-- An item is one over its own substitution, too.
use Rattle.std.proofs.Common.{◌≡◌, ℕ, zero, suc, List, [], ◌∷◌, map, true, false, refl, ap, sym, ◌∙◌, inl, inr, subst}
use Rattle.std.specs.Prelude.{Option, Some, None, option_map, option_and_then, if◌then◌else◌}
use Rattle.mp_term.specs.Order.{tree_cmp}
use Rattle.mp_term.specs.Search.{In}
use Rattle.mp_term.specs.Sorting.{sorted}
use Rattle.mp_term.specs.Signature.{Sig}
use Rattle.mp_term.proofs.SearchLaws.{in-map}
use Rattle.mp_pattern.specs.Fits.{Entry}
use Rattle.mp_pattern.specs.PatternTree.{symbol_pattern, app_pattern, wild_pattern}
use Rattle.mp_pattern.specs.Value.{Value, one, seq, bag, Subst, value_of, same_name, merge}
use Rattle.mp_pattern.proofs.NameLaws.{same_name-itself}
use Rattle.mp_theory.specs.Frames.{Next, ended, refused, child}
use Rattle.mp_theory.specs.Items.{items, items_by, behind}
use Rattle.mp_theory.specs.Kept.{IsKept, Keeps}
use Rattle.mp_theory.specs.Machine.{is_ended, onward, said}
use Rattle.mp_theory.specs.OneList.{Item}
use Rattle.mp_theory.specs.Solve.{bind, solve}
use Rattle.mp_theory.specs.Trail.{listed_by}
use Rattle.mp_theory.proofs.KeptValues.{item-by, item-goes_on, items-keep, kept-itself, kept-merge, keeps-then}
use Rattle.mp_theory.proofs.KeptValues.{solve-keeps}
use Rattle.mp_theory.proofs.Merging.{from_if, mapped, same_terms-sound, same_terms-complete}
use Rattle.mp_theory.proofs.ItemLaws.{in-items}
use Rattle.mp_theory.proofs.KnownTerms.{said-bound}

-- what a merge gave, and what has become of it, merges with what was merged to itself
kept-again : (w u k : Value) → IsKept u k → merge u w ≡ Some u → merge k w ≡ Some k
kept-again w (one t) (one q) h e = subst (λ z. merge (one z) w ≡ Some (one z)) h e
kept-again w (seq ts) (seq ks) h e = subst (λ z. merge (seq z) w ≡ Some (seq z)) h e
kept-again w (bag ts) (bag ks) h e = subst (λ z. merge (bag z) w ≡ Some (bag z)) h e
kept-again (bag ws) (bag ts) (seq ks) h e =
    ap (λ b. if b then Some (seq ks) else None)
    (same_terms-complete (sorted tree_cmp ks) (sorted tree_cmp ws)
    (sym h ∙ ap (sorted tree_cmp) (same_terms-sound ts ws (from_if _ _ (bag ts) e).0)))
kept-again (seq ws) (bag ts) (seq ks) h e = let wrong : seq ws ≡ bag ts = (from_if _ _ (bag ts) e).1 in cc
kept-again (one t) (bag ts) (seq ks) h e = cc
kept-again w (one t) (seq ks) h e = absurd h
kept-again w (one t) (bag ks) h e = absurd h
kept-again w (seq ts) (one q) h e = absurd h
kept-again w (seq ts) (bag ks) h e = absurd h
kept-again w (bag ts) (one q) h e = absurd h

merged-again : (v w u : Value) → merge v w ≡ Some u → merge u w ≡ Some u
merged-again (one t) (one s) u e =
    let a = from_if _ _ u e in
    subst (λ z. merge z (one s) ≡ Some z) a.1 (ap (λ b. if b then Some (one t) else None) a.0)
merged-again (seq ts) (seq ws) u e =
    let a = from_if _ _ u e in
    subst (λ z. merge z (seq ws) ≡ Some z) a.1 (ap (λ b. if b then Some (seq ts) else None) a.0)
merged-again (bag ts) (bag ws) u e =
    let a = from_if _ _ u e in
    subst (λ z. merge z (bag ws) ≡ Some z) a.1 (ap (λ b. if b then Some (bag ts) else None) a.0)
merged-again (seq ts) (bag ws) u e =
    let a = from_if _ _ u e in
    subst (λ z. merge z (bag ws) ≡ Some z) a.1 (ap (λ b. if b then Some (seq ts) else None) a.0)
merged-again (bag ts) (seq ws) u e =
    subst (λ z. merge z (seq ws) ≡ Some z) (from_if _ _ u e).1 (kept-merge (seq ws) (seq ws) refl)
merged-again (one t) (seq ws) u e = cc
merged-again (one t) (bag ws) u e = cc
merged-again (seq ts) (one s) u e = cc
merged-again (bag ts) (one s) u e = cc

-- what is bound has a value that merges with it to itself
pub bound-value : (s : Subst) (x : List ℕ) (w : Value) (r : Subst) → bind s x w ≡ Some r
    → (u : Value) × (value_of r x ≡ Some u) × (merge u w ≡ Some u)
bound-value [] x w r e =
    let q : record { name = x; value = w } ∷ [] ≡ r = cc in (
      w,
      subst (λ z. value_of z x ≡ Some w) q (ap (λ b. if b then Some w else None) (same_name-itself x)),
      kept-merge w w (kept-itself w),
    )
bound-value (b ∷ s) x w r e =
    elim (same_name b.name x) as (λ c. same_name b.name x ≡ c
    → (if c then option_map (λ u. record { name = b.name; value = u } ∷ s) (merge b.value w) else option_map
    (λ q. b ∷ q) (bind s x w)) ≡ Some r → (u : Value) × (value_of r x ≡ Some u) × (merge u w ≡ Some u)) [
      | true ↦ λ p q.
          let m = mapped (λ u. record { name = b.name; value = u } ∷ s) (merge b.value w) r q in (
            m.0,
            subst (λ z. value_of z x ≡ Some m.0) m.2 (ap (λ c. if c then Some m.0 else value_of s x) p),
            merged-again b.value w m.0 m.1,
          )
      | false ↦ λ p q.
          let m = mapped (λ z. b ∷ z) (bind s x w) r q in
          let n = bound-value s x w m.0 m.1 in (
            n.0,
            subst (λ z. value_of z x ≡ Some n.0) m.2
                (ap (λ c. if c then Some b.value else value_of m.0 x) p ∙ n.1),
            n.2,
          )
    ] refl e

-- a value that merges with that of the variable to itself is bound already
bind-nothing : (s : Subst) (x : List ℕ) (w u : Value) → value_of s x ≡ Some u → merge u w ≡ Some u
    → bind s x w ≡ Some s
bind-nothing [] x w u e m = cc
bind-nothing (b ∷ s) x w u e m =
    elim (same_name b.name x) as (λ c. same_name b.name x ≡ c → (if c then Some b.value else value_of s x) ≡ Some u
    → (if c then option_map (λ v. record { name = b.name; value = v } ∷ s) (merge b.value w) else option_map
    (λ q. b ∷ q) (bind s x w)) ≡ Some (b ∷ s)) [
      | true ↦ λ p q.
          let i : u ≡ b.value = cc in
          ap (option_map (λ v. record { name = b.name; value = v } ∷ s))
          (subst (λ z. merge z w ≡ Some z) i m)
      | false ↦ λ p q. ap (option_map (λ z. b ∷ z)) (bind-nothing s x w u q m)
    ] refl e

module _ (sig : Sig) where
  -- takes that were solved before are solved by what is kept
  solved-again : (n : Next) (e : Entry) (s r q : Subst) → solve sig s (said n e) ≡ Some r → Keeps r q
      → solve sig q (said n e) ≡ Some q
  solved-again ended e s r q h k = refl
  solved-again refused e s r q h k = refl
  solved-again (child (symbol_pattern m) f fs) e s r q h k = refl
  solved-again (child (app_pattern g ps) f fs) e s r q h k = refl
  solved-again (child (wild_pattern w None) f fs) e s r q h k = refl
  solved-again (child (wild_pattern w (Some x)) f fs) e s r q h k =
      let b = said-bound sig w x f fs e s r h in
      let v = bound-value s x b.0 r b.2 in
      let u = k x v.0 v.1 in
      ap (λ (o : Option Value). option_and_then (λ g. option_and_then (λ z. Some z) (bind q x g)) o) b.1
      ∙ ap (λ (o : Option Subst). option_and_then (λ z. Some z) o)
      (bind-nothing q x b.0 u.0 u.1 (kept-again b.0 v.0 u.0 u.2 v.2))

  -- an item is one over its own substitution
  items-again : (k : ℕ) (n : Next) (s : Subst) (i : Item) → In i (items sig k n s) → In i (items sig k n i.1)
  items-again zero n s i h =
      elim (is_ended n) as (λ b. In i (if b then ([], s) ∷ [] else []) → In i (if b then ([], i.1) ∷ [] else [])) [
        | true ↦ λ m. elim m [ inl e ↦ inl (ap {B = Item} (λ j. (j.0, i.1)) e) | inr j ↦ absurd j ]
        | false ↦ λ m. absurd m
      ] h
  items-again (suc k) n s i h =
      let g = item-goes_on sig k n s i h in
      let e : Entry = g.0 in
      let rest = g.3.rest in
      subst (λ T. In {X = Item} (T, i.1) (items sig (suc k) n i.1)) (sym g.2)
      (in-items sig k n i.1 e g.1 i.1 (record {
        choice = g.3.choice;
        after = i.1;
        bound = solved-again n e s g.3.after i.1 g.3.bound
            (items-keep sig k (onward n e) g.3.after (g.1, i.1) rest);
        rest = items-again k (onward n e) g.3.after (g.1, i.1) rest;
      }))

  -- so it is with one that goes on with an entry
  pub item-again : (k : ℕ) (n : Next) (s : Subst) (e : Entry) (i : Item) → In i (items_by sig k n s e)
      → Keeps s i.1 × In i (items_by sig k n i.1 e)
  item-again k n s e i h =
      let b = item-by sig k n s e i h in
      let r : Subst = b.2.0 in
      let kept = items-keep sig k (onward n e) r (b.0, i.1) b.2.2 in (
        keeps-then s r i.1 (solve-keeps sig s (said n e) r b.2.1) kept,
        subst (λ T. In {X = Item} (T, i.1) (items_by sig k n i.1 e)) (sym b.1)
            (subst (λ o. In {X = Item} (e ∷ b.0, i.1)
            (map (behind e) (listed_by (λ q. items sig k (onward n e) q) o)))
            (sym (solved-again n e s r i.1 b.2.1 kept))
            (in-map (behind e) (b.0, i.1) (items sig k (onward n e) i.1)
            (items-again k (onward n e) r (b.0, i.1) b.2.2))),
      )
