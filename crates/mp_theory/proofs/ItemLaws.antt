-- The items from a place on are the derivations; and what an item says of its first entry.
use Rattle.std.proofs.Common.{◌≡◌, ℕ, zero, suc, List, [], ◌∷◌, ◌++◌, map, true, false, refl, ap, sym, ◌∙◌}
use Rattle.std.proofs.Common.{append_assoc, append-nil, subst}
use Rattle.std.specs.Prelude.{Option, Some, None, flat_map, filter, if◌then◌else◌}
use Rattle.mp_term.specs.Search.{In}
use Rattle.mp_term.specs.Tree.{Tree}
use Rattle.mp_term.specs.Signature.{Sig}
use Rattle.mp_term.proofs.SearchLaws.{in-flat, from_in-flat, in-map, from_in-map, flat_map-same}
use Rattle.mp_pattern.specs.Fits.{Entry, Table}
use Rattle.mp_pattern.specs.Size.{pattern_nodes}
use Rattle.mp_pattern.specs.Value.{Subst}
use Rattle.mp_pattern.specs.Admission.{Rule, meets}
use Rattle.mp_pattern.specs.Firsts.{firsts_after}
use Rattle.mp_theory.specs.Solve.{solve}
use Rattle.mp_theory.specs.Frames.{Next, settle, start}
use Rattle.mp_theory.specs.Machine.{is_ended, onward, said, choices}
use Rattle.mp_theory.specs.OneList.{Item, item_list, same_item}
use Rattle.mp_theory.specs.Trail.{derivations, listed_by}
use Rattle.mp_theory.specs.Items.{items, items_by, behind, LeadsTo}
use Rattle.mp_theory.proofs.SubBags.{map-flat}
use Rattle.mp_theory.proofs.TrailLaws.{item_list-by_derivations}

-- the item with the entries in front of its table
abbrev pub front : Table → Item → Item
front T i = (T ++ i.0, i.1)

front-behind : (T : Table) (e : Entry) (is : List Item)
    → map (front (T ++ e ∷ [])) is ≡ map (front T) (map (behind e) is)
front-behind T e [] = refl
front-behind T e (i ∷ is) = ap (λ W. (W, i.1) ∷ map (front (T ++ e ∷ [])) is) (append_assoc T (e ∷ []) i.0)
    ∙ ap (λ js. (T ++ (e ∷ i.0), i.1) ∷ js) (front-behind T e is)

front-none : (is : List Item) → map (front []) is ≡ is
front-none [] = refl
front-none (i ∷ is) = ap (λ js. i ∷ js) (front-none is)

-- nothing is in what nothing lists
pub in-listed_by : {A B : Type 0} (f : A → List B) (o : Option A) (y : B) → In y (listed_by f o)
    → (x : A) × (o ≡ Some x) × In y (f x)
in-listed_by f None y h = absurd h
in-listed_by f (Some x) y h = (x, refl, h)

module _ (sig : Sig) where
  -- derivations behind a table so far are the items with it in front
  pub derivations-items : (k : ℕ) (n : Next) (T : Table) (s : Subst)
      → derivations sig k n T s ≡ map (front T) (items sig k n s)
  derivations-items zero n T s =
      elim (is_ended n) as
      (λ b. (if b then (T, s) ∷ [] else []) ≡ map (front T) (if b then ([], s) ∷ [] else []))
      [ true ↦ ap (λ W. (W, s) ∷ []) (sym (append-nil T)) | false ↦ refl ]
  derivations-items (suc k) n T s =
      flat_map-same (λ e. listed_by (λ r. derivations sig k (onward n e) (T ++ e ∷ []) r) (solve sig s (said n e)))
      (λ e. map (front T) (items_by sig k n s e)) (choices sig n) (λ e i.
      elim (solve sig s (said n e)) as
      (λ o. listed_by (λ r. derivations sig k (onward n e) (T ++ e ∷ []) r) o
      ≡ map (front T) (map (behind e) (listed_by (λ r. items sig k (onward n e) r) o))) [
        | None ↦ refl
        | Some r ↦ derivations-items k (onward n e) (T ++ e ∷ []) r ∙ front-behind T e (items sig k (onward n e) r)
      ])
      ∙ sym (map-flat (front T) (items_by sig k n s) (choices sig n))

  -- so from an empty table on they are the items
  pub items-derivations : (k : ℕ) (n : Next) (s : Subst) → derivations sig k n [] s ≡ items sig k n s
  items-derivations k n s = derivations-items k n [] s ∙ front-none (items sig k n s)

  -- the items of a rule are those from the start under which the condition holds, each substitution once
  pub item_list-items : (r : Rule) (t : Tree)
      → item_list sig r t ≡ firsts_after same_item []
      (filter (λ i. meets sig r.condition i.1)
      (items sig (pattern_nodes r.pattern) (settle (start r.pattern t)) []))
  item_list-items r t = item_list-by_derivations sig r t
      ∙ ap (λ is. firsts_after same_item [] (filter (λ i. meets sig r.condition i.1) is))
      (items-derivations (pattern_nodes r.pattern) (settle (start r.pattern t)) [])

  -- what an item says of its first entry: it may stand next, its take is bound, and the others go on
  pub record GoesOn (k : ℕ) (n : Next) (s : Subst) (e : Entry) (T : Table) (r : Subst) : Type 0 where
    pub choice : In e (choices sig n)
    pub after : Subst
    pub bound : solve sig s (said n e) ≡ Some after
    pub rest : In {X = Item} (T, r) (items sig k (onward n e) after)

  -- an item that goes on with an entry begins with it
  pub from_in-items_by : (k : ℕ) (n : Next) (s : Subst) (d e : Entry) (T : Table) (r : Subst)
      → In {X = Item} (e ∷ T, r) (items_by sig k n s d)
      → (e ≡ d) × ((q : Subst) × (solve sig s (said n d) ≡ Some q) × In {X = Item} (T, r) (items sig k (onward n d) q))
  from_in-items_by k n s d e T r h =
      let m = from_in-map (behind d) (e ∷ T, r) (listed_by (λ q. items sig k (onward n d) q) (solve sig s (said n d)))
      h in
      let l = in-listed_by (λ q. items sig k (onward n d) q) (solve sig s (said n d)) m.0 m.2 in
      let q : e ∷ T ≡ d ∷ m.0.0 = ap (λ i. i.0) m.1 in
      let same : (T, r) ≡ m.0 = item_same (T, r) m.0 (tail_same q) (ap (λ i. i.1) m.1) in
      (head_same q, (l.0, l.1, subst (λ i. In i (items sig k (onward n d) l.0)) (sym same) l.2))
    where
      head_same : {c d : Entry} {V W : Table} → c ∷ V ≡ d ∷ W → c ≡ d
      head_same q = cc

      tail_same : {c d : Entry} {V W : Table} → c ∷ V ≡ d ∷ W → V ≡ W
      tail_same q = cc

      item_same : (i j : Item) → i.0 ≡ j.0 → i.1 ≡ j.1 → i ≡ j
      item_same i j p q = ap (λ V. (V, i.1)) p ∙ ap (λ u. (j.0, u)) q

  -- so the entries that lead to an item have its first entry
  pub in-leads : (k : ℕ) (n : Next) (s : Subst) (es ds : List Entry) (e : Entry) (T : Table) (r : Subst)
      → LeadsTo sig n s es ds → In {X = Item} (e ∷ T, r) (flat_map (items_by sig k n s) ds) → In e es
  in-leads k n s es ds e T r h i =
      let a = from_in-flat (items_by sig k n s) (e ∷ T, r) es
      (subst (λ is. In {X = Item} (e ∷ T, r) is) (sym (h k)) i) in
      subst (λ d. In d es) (sym (from_in-items_by k n s a.0 e T r a.2).0) a.1

  pub from_in-items : (k : ℕ) (n : Next) (s : Subst) (e : Entry) (T : Table) (r : Subst)
      → In {X = Item} (e ∷ T, r) (items sig (suc k) n s) → GoesOn k n s e T r
  from_in-items k n s e T r h =
      let a = from_in-flat (items_by sig k n s) (e ∷ T, r) (choices sig n) h in
      let b = from_in-items_by k n s a.0 e T r a.2 in
      subst (λ d. GoesOn k n s d T r) (sym b.0)
      (record { choice = a.1; after = b.1.0; bound = b.1.1; rest = b.1.2 })

  pub in-items : (k : ℕ) (n : Next) (s : Subst) (e : Entry) (T : Table) (r : Subst) → GoesOn k n s e T r
      → In {X = Item} (e ∷ T, r) (items sig (suc k) n s)
  in-items k n s e T r h =
      in-flat (items_by sig k n s) e (e ∷ T, r) (choices sig n) h.choice
      (subst (λ o. In {X = Item} (e ∷ T, r) (map (behind e) (listed_by (λ q. items sig k (onward n e) q) o)))
      (sym h.bound) (in-map (behind e) (T, r) (items sig k (onward n e) h.after) h.rest))
