-- Which tables the items have: those that are accepted from the place on and whose takes are solved.
use Rattle.std.proofs.Common.{◌≡◌, ℕ, List, [], ◌∷◌, true, refl, ap, sym, ◌∙◌, inl, inr, subst, length}
use Rattle.std.specs.Prelude.{Option, Some, None, ◌↔◌, filter_map, option_map}
use Rattle.std.specs.List.{cons_option}
use Rattle.mp_term.specs.Search.{In, words}
use Rattle.mp_term.specs.Signature.{Sig}
use Rattle.mp_term.proofs.SearchLaws.{words-sound, words-complete}
use Rattle.mp_pattern.specs.PatternTree.{Pattern}
use Rattle.mp_pattern.specs.Order.{is_ground}
use Rattle.mp_pattern.specs.Value.{Subst}
use Rattle.mp_pattern.specs.Fits.{Entry, Table}
use Rattle.mp_theory.specs.Solve.{solve}
use Rattle.mp_theory.specs.Frames.{Frame, Next, child}
use Rattle.mp_theory.specs.Machine.{is_ended, onward, takes, choices}
use Rattle.mp_theory.specs.OneList.{Item}
use Rattle.mp_theory.specs.Trail.{has_shape}
use Rattle.mp_theory.specs.Items.{items, items_by}
use Rattle.mp_theory.specs.Bounds.{ground_tree}
use Rattle.mp_theory.proofs.Merging.{mapped}
use Rattle.mp_theory.proofs.Walk.{IsFineAt}
use Rattle.mp_theory.proofs.Ground.{ground-own}
use Rattle.mp_theory.proofs.TrailLaws.{shape-tested}
use Rattle.mp_theory.proofs.KeptValues.{item-by}
use Rattle.mp_theory.proofs.SecondSearch.{pair, items-is}

-- what `filter_map` keeps, both ways
in-filter_map : {X Y : Type 0} (h : X → Option Y) (x : X) (y : Y) (xs : List X) → In x xs → h x ≡ Some y
    → In y (filter_map h xs)
in-filter_map h x y [] i e = absurd i
in-filter_map h x y (z ∷ xs) (inl q) e =
    subst (λ o. In y (cons_option o (filter_map h xs))) (sym (sym (ap h q) ∙ e)) (inl refl)
in-filter_map h x y (z ∷ xs) (inr i) e = elim (h z) as (λ o. In y (cons_option o (filter_map h xs)))
    [ None ↦ in-filter_map h x y xs i e | Some u ↦ inr (in-filter_map h x y xs i e) ]

from_in-filter_map : {X Y : Type 0} (h : X → Option Y) (y : Y) (xs : List X) → In y (filter_map h xs)
    → (x : X) × In x xs × (h x ≡ Some y)
from_in-filter_map h y [] i = absurd i
from_in-filter_map {X = X} h y (z ∷ xs) i =
    elim (h z) as (λ o. h z ≡ o → In y (cons_option o (filter_map h xs)) → (x : X) × In x (z ∷ xs) × (h x ≡ Some y)) [
      | None ↦ λ e j. let r = from_in-filter_map h y xs j in (r.0, inr r.1, r.2)
      | Some u ↦ λ e j. elim j [
        | inl q ↦ (z, inl refl, e ∙ ap Some (sym q))
        | inr m ↦ (let r = from_in-filter_map h y xs m in (r.0, inr r.1, r.2))
      ]
    ] refl i

module _ (sig : Sig) where
  -- the items have exactly the tables of k entries that are accepted and solved, each with what solves it
  pub items-exact : (k : ℕ) (n : Next) (s : Subst) (W : Table) (r : Subst) → In {X = Item} (W, r) (items sig k n s)
      ↔ ((length W ≡ k) × (has_shape sig n W ≡ true) × (solve sig s (takes n W) ≡ Some r))
  items-exact k n s W r =
      let give = λ (V : Table). option_map (pair V) (solve sig s (takes n V)) in
      let ws = words (choices sig) onward is_ended k n in (
        λ i.
            let a = from_in-filter_map give (W, r) ws
            (subst (λ is. In {X = Item} (W, r) is) (items-is sig k n s) i) in
            let b = mapped (pair a.0) (solve sig s (takes n a.0)) (W, r) a.2 in
            let same : a.0 ≡ W = ap (λ j. j.0) b.2 in
            let w = words-sound (choices sig) onward is_ended k n a.0 a.1 in (
              ap (λ V. length V) (sym same) ∙ w.0,
              subst (λ V. has_shape sig n V ≡ true) same ((shape-tested sig n a.0).0 w.1),
              subst (λ V. solve sig s (takes n V) ≡ Some r) same (b.1 ∙ ap (λ j. Some j.1) b.2),
            ),
        λ h.
            subst (λ is. In {X = Item} (W, r) is) (sym (items-is sig k n s))
            (in-filter_map give W (W, r) ws
            (subst (λ m. In W (words (choices sig) onward is_ended m n)) h.0
            (words-complete (choices sig) onward is_ended n W ((shape-tested sig n W).1 h.1)))
            (ap (option_map (pair W)) h.2)),
      )

  -- a ground child takes its own term only, where what is left is normal
  pub ground-taken : (k : ℕ) (p : Pattern) (f : Frame) (fs : List Frame) (s : Subst) (e : Entry) (i : Item)
      → is_ground p ≡ true → IsFineAt sig (child p f fs) → In e (choices sig (child p f fs))
      → In i (items_by sig k (child p f fs) s e) → e.terms ≡ ground_tree sig p ∷ []
  ground-taken k p f fs s e i g fine c h =
      let b = item-by sig k (child p f fs) s e i h in
      let a = (items-exact k (onward (child p f fs) e) b.2.0 b.0 i.1).0 b.2.2 in
      ground-own sig p f fs e b.0 g fine (c, (shape-tested sig (onward (child p f fs) e) b.0).1 a.1)
