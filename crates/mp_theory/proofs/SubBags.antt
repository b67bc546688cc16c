-- The sub-multisets of an ascending list; and pieces of classes in place of pieces of terms.
use Rattle.std.proofs.Common.{◌≡◌, ℕ, zero, suc, List, [], ◌∷◌, ◌++◌, map, length, Bool, true, false, refl, ap, sym}
use Rattle.std.proofs.Common.{◌∙◌}
use Rattle.std.specs.Prelude.{if◌then◌else◌, flat_map, ◌↔◌}
use Rattle.std.specs.declared.cmp.Ordering.{Ordering}
use Rattle.std.specs.declared.cmp.Ordering.TheVariants.{Less, Equal, Greater}
use Rattle.std.specs.Ordering.{is_eq}
use Rattle.std.specs.List.{AllByRecursion}
use Rattle.std.proofs.lemmas.List.{map-append, length-map}
use Rattle.std.proofs.lemmas.List.Folds.{flat_map-map}
use Rattle.mp_term.specs.Tree.{Tree}
use Rattle.mp_term.specs.Order.{tree_cmp}
use Rattle.mp_term.specs.OrderLaws.{tree_cmp_total, tree_same}
use Rattle.mp_term.specs.Sorting.{sorted}
use Rattle.mp_term.proofs.Sorting.{sorted-append_sorted}
use Rattle.mp_term.proofs.ListingLaws.{all_in}
use Rattle.mp_theory.proofs.Merging.{sorted-sorted}
use Rattle.mp_term.specs.Search.{In}
use Rattle.mp_term.specs.Pieces.{count_to, same, insert_new, distinct, after, first, pieces_of, pieces, sub_bags}
use Rattle.mp_term.proofs.SearchLaws.{flat_map-same}
use Rattle.mp_term.proofs.PiecesLaws.{pieces-exact}
use Rattle.mp_theory.proofs.Cuts.{piece-from_apart, apart-from_piece}

-- l in order and some further terms make up ts
pub record IsSubBag (l ts : List Tree) : Type 0 where
  pub rest : List Tree
  pub in_order : sorted tree_cmp l ≡ l
  pub together : sorted tree_cmp (l ++ rest) ≡ ts

-- the sub-multisets of an ascending list are listed exactly
pub sub_bags-exact : (l ts : List Tree) → sorted tree_cmp ts ≡ ts → In l (sub_bags tree_cmp ts) ↔ IsSubBag l ts
sub_bags-exact l ts e = (
  λ h. let a = apart-from_piece true l ts e ((pieces-exact tree_cmp tree_cmp_total tree_same true l ts).0 h) in
      record { rest = _; in_order = a.piece_in_order; together = a.together },
  λ h. (pieces-exact tree_cmp tree_cmp_total tree_same true l ts).1
      (piece-from_apart true l (sorted tree_cmp h.rest) ts (record {
        together = sorted-append_sorted tree_cmp tree_cmp_total tree_same l h.rest ∙ h.together;
        piece_in_order = h.in_order;
        rest_in_order = sorted-sorted h.rest;
      })).0,
)

-- `map` over `flat_map`, and over lists with one front
pub map-flat : {X Y Z : Type 0} (k : Y → Z) (g : X → List Y) (xs : List X)
    → map k (flat_map g xs) ≡ flat_map (λ x. map k (g x)) xs
map-flat k g [] = refl
map-flat k g (x ∷ xs) = map-append k (g x) (flat_map g xs) ∙ ap (λ ys. map k (g x) ++ ys) (map-flat k g xs)

map-front : {X Y : Type 0} (f : X → Y) (e : X) (ws : List (List X))
    → map (λ w. map f w) (map (λ w. e ∷ w) ws) ≡ map (λ w. f e ∷ w) (map (λ w. map f w) ws)
map-front f e [] = refl
map-front f e (w ∷ ws) = ap (λ vs. (f e ∷ map f w) ∷ vs) (map-front f e ws)

-- two orders that f carries into one another where P holds
module _ {X Y : Type 0} (cmp : X → X → Ordering) (other : Y → Y → Ordering) (f : X → Y) (P : X → Type 0)
    (alike : (x y : X) → P x → P y → other (f x) (f y) ≡ cmp x y) where
  -- P holds of each item
  abbrev All : List X → Type 0
  All = AllByRecursion P

  -- f carries the distinct items, and what stands after an item, over
  insert_new-map : (t : X) (us : List X) → P t → All us
      → insert_new other (f t) (map f us) ≡ map f (insert_new cmp t us)
  insert_new-map t [] p h = refl
  insert_new-map t (u ∷ us) p h =
      ap (λ (r : Ordering). elim r as (λ _. List Y) [
        | Less ↦ f t ∷ f u ∷ map f us
        | Equal ↦ f u ∷ map f us
        | Greater ↦ f u ∷ insert_new other (f t) (map f us)
      ]) (alike t u p h.0)
      ∙ elim (cmp t u) as
      (λ r. elim r as (λ _. List Y) [
        | Less ↦ f t ∷ f u ∷ map f us
        | Equal ↦ f u ∷ map f us
        | Greater ↦ f u ∷ insert_new other (f t) (map f us)
      ]
      ≡ map f (elim r as (λ _. List X) [ Less ↦ t ∷ u ∷ us | Equal ↦ u ∷ us | Greater ↦ u ∷ insert_new cmp t us ])) [
        | Less ↦ refl
        | Equal ↦ refl
        | Greater ↦ ap (λ vs. f u ∷ vs) (insert_new-map t us p h.1)
      ]

  -- P holds of the distinct items, and of those after one
  all-insert_new : (t : X) (us : List X) → P t → All us → All (insert_new cmp t us)
  all-insert_new t [] p h = (p, tt)
  all-insert_new t (u ∷ us) p h = elim (cmp t u) as
      (λ r. All (elim r as (λ _. List X) [ Less ↦ t ∷ u ∷ us | Equal ↦ u ∷ us | Greater ↦ u ∷ insert_new cmp t us ]))
      [ Less ↦ (p, h) | Equal ↦ h | Greater ↦ (h.0, all-insert_new t us p h.1) ]

  all-distinct : (ts : List X) → All ts → All (distinct cmp ts)
  all-distinct [] h = tt
  all-distinct (t ∷ ts) h = all-insert_new t (distinct cmp ts) h.0 (all-distinct ts h.1)

  distinct-map : (ts : List X) → All ts → distinct other (map f ts) ≡ map f (distinct cmp ts)
  distinct-map [] h = refl
  distinct-map (t ∷ ts) h = ap (insert_new other (f t)) (distinct-map ts h.1)
      ∙ insert_new-map t (distinct cmp ts) h.0 (all-distinct ts h.1)

  after-map : (ts : List X) (e : X) → All ts → P e → after other (map f ts) (f e) ≡ map f (after cmp ts e)
  after-map [] e h p = refl
  after-map (t ∷ ts) e h p =
      ap (λ r. if is_eq r then map f ts else after other (map f ts) (f e)) (alike t e h.0 p)
      ∙ elim (is_eq (cmp t e)) as (λ b. (if b then map f ts else after other (map f ts) (f e))
      ≡ map f (if b then ts else after cmp ts e)) [ true ↦ refl | false ↦ after-map ts e h.1 p ]

  all-after : (ts : List X) (e : X) → All ts → All (after cmp ts e)
  all-after [] e h = tt
  all-after (t ∷ ts) e h = elim (same cmp t e) as (λ b. All (if b then ts else after cmp ts e))
      [ true ↦ h.1 | false ↦ all-after ts e h.1 ]

  -- the items with which a piece may begin
  abbrev begin : Bool → List X → List X
  begin b ts = if b then distinct cmp ts else first cmp ts

  abbrev begin_other : Bool → List Y → List Y
  begin_other b ts = if b then distinct other ts else first other ts

  begin-map : (b : Bool) (ts : List X) → All ts → begin_other b (map f ts) ≡ map f (begin b ts)
  begin-map true ts h = distinct-map ts h
  begin-map false [] h = refl
  begin-map false (t ∷ ts) h = refl

  all-begin : (b : Bool) (ts : List X) → All ts → All (begin b ts)
  all-begin true ts h = all-distinct ts h
  all-begin false [] h = tt
  all-begin false (t ∷ ts) h = (h.0, tt)

  -- f carries the pieces of a length over
  pub pieces_of-map : (b : Bool) (n : ℕ) (ts : List X) → All ts
      → pieces_of other b n (map f ts) ≡ map (λ w. map f w) (pieces_of cmp b n ts)
  pieces_of-map b zero ts h = refl
  pieces_of-map b (suc n) ts h =
      ap (flat_map (λ e. map (λ w. e ∷ w) (pieces_of other b n (after other (map f ts) e)))) (begin-map b ts h)
      ∙ flat_map-map (λ e. map (λ w. e ∷ w) (pieces_of other b n (after other (map f ts) e))) f (begin b ts)
      ∙ flat_map-same (λ e. map (λ w. f e ∷ w) (pieces_of other b n (after other (map f ts) (f e))))
      (λ e. map (λ w. map f w) (map (λ w. e ∷ w) (pieces_of cmp b n (after cmp ts e)))) (begin b ts) (λ e i.
      ap (λ us. map (λ w. f e ∷ w) (pieces_of other b n us))
      (after-map ts e h (all_in P (begin b ts) e (all-begin b ts h) i))
      ∙ ap (map (λ w. f e ∷ w)) (pieces_of-map b n (after cmp ts e) (all-after ts e h))
      ∙ sym (map-front f e (pieces_of cmp b n (after cmp ts e))))
      ∙ sym (map-flat (λ w. map f w) (λ e. map (λ w. e ∷ w) (pieces_of cmp b n (after cmp ts e))) (begin b ts))

  -- the pieces of the images are the images of the pieces
  pub pieces-map : (b : Bool) (ts : List X) → All ts → pieces other b (map f ts) ≡ map (λ w. map f w) (pieces cmp b ts)
  pieces-map b ts h =
      ap (λ n. flat_map (λ k. pieces_of other b k (map f ts)) (count_to 0 n)) (length-map ts f)
      ∙ flat_map-same (λ k. pieces_of other b k (map f ts)) (λ k. map (λ w. map f w) (pieces_of cmp b k ts))
      (count_to 0 (length ts)) (λ k i. pieces_of-map b k ts h)
      ∙ sym (map-flat (λ w. map f w) (λ k. pieces_of cmp b k ts) (count_to 0 (length ts)))
