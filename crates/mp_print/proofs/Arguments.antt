-- The arguments of a tree, whatever trees it is one of: their sizes and their texts.
use Rattle.std.proofs.Common.{◌≡◌, ℕ, zero, suc, ◌+◌, ◌<◌, ◌≤◌, List, [], ◌∷◌, length, get_or, map, sym, ap, ◌∙◌, arith}
use Rattle.std.specs.Prelude.{Option, sum_by}
use Rattle.std.proofs.lemmas.List.Sums.{sum_by-cons}
use Rattle.mp_io.specs.Devices.{Text}
use Rattle.mp_term.specs.declared.signature.OpDecl.{OpDecl}
use Rattle.mp_print.specs.Printing.{held_text}

-- an item is no larger than all items, whose size is the sum of theirs
pub size-element : {X : Type 0} (size : X → ℕ) (all : List X → ℕ)
    → ((x : X) (xs : List X) → all (x ∷ xs) ≡ size x + all xs)
    → (xs : List X) (i : ℕ) (d : X) → i < length xs → size (get_or xs i d) ≤ all xs
size-element size all sum [] i d h = absurd (omega arith)
size-element size all sum (x ∷ xs) zero d h = omega (arith, sum x xs)
size-element size all sum (x ∷ xs) (suc i) d h =
    omega (arith, sum x xs, size-element size all sum xs i d (omega arith))

-- the sizes of items that are seen as trees sum up to the size of all
pub sizes-sum : {X T : Type 0} (view : X → T) (size : T → ℕ) (all : List T → ℕ)
    → ((t : T) (ts : List T) → all (t ∷ ts) ≡ size t + all ts)
    → (xs : List X) → sum_by (λ x. size (view x)) xs ≤ all (map view xs)
sizes-sum view size all sum [] = omega arith
sizes-sum view size all sum (x ∷ xs) =
    omega (
      arith,
      sum_by-cons (λ y. size (view y)) x xs,
      sum (view x) (map view xs),
      sizes-sum view size all sum xs,
    )

module _ {X T L : Type 0} (view : X → T) (list : List T → L) (text : T → Text) (texts : L → List Text)
    (none : texts (list []) ≡ [])
    (more : (t : T) (ts : List T) → texts (list (t ∷ ts)) ≡ text t ∷ texts (list ts)) where
  -- the texts of items that are seen as trees
  pub texts-map : (items : List X) → texts (list (map view items)) ≡ map (λ x. text (view x)) items
  texts-map [] = none
  texts-map (x ∷ items) = more (view x) (map view items) ∙ ap (λ l. text (view x) ∷ l) (texts-map items)

  -- the text of an application to them
  pub text-app : (held : Option OpDecl) (ts : List T) (items : List X) → map view items ≡ ts
      → held_text held (texts (list ts)) ≡ held_text held (map (λ x. text (view x)) items)
  text-app held ts items same =
      ap (λ l. held_text held (texts (list l))) (sym same) ∙ ap (held_text held) (texts-map items)
