-- The first redex, node by node.
use Rattle.std.proofs.Common.{◌≡◌, ◌∙◌, ℕ, zero, suc, ◌<◌, ◌≤◌, List, [], ◌∷◌, length}
use Rattle.std.proofs.Common.{drop, refl, ap, sym, arith}
use Rattle.std.proofs.Common.{get_or, map}
use Rattle.std.specs.Prelude.{Option, Some, None, slice_get, option_map}
use Rattle.std.specs.Option.{option_or}
use Rattle.std.proofs.lemmas.Option.{slice_get-map, slice_get_read}
use Rattle.mp_term.specs.Tree.{Tree, symbol, app, trees}
use Rattle.mp_term.specs.Size.{node_count, all_nodes}
use Rattle.mp_term.specs.Signature.{Sig}
use Rattle.mp_term.proofs.ListLaws.{drop-held}
use Rattle.mp_pattern.specs.Admission.{Rule}
use Rattle.mp_rewrite.specs.Computed.{Match, Redex, at_argument, first_match, first_redex, first_below}

-- an item of a list, and of its image
pub mapped-at : {X Y : Type 0} (f : X → Y) (xs : List X) (ys : List Y) (i : ℕ) (x : X) → map f xs ≡ ys → i < length xs
    → x ≡ get_or xs i x → slice_get ys i ≡ Some (f x)
mapped-at f xs ys i x e l is = ap (λ zs. slice_get zs i) (sym e) ∙ slice_get-map f xs i
    ∙ ap (option_map f) (slice_get_read xs (length xs) i x refl l is)

pub nodes-at : (ts : List Tree) (i : ℕ) (t : Tree) → slice_get ts i ≡ Some t → node_count t ≤ all_nodes ts
nodes-at [] i t e = cc
nodes-at (u ∷ ts) zero t e =
    let s : node_count u ≡ node_count t = ap node_count (let s : u ≡ t = cc in s) in omega (arith, s)
nodes-at (u ∷ ts) (suc i) t e = omega (arith, nodes-at ts i t e)

index-below : (ts : List Tree) (i : ℕ) (t : Tree) → slice_get ts i ≡ Some t → i < all_nodes ts
index-below [] i t e = cc
index-below (symbol n ∷ ts) zero t e = omega arith
index-below (app f us ∷ ts) zero t e = omega arith
index-below (symbol n ∷ ts) (suc i) t e = omega (arith, index-below ts i t e)
index-below (app f us ∷ ts) (suc i) t e = omega (arith, index-below ts i t e)

-- there are no more arguments than nodes
pub index-few : (ts : List Tree) (i n : ℕ) (t : Tree) → slice_get ts i ≡ Some t → all_nodes ts ≤ n → i ≤ n
index-few ts i n t e h = omega (arith, index-below ts i t e, h)

module _ (sig : Sig) (rules : List Rule) where
  -- a match at the root is the first redex
  pub root-Some : (t : Tree) (m : Match) → first_match sig rules t ≡ Some m
      → first_redex sig rules t ≡ Some (record { position = []; «match» = m })
  root-Some (symbol n) m e =
      ap (λ (o : Option Match). option_map (λ m. record { position = []; «match» = m }) o) e
  root-Some (app f ts) m e =
      ap (λ (o : Option Match). option_or (option_map (λ m. record { position = []; «match» = m }) o)
      (first_below sig rules 0 ts)) e

  -- the first argument that has a redex
  pub below-Some : (ts : List Tree) (i : ℕ) (t : Tree) (r : Redex) → slice_get ts i ≡ Some t
      → first_redex sig rules t ≡ Some r → first_below sig rules i (trees (drop i ts)) ≡ Some (at_argument i r)
  below-Some ts i t r e h =
      ap (λ us. first_below sig rules i (trees us)) (drop-held ts i t e)
      ∙ ap (λ o. option_or (option_map (at_argument i) o) (first_below sig rules (suc i) (trees (drop (suc i) ts)))) h

  -- an argument that has none is passed over
  pub below-None : (ts : List Tree) (i : ℕ) (t : Tree) → slice_get ts i ≡ Some t → first_redex sig rules t ≡ None
      → first_below sig rules i (trees (drop i ts)) ≡ first_below sig rules (suc i) (trees (drop (suc i) ts))
  below-None ts i t e h =
      ap (λ us. first_below sig rules i (trees us)) (drop-held ts i t e)
      ∙ ap (λ o. option_or (option_map (at_argument i) o) (first_below sig rules (suc i) (trees (drop (suc i) ts)))) h

  -- there is none behind the arguments
  pub below-end : (ts : List Tree) (i j : ℕ) → length ts ≤ i → first_below sig rules j (trees (drop i ts)) ≡ None
  below-end [] zero j h = refl
  below-end [] (suc i) j h = refl
  below-end (t ∷ ts) zero j h = absurd (omega arith)
  below-end (t ∷ ts) (suc i) j h = below-end ts i j (omega arith)
