-- A list of vectors as a list of lists.
use Rattle.std.proofs.Common.{◌≡◌, ℕ, ◌<◌, List, ap, ◌∙◌, sym, length, get_or}
use Rattle.std.specs.Prelude.{Vec}
use Rattle.std.specs.Global.{Global}
use Rattle.std.proofs.lemmas.List.{get_or-map, length-map}
use Rattle.mp_pair.specs.Bipartite.{lists}

-- there are as many lists as vectors
pub length-lists : (left : List (Vec ℕ Global)) → length (lists left) ≡ length left
length-lists left = length-map left (λ v. v.items)

-- the items of a vector that was read at i
pub items_at : (left : List (Vec ℕ Global)) (i : ℕ) (v : Vec ℕ Global) (xs d : List ℕ) → i < length left
    → v ≡ get_or left i v → xs ≡ v.items → xs ≡ get_or (lists left) i d
items_at left i v xs d h e f = f ∙ (ap (λ w. w.items) e ∙ sym (get_or-map (λ w. w.items) left i v d h))
