-- `normal` at applications whose arguments are a list.
use Rattle.std.proofs.Common.{◌≡◌, ℕ, List, [], ◌∷◌, map, true, refl, ap, sym, eq-eqb}
use Rattle.mp_term.specs.Tree.{Tree, app, trees}
use Rattle.mp_term.specs.TreeLists.{tree_list-trees}
use Rattle.mp_term.specs.Signature.{Sig, is_assoc}
use Rattle.mp_term.specs.Normal.{parts, normal, normals}

pub normals-forest : {X : Type 0} (sig : Sig) (f : X → Tree) (xs : List X)
    → normals sig (trees (map f xs)) ≡ map (λ x. normal sig (f x)) xs
normals-forest sig f [] = refl
normals-forest sig f (x ∷ xs) = ap (λ ts. normal sig (f x) ∷ ts) (normals-forest sig f xs)

pub parts_same : (sig : Sig) (f g : ℕ) (ts : List Tree) → g ≡ f → is_assoc sig f ≡ true
    → parts sig f (app g (trees ts)) ≡ ts
parts_same sig f g ts e a = rw (a, tree_list-trees ts, eq-eqb f g (sym e)) refl
