-- The tests of equality.
use Rattle.std.proofs.Common.{◌≡◌, ℕ, List, [], ◌∷◌, true, ap, sym, ◌∙◌, subst}
use Rattle.std.proofs.Common.{eqb-true, eq-eqb}
use Rattle.std.specs.Prelude.{nat_eq, ◌&&◌}
use Rattle.mp_term.specs.Tree.{Tree, app, trees}
use Rattle.mp_term.specs.TreeLists.{tree_list-trees}
use Rattle.mp_term.specs.Order.{tree_cmp}
use Rattle.mp_term.specs.OrderLaws.{tree_cmp_total, tree_same}
use Rattle.mp_pattern.specs.Value.{same_terms}
use Rattle.mp_term.specs.Pieces.{same}
use Rattle.mp_theory.specs.Machine.{arguments}
use Rattle.std.proofs.lemmas.Bool.{and_parts, and_from}
use Rattle.mp_term.proofs.PiecesLaws.{same-sound, same-itself}
use Rattle.mp_theory.proofs.Merging.{same_terms-sound, same_terms-complete}
use Rattle.mp_term.proofs.ListLaws.{bool_same}
use Rattle.mp_cursor.proofs.RootLaws.{trees-injective}

pub tree_sound : (t u : Tree) → same tree_cmp t u ≡ true → t ≡ u
tree_sound = same-sound tree_cmp tree_cmp_total tree_same

tree_itself : (t u : Tree) → t ≡ u → same tree_cmp t u ≡ true
tree_itself t u e = subst (λ v. same tree_cmp t v ≡ true) e (same-itself tree_cmp tree_cmp_total tree_same t)

pub same-swapped : (t u : Tree) → same tree_cmp t u ≡ same tree_cmp u t
same-swapped t u = bool_same (same tree_cmp t u) (same tree_cmp u t) (λ e. tree_itself u t (sym (tree_sound t u e)))
    (λ e. tree_itself t u (sym (tree_sound u t e)))

pub same-app : (f g : ℕ) (xs ys : List Tree)
    → (nat_eq f g && same_terms xs ys) ≡ same tree_cmp (app f (trees xs)) (app g (trees ys))
same-app f g xs ys =
    bool_same (nat_eq f g && same_terms xs ys) (same tree_cmp (app f (trees xs)) (app g (trees ys)))
    (λ e.
    let k = and_parts (nat_eq f g) (same_terms xs ys) e in
    tree_itself (app f (trees xs)) (app g (trees ys))
    (ap (λ h. app h (trees xs)) (eqb-true f g k.0) ∙ ap (λ zs. app g (trees zs)) (same_terms-sound xs ys k.1)))
    (λ e.
    let q = tree_sound (app f (trees xs)) (app g (trees ys)) e in
    let i : f ≡ g = cc in
    let j : trees xs ≡ trees ys = cc in
    and_from _ _ (eq-eqb f g i) (same_terms-complete xs ys (trees-injective xs ys j)))

pub same-same_head : (f g : ℕ) (xs ys : List Tree) → f ≡ g
    → same_terms xs ys ≡ same tree_cmp (app f (trees xs)) (app g (trees ys))
same-same_head f g xs ys h = ap (λ b. b && same_terms xs ys) (sym (eq-eqb f g h)) ∙ same-app f g xs ys

pub arguments-app : (f : ℕ) (xs : List Tree) → xs ≡ arguments (app f (trees xs) ∷ [])
arguments-app f xs = sym (tree_list-trees xs)
