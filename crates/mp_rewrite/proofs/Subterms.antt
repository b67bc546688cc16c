-- Subterms of a term that can be rewritten.
use Rattle.std.proofs.Common.{◌≡◌, ℕ, zero, suc, true, List}
use Rattle.std.proofs.Common.{[], ◌∷◌, refl}
use Rattle.std.proofs.Common.{subst}
use Rattle.std.specs.Prelude.{Option, Some, None, slice_get, option_and_then, IfSome}
use Rattle.std.proofs.lemmas.Bool.{and_parts}
use Rattle.mp_term.specs.Tree.{Tree, symbol, app, Trees, no_trees, more_trees, tree_list}
use Rattle.mp_term.specs.Positions.{subterm}
use Rattle.mp_term.specs.Signature.{Sig, well_formed}
use Rattle.mp_term.specs.Normal.{IsNormal}
use Rattle.mp_term.specs.NormalTest.{passes, all_pass}
use Rattle.mp_term.proofs.NormalTestLaws.{passes_iff}
use Rattle.mp_term.proofs.ReplacedLaws.{formed-subterm}

module _ (sig : Sig) where
  -- an argument of a normal term is normal
  passes-argument : (f : ℕ) (ts : Trees) (i : ℕ) (u : Tree) → slice_get (tree_list ts) i ≡ Some u
      → all_pass sig f ts ≡ true → passes sig u ≡ true
  passes-argument f no_trees i u e h = cc
  passes-argument f (more_trees t ts) zero u e h =
      let same : t ≡ u = cc in subst (λ t. passes sig t ≡ true) same (and_parts _ _ (and_parts _ _ h).0).0
  passes-argument f (more_trees t ts) (suc i) u e h = passes-argument f ts i u e (and_parts _ _ h).1

  IsNormal-argument : (f : ℕ) (ts : Trees) (i : ℕ) (u : Tree) → slice_get (tree_list ts) i ≡ Some u
      → IsNormal sig (app f ts) → IsNormal sig u
  IsNormal-argument f ts i u e h =
      let whole : passes sig (app f ts) ≡ true = (passes_iff sig (app f ts)).1 h in
      (passes_iff sig u).0 (passes-argument f ts i u e (and_parts _ _ (and_parts _ _ whole).1).1)

  normal-below : (p : List ℕ) (u : Tree) → ((v : Tree) → subterm v p ≡ Some u → IsNormal sig v → IsNormal sig u)
      → (i f : ℕ) (ts : Trees) (o : Option Tree) → slice_get (tree_list ts) i ≡ o
      → option_and_then (λ t. subterm t p) o ≡ Some u → IsNormal sig (app f ts) → IsNormal sig u
  normal-below p u behind i f ts None e h k = cc
  normal-below p u behind i f ts (Some v) e h k = behind v h (IsNormal-argument f ts i v e k)

  -- a subterm of a normal term is normal
  pub IsNormal-subterm : (p : List ℕ) (t u : Tree) → subterm t p ≡ Some u → IsNormal sig t → IsNormal sig u
  IsNormal-subterm [] t u e h = let same : t ≡ u = cc in subst (IsNormal sig) same h
  IsNormal-subterm (i ∷ p) (symbol n) u e h = cc
  IsNormal-subterm (i ∷ p) (app f ts) u e h =
      normal-below p u (λ v. IsNormal-subterm p v u) i f ts (slice_get (tree_list ts) i) refl e h

  -- one of a well formed term is well formed
  pub well_formed-subterm : (p : List ℕ) (t u : Tree) → subterm t p ≡ Some u → well_formed sig t ≡ true
      → well_formed sig u ≡ true
  well_formed-subterm p t u e h = subst (λ o. IfSome o (λ v. well_formed sig v ≡ true)) e (formed-subterm sig p t h)
