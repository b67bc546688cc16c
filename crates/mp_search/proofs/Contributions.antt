-- What contributes a term.
use Rattle.std.proofs.Common.{◌≡◌, ℕ, List, [], ◌∷◌, true, false, not, ◌&&◌, refl, ap, ◌∙◌}
use Rattle.std.specs.Prelude.{Option, Some, None, nat_eq, if◌then◌else◌}
use Rattle.mp_term.specs.Tree.{Tree, symbol, app, trees, tree_list}
use Rattle.mp_term.specs.TreeLists.{tree_list-trees}
use Rattle.mp_term.specs.NormalTest.{has_head}
use Rattle.mp_term.specs.Signature.{Sig, is_assoc}
use Rattle.mp_pattern.specs.Contribution.{if_several, spread, contribution}
use Rattle.mp_table.specs.Subterms.{arguments}
use Rattle.mp_theory.specs.Solve.{is_alone}
use Rattle.mp_search.specs.Made.{is_opened}

module _ (sig : Sig) where
  -- a term that the operation above doesn't open, and one that it opens
  pub contribution-alone : (f : Option ℕ) (t : Tree) → is_alone sig f t ≡ true → contribution sig f t ≡ Some (t ∷ [])
  contribution-alone None t h = refl
  contribution-alone (Some f) t h = elim (is_assoc sig f) as
      (λ a. not (a && has_head f t) ≡ true → (if a then spread f t else Some (t ∷ [])) ≡ Some (t ∷ []))
      [ true ↦ λ k. at t k | false ↦ λ k. refl ] h
    where
      at : (t : Tree) → not (has_head f t) ≡ true → spread f t ≡ Some (t ∷ [])
      at (symbol n) k = refl
      at (app g ts) k =
          elim (nat_eq f g) as (λ b. not b ≡ true
          → (if b then if_several (tree_list ts) else Some (app g ts ∷ [])) ≡ Some (app g ts ∷ []))
          [ true ↦ λ q. cc | false ↦ λ q. refl ] k

  pub contribution-opened : (f : Option ℕ) (t : Tree) → is_alone sig f t ≡ false
      → contribution sig f t ≡ if_several (arguments t)
  contribution-opened None t h = cc
  contribution-opened (Some f) t h = elim (is_assoc sig f) as
      (λ a. not (a && has_head f t) ≡ false → (if a then spread f t else Some (t ∷ [])) ≡ if_several (arguments t))
      [ true ↦ λ k. at t k | false ↦ λ k. cc ] h
    where
      at : (t : Tree) → not (has_head f t) ≡ false → spread f t ≡ if_several (arguments t)
      at (symbol n) k = cc
      at (app g ts) k =
          elim (nat_eq f g) as (λ b. not b ≡ false
          → (if b then if_several (tree_list ts) else Some (app g ts ∷ [])) ≡ if_several (tree_list ts))
          [ true ↦ λ q. refl | false ↦ λ q. cc ] k

  -- the same of an operation on terms
  pub contribution-joined : (f : Option ℕ) (g : ℕ) (ts : List Tree) → is_opened sig f g ≡ true
      → contribution sig f (app g (trees ts)) ≡ if_several ts
  contribution-joined None g ts h = cc
  contribution-joined (Some f) g ts h = contribution-opened (Some f) (app g (trees ts)) (ap not h)
      ∙ ap if_several (tree_list-trees ts)

  pub contribution-other : (f : Option ℕ) (g : ℕ) (ts : List Tree) → is_opened sig f g ≡ false
      → contribution sig f (app g (trees ts)) ≡ Some (app g (trees ts) ∷ [])
  contribution-other None g ts h = refl
  contribution-other (Some f) g ts h = contribution-alone (Some f) (app g (trees ts)) (ap not h)
