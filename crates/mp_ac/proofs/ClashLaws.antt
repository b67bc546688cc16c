-- Two patterns that clash don't both fill a substitution.
use Rattle.std.proofs.Common.{◌≡◌, List, [], ◌∷◌, Bool, true, false, ◌&&◌, not, refl, sym, ◌∙◌, subst}
use Rattle.std.specs.Prelude.{Option, Some, None}
use Rattle.std.specs.List.{AllByRecursion, list_any}
use Rattle.std.specs.Ordering.{is_eq}
use Rattle.std.proofs.lemmas.Cmp.{tied_itself}
use Rattle.mp_term.specs.Order.{trees_cmp}
use Rattle.mp_term.specs.OrderLaws.{tree_cmp_total}
use Rattle.mp_term.specs.Signature.{Sig}
use Rattle.mp_term.specs.Tree.{Tree, trees}
use Rattle.mp_term.proofs.ListLaws.{all-also}
use Rattle.mp_pattern.proofs.NameLaws.{same_name-is}
use Rattle.mp_pattern.specs.PatternTree.{Pattern}
use Rattle.mp_pattern.specs.Value.{one, Subst, same_name, value_of}
use Rattle.mp_theory.specs.Filled.{filled}
use Rattle.mp_theory.specs.Shape.{takings}
use Rattle.mp_theory.specs.Solve.{Taken}
use Rattle.mp_theory.proofs.FilledLaws.{IsTaken, taken-kept, filled-keeps, filled-taken}
use Rattle.mp_ac.specs.Clash.{differ, clash}

-- no two takes that a substitution has are of one variable and of different trees
differ-taken : (s : Subst) (a b : Taken) → IsTaken s a → IsTaken s b → differ a b ≡ false
differ-taken s a b h k = by_name (same_name a.by.name b.by.name) refl
  where
    by_name : (c : Bool) → same_name a.by.name b.by.name ≡ c
        → c && not (is_eq (trees_cmp (trees a.terms) (trees b.terms))) ≡ false
    by_name false e = refl
    by_name true e =
        let named : value_of s b.by.name ≡ Some (one h.term) =
        subst (λ x. value_of s x ≡ Some (one h.term)) (same_name-is a.by.name b.by.name e) h.value in
        let same : k.term ≡ h.term = let q : Some (one k.term) ≡ Some (one h.term) = sym k.value ∙ named in cc in
        rw (h.is, k.is, same, tied_itself tree_cmp_total h.term) refl

-- a test that no item passes
any-none : {X : Type 0} (p : X → Bool) (P : X → Type 0) → ((x : X) → P x → p x ≡ false) → (xs : List X)
    → AllByRecursion P xs → list_any p xs ≡ false
any-none p P each [] h = refl
any-none p P each (x ∷ xs) h = rw (each x h.0, any-none p P each xs h.1) refl

module _ (sig : Sig) where
  -- a pattern that clashes with one that filled the substitution doesn't fill it
  pub clash-filled : (p q : Pattern) (u v : Tree) (s r : Subst) → filled sig p u s ≡ Some r → clash p u q v ≡ true
      → filled sig q v r ≡ None
  clash-filled p q u v s r e h = by_end (filled sig q v r) refl
    where
      by_end : (o : Option Subst) → filled sig q v r ≡ o → o ≡ None
      by_end None k = refl
      by_end (Some z) k =
          let first = all-also (IsTaken r) (IsTaken z) (taken-kept r z (filled-keeps sig q v r z k)) (takings None p u)
          (filled-taken sig None p u s r e) in
          let none : clash p u q v ≡ false =
          any-none (λ a. list_any (differ a) (takings None q v)) (IsTaken z)
          (λ a i. any-none (differ a) (IsTaken z) (λ b j. differ-taken z a b i j) (takings None q v)
          (filled-taken sig None q v r z k)) (takings None p u) first in
          cc
