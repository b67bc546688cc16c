-- A rule with a syntactic pattern is tested by what its variables take in turn.
use Rattle.std.proofs.Common.{◌≡◌, [], Bool, true, false, refl, ap, sym, ◌∙◌, subst}
use Rattle.std.specs.Prelude.{Option, Some, None, if◌then◌else◌, option_and_then, IfSome, IfNone}
use Rattle.mp_term.specs.Tree.{Tree}
use Rattle.mp_term.specs.Signature.{Sig}
use Rattle.mp_pattern.specs.Admission.{Rule, meets}
use Rattle.mp_pattern.specs.Syntactic.{is_syntactic}
use Rattle.mp_pattern.specs.Value.{Subst}
use Rattle.mp_theory.specs.Filled.{filled}
use Rattle.mp_theory.specs.Shape.{of_kinds, takings}
use Rattle.mp_theory.specs.Solve.{solve}
use Rattle.mp_theory.proofs.FilledLaws.{filled-solve}
use Rattle.mp_net.specs.AllList.{tested}

module _ (sig : Sig) where
  -- a rule is tested by what its variables take in turn
  pub tested-filled : (t : Tree) (r : Rule) → is_syntactic sig r.pattern ≡ true → tested sig t r
      ≡ option_and_then (λ s. if meets sig r.condition s then Some s else None) (filled sig r.pattern t [])
  tested-filled t r k = by_kinds (of_kinds sig r.pattern t)
      ∙ ap (option_and_then (λ s. if meets sig r.condition s then Some s else None))
      (sym (filled-solve sig None r.pattern t [] tt k))
    where
      by_kinds : (b : Bool) → (if b then option_and_then (λ s. if meets sig r.condition s then Some s else None)
          (solve sig [] (takings None r.pattern t)) else None)
          ≡ option_and_then (λ s. if meets sig r.condition s then Some s else None)
          (if b then solve sig [] (takings None r.pattern t) else None)
      by_kinds true = refl
      by_kinds false = refl

-- what a choice holds
pub none-of : {A X : Type 0} (o : Option A) → o ≡ None → IfNone o X → X
none-of None e h = h
none-of (Some a) e h = cc

pub some-of : {A : Type 0} (P : A → Type 0) (o : Option A) (a : A) → o ≡ Some a → IfSome o P → P a
some-of P o a e h = subst (λ v. IfSome v P) e h

module _ (sig : Sig) (t : Tree) (r : Rule) (k : is_syntactic sig r.pattern ≡ true) where
  -- a rule whose variables take different trees, or with a kind that isn't met, has no substitution
  pub tested-none : filled sig r.pattern t [] ≡ None → None ≡ tested sig t r
  tested-none e = sym (tested-filled sig t r k
      ∙ ap (option_and_then (λ s. if meets sig r.condition s then Some s else None)) e)

  -- and another has what they take, where the condition holds
  pub tested-some : (s : Subst) (b : Bool) → filled sig r.pattern t [] ≡ Some s → meets sig r.condition s ≡ b
      → (if b then Some s else None) ≡ tested sig t r
  tested-some s b e h = sym (tested-filled sig t r k
      ∙ ap (option_and_then (λ s. if meets sig r.condition s then Some s else None)) e
      ∙ ap (λ c. if c then Some s else None) h)
