-- Groups that hold the digests of their tokens.
use Rattle.std.proofs.Common.{◌≡◌, ◌<◌, ℕ, zero, suc, List, [], ◌∷◌, length, get_or, set, Bool, true}
use Rattle.std.proofs.Common.{false, refl, ap, sym, ◌∙◌, subst, arith}
use Rattle.std.specs.List.{AllByRecursion}
use Rattle.mp_pattern.specs.NetTokens.{NetToken, same_token}
use Rattle.mp_pattern.specs.NetTokenLaws.{same_token-is}
use Rattle.mp_many.specs.Digest.{token_digest}
use Rattle.mp_many.specs.GroupView.{IsDigested}
use Rattle.mp_many.specs.declared.group.Group.{Group}

-- equal tokens have the same digest
pub digest-same : (j k : NetToken) → same_token j k ≡ true → token_digest j ≡ token_digest k
digest-same j k e = ap token_digest (same_token-is j k e)

-- so where the digests differ the tokens do
pub digest-other : (j k : NetToken) (m n : ℕ) → m ≡ token_digest j → n ≡ token_digest k → (m ≡ n → ⊥)
    → false ≡ same_token j k
digest-other j k m n d e h = by_test (same_token j k) refl
  where
    by_test : (b : Bool) → same_token j k ≡ b → false ≡ b
    by_test false is = refl
    by_test true is = absurd (h (d ∙ digest-same j k is ∙ sym e))

-- the group of an index
pub digested-at : (gs : List Group) (i : ℕ) (g : Group) → i < length gs → g ≡ get_or gs i g
    → AllByRecursion IsDigested gs → IsDigested g
digested-at [] i g h e a = absurd (omega (arith, h))
digested-at (x ∷ gs) zero g h e a = subst IsDigested (sym e) a.0
digested-at (x ∷ gs) (suc i) g h e a = digested-at gs i g (omega (arith, h)) e a.1

-- another group in its place
pub digested-set : (gs : List Group) (i : ℕ) (g : Group) → AllByRecursion IsDigested gs → IsDigested g
    → AllByRecursion IsDigested (set gs i g)
digested-set [] i g a d = tt
digested-set (x ∷ gs) zero g a d = (d, a.1)
digested-set (x ∷ gs) (suc i) g a d = (a.0, digested-set gs i g a.1 d)
