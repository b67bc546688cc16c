-- Lists of tokens: when they are equal, and which of them goes one token beyond another.
use Rattle.std.proofs.Common.{◌≡◌, ℕ, suc, ◌+◌, List, [], ◌∷◌, ◌++◌, length, Bool, true, false, refl}
use Rattle.std.proofs.Common.{ap, ◌∙◌, subst, arith}
use Rattle.std.specs.Prelude.{None}
use Rattle.std.specs.List.{AllByRecursion}
use Rattle.std.proofs.lemmas.Bool.{and_parts}
use Rattle.mp_pattern.specs.NetTokens.{NetToken, same_token}
use Rattle.mp_pattern.specs.NetTokenLaws.{same_token-is, same_token-itself}
use Rattle.mp_walk.specs.Walkable.{Path}
use Rattle.mp_many.specs.Prefixes.{same_tokens, without_last, child_among}

-- lists that test the same are one
pub same_tokens-is : (js ks : Path) → same_tokens js ks ≡ true → js ≡ ks
same_tokens-is [] [] e = refl
same_tokens-is (j ∷ js) (k ∷ ks) e =
    let both = and_parts (same_token j k) (same_tokens js ks) e in
    λ i. same_token-is j k both.0 i ∷ same_tokens-is js ks both.1 i
same_tokens-is [] (k ∷ ks) e = cc
same_tokens-is (j ∷ js) [] e = cc

-- a list is the same as itself
pub same_tokens-itself : (ks : Path) → same_tokens ks ks ≡ true
same_tokens-itself [] = refl
same_tokens-itself (k ∷ ks) = rw (same_token-itself k) (same_tokens-itself ks)

-- tokens of which one isn't the other, either way
pub same_token-turned : (j k : NetToken) → same_token j k ≡ false → same_token k j ≡ false
same_token-turned j k e =
    elim (same_token k j) as (λ b. same_token k j ≡ b → b ≡ false) [
      | true ↦ λ h. (let s : k ≡ j = same_token-is k j h in
          let f : same_token j k ≡ true = subst (λ z. same_token z k ≡ true) s (same_token-itself k) in cc)
      | false ↦ λ h. refl
    ] refl

-- the test that a list goes one token beyond another
abbrev pub is_child : Path → Path → Bool
is_child parent q = same_tokens (without_last q) parent

-- none of the lists does
abbrev pub NoChild : Path → List Path → Type 0
NoChild parent qs = AllByRecursion (λ q. is_child parent q ≡ false) qs

-- below a list that stands before both, the test is that of what is behind it
pub child-below : (above : Path) (k : NetToken) (q p : Path)
    → is_child (above ++ p) (above ++ (k ∷ q)) ≡ is_child p (k ∷ q)
child-below [] k q p = refl
child-below (a ∷ []) k q p = rw (same_token-itself a) refl
child-below (a ∷ b ∷ above) k q p = rw (same_token-itself a) (child-below (b ∷ above) k q p)

-- a list that begins with another token is no child
pub other-child : (j k : NetToken) (q p : Path) → same_token j k ≡ false → is_child (k ∷ p) (j ∷ q) ≡ false
other-child j k [] p e = refl
other-child j k (i ∷ q) p e = rw e refl

-- the first child behind lists that are none
pub child-skipped : (parent : Path) (n : ℕ) (qs rs : List Path) → NoChild parent qs
    → child_among n (qs ++ rs) parent ≡ child_among (n + length qs) rs parent
child-skipped parent n [] rs h = let e : n ≡ n + 0 = omega arith in ap (λ m. child_among m rs parent) e
child-skipped parent n (q ∷ qs) rs h =
    rw h.0 (child-skipped parent (suc n) qs rs h.1
    ∙ (let e : suc n + length qs ≡ n + suc (length qs) = omega arith in ap (λ m. child_among m rs parent) e))

pub child-none : (parent : Path) (n : ℕ) (qs : List Path) → NoChild parent qs → child_among n qs parent ≡ None
child-none parent n [] h = refl
child-none parent n (q ∷ qs) h = rw h.0 (child-none parent (suc n) qs h.1)
