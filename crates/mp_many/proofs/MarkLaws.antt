-- Groups whose tokens' digests have their marks.
use Rattle.std.proofs.Common.{◌≡◌, ◌<◌, ◌%◌, ℕ, zero, suc, List, [], ◌∷◌, ◌++◌, length, get_or, set, Bool, true, false}
use Rattle.std.proofs.Common.{refl, ap, sym, ◌∙◌, arith}
use Rattle.std.specs.Prelude.{if◌then◌else◌}
use Rattle.std.proofs.lemmas.List.{length-set, get_or-set_same}
use Rattle.mp_term.proofs.ListLaws.{all-append}
use Rattle.mp_pattern.specs.NetTokens.{NetToken, same_token}
use Rattle.mp_pattern.specs.NetTokenLaws.{same_token-is}
use Rattle.mp_many.specs.Digest.{token_digest}
use Rattle.mp_many.specs.Groups.{Group, entered}
use Rattle.mp_many.specs.Marks.{has_mark, AreMarked}

-- the mark of a digest, where there are marks
pub has_mark-some : (ms : List Bool) (d : ℕ) → 0 < length ms → has_mark ms d ≡ get_or ms (d % length ms) false
has_mark-some [] d h = absurd (omega (arith, h))
has_mark-some (m ∷ ms) d h = refl

pub some-marks : (n : ℕ) → (n ≡ 0 → ⊥) → 0 < n
some-marks zero h = absurd (h refl)
some-marks (suc n) h = omega arith

-- a mark that is set
pub set-own : (ms : List Bool) (d : ℕ) → 0 < length ms → d % length ms < length ms
    → has_mark (set ms (d % length ms) true) d ≡ true
set-own ms d h w =
    has_mark-some (set ms (d % length ms) true) d (omega (arith, h, length-set ms (d % length ms) true))
    ∙ ap (λ n. get_or (set ms (d % length ms) true) (d % n) false) (length-set ms (d % length ms) true)
    ∙ get_or-set_same ms (d % length ms) true false w

-- where a digest has no mark, its token is new
pub entered-new : (ms : List Bool) (gs : List Group) (k : NetToken) (n : List ℕ) → AreMarked ms gs
    → has_mark ms (token_digest k) ≡ false → entered gs k n ≡ gs ++ (k, n) ∷ []
entered-new ms [] k n a e = refl
entered-new ms (g ∷ gs) k n a e = by_test (same_token g.0 k) refl (entered-new ms gs k n a.1 e)
  where
    by_test : (b : Bool) → same_token g.0 k ≡ b → entered gs k n ≡ gs ++ (k, n) ∷ []
        → (if b then (g.0, g.1 ++ n) ∷ gs else g ∷ entered gs k n) ≡ g ∷ (gs ++ (k, n) ∷ [])
    by_test false is rest = ap (λ hs. g ∷ hs) rest
    by_test true is rest =
        let z : true ≡ false =
        sym a.0 ∙ ap (λ j. has_mark ms (token_digest j)) (same_token-is g.0 k is) ∙ e in cc

-- the groups with a list entered are marked, where its token is
pub entered-marked : (ms : List Bool) (gs : List Group) (k : NetToken) (n : List ℕ) → AreMarked ms gs
    → has_mark ms (token_digest k) ≡ true → AreMarked ms (entered gs k n)
entered-marked ms [] k n a e = (e, tt)
entered-marked ms (g ∷ gs) k n a e = by_test (same_token g.0 k) (entered-marked ms gs k n a.1 e)
  where
    by_test : (b : Bool) → AreMarked ms (entered gs k n)
        → AreMarked ms (if b then (g.0, g.1 ++ n) ∷ gs else g ∷ entered gs k n)
    by_test true rest = (a.0, a.1)
    by_test false rest = (a.0, rest)

-- groups that are marked are so as marks are set
pub marked-more : (old new : List Bool) (gs : List Group)
    → ((d : ℕ) → has_mark old d ≡ true → has_mark new d ≡ true) → AreMarked old gs → AreMarked new gs
marked-more old new [] h a = tt
marked-more old new (g ∷ gs) h a = (h (token_digest g.0) a.0, marked-more old new gs h a.1)

-- one group more
pub marked-push : (ms : List Bool) (gs : List Group) (g : Group) → AreMarked ms gs
    → has_mark ms (token_digest g.0) ≡ true → AreMarked ms (gs ++ g ∷ [])
marked-push ms gs g a e = all-append (λ h. has_mark ms (token_digest h.0) ≡ true) gs (g ∷ []) a (e, tt)
