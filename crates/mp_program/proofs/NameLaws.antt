-- Names that are numbered in order, and the numbers of names.
use Rattle.std.proofs.Common.{◌≡◌, ◌<◌, ◌≤◌, ℕ, zero, suc, ◌+◌, List, [], ◌∷◌, ◌++◌, length, Bool, true, false, refl}
use Rattle.std.proofs.Common.{◌⊎◌, inl, inr, ap, sym, ◌∙◌, arith}
use Rattle.std.specs.Prelude.{◌||◌}
use Rattle.std.proofs.lemmas.Bool.{and_parts, and_from, cases_lt}
use Rattle.std.proofs.Math.Bool.{or-true, or-false}
use Rattle.mp_io.specs.Devices.{Text}
use Rattle.mp_pattern.specs.Firsts.{is_known}
use Rattle.mp_pattern.specs.NetTokens.{numbered}
use Rattle.mp_pattern.specs.Value.{same_name}
use Rattle.mp_pattern.proofs.NameLaws.{same_name-itself}
use Rattle.mp_walk.specs.Walkable.{numbered_names}
use Rattle.mp_walk.proofs.NumberedNames.{length-numbered_names}
use Rattle.mp_program.specs.TokenPaths.{are_numbered_from}

-- ---- known items

-- an item is known among some and one more
pub known-push : {X : Type 0} (same : X → X → Bool) (ys : List X) (y x : X)
    → is_known same (ys ++ y ∷ []) x ≡ (is_known same ys x || same y x)
known-push same [] y x = or-false (same y x)
known-push same (z ∷ ys) y x = by_first (same z x) (known-push same ys y x)
  where
    by_first : (a : Bool) → is_known same (ys ++ y ∷ []) x ≡ (is_known same ys x || same y x)
        → (a || is_known same (ys ++ y ∷ []) x) ≡ ((a || is_known same ys x) || same y x)
    by_first true e = refl
    by_first false e = e

-- the name of each number below is among the numbered ones
pub known-numbered : (most n : ℕ) → n < most → is_known same_name (numbered_names most) (numbered n) ≡ true
known-numbered zero n h = absurd (omega (arith, h))
known-numbered (suc k) n h = known-push same_name (numbered_names k) (numbered k) (numbered n)
    ∙ by_number (cases_lt n k) (known-numbered k n)
  where
    by_number : (n < k) ⊎ (k ≤ n) → (n < k → is_known same_name (numbered_names k) (numbered n) ≡ true)
        → (is_known same_name (numbered_names k) (numbered n) || same_name (numbered k) (numbered n)) ≡ true
    by_number (inl l) go = ap (λ v. v || same_name (numbered k) (numbered n)) (go l)
    by_number (inr l) go =
        let same : n ≡ k = omega (arith, l, h) in
        ap (λ v. is_known same_name (numbered_names k) (numbered n) || v)
        (ap (λ m. same_name (numbered m) (numbered n)) (sym same) ∙ same_name-itself (numbered n))
        ∙ or-true (is_known same_name (numbered_names k) (numbered n))

-- ---- names in order

-- the first ones of names in order
pub numbered-front : (n : ℕ) (xs ys : List Text) → are_numbered_from n (xs ++ ys) ≡ true
    → are_numbered_from n xs ≡ true
numbered-front n [] ys h = refl
numbered-front n (x ∷ xs) ys h =
    let p = and_parts (same_name x (numbered n)) _ h in
    and_from (same_name x (numbered n)) (are_numbered_from (suc n) xs) p.0 (numbered-front (suc n) xs ys p.1)

-- and the next one behind them
numbered-push : (n : ℕ) (xs : List Text) (x : Text) → are_numbered_from n xs ≡ true → x ≡ numbered (n + length xs)
    → are_numbered_from n (xs ++ x ∷ []) ≡ true
numbered-push n [] x h e =
    let none : n + 0 ≡ n = omega arith in
    and_from (same_name x (numbered n)) true
    (ap (same_name x) (sym (e ∙ ap numbered none)) ∙ same_name-itself x) refl
numbered-push n (y ∷ xs) x h e =
    let p = and_parts (same_name y (numbered n)) _ h in
    let same : n + suc (length xs) ≡ suc n + length xs = omega arith in
    and_from (same_name y (numbered n)) (are_numbered_from (suc n) (xs ++ x ∷ [])) p.0
    (numbered-push (suc n) xs x p.1 (e ∙ ap numbered same))

-- so the names of all numbers are in order
pub numbered-names : (m : ℕ) → are_numbered_from 0 (numbered_names m) ≡ true
numbered-names zero = refl
numbered-names (suc m) = numbered-push 0 (numbered_names m) (numbered m) (numbered-names m)
    (ap numbered (let e : m ≡ 0 + length (numbered_names m) = omega (arith, length-numbered_names m) in e))
