-- What holds of all items holds of the one at a place and of those behind it.
use Rattle.std.proofs.Common.{◌≡◌, ◌+◌, ◌<◌, ℕ, zero, suc, List, [], ◌∷◌, Bool, true, false, length, map, drop, get_or}
use Rattle.std.proofs.Common.{refl, sym, subst, arith}
use Rattle.std.specs.Prelude.{Some, not, cond, position}
use Rattle.std.specs.List.{AllByRecursion, position_or_len}
use Rattle.std.specs.Str.{bytes_eq}
use Rattle.std.proofs.lemmas.Slice.Eq.{bytes_eq-Decides}
use Rattle.mp_io.specs.Devices.{Text}
use Rattle.mp_term.specs.Signature.{Sig}
use Rattle.mp_pattern.specs.Planned.{IsPlanned, planned_rule, rule_plan}
use Rattle.mp_pattern.specs.SoundRule.{IsSoundRule}
use Rattle.mp_pattern.specs.declared.planned.PlannedRule.{PlannedRule}
use Rattle.mp_matches.proofs.BehindLaws.{position-some}

module _ {A X : Type 0} (view : A → X) (P : X → Type 0) where
  all-get : (xs : List A) (i : ℕ) (x : A) → AllByRecursion P (map view xs) → i < length xs → P (view (get_or xs i x))
  all-get [] i x h k = absurd (omega (arith, k))
  all-get (y ∷ xs) zero x h k = h.0
  all-get (y ∷ xs) (suc i) x h k = all-get xs i x h.1 (omega (arith, k))

  pub all-at : (xs : List A) (i : ℕ) (x : A) → AllByRecursion P (map view xs) → i < length xs → x ≡ get_or xs i x
      → P (view x)
  all-at xs i x h k is = subst (λ y. P (view y)) (sym is) (all-get xs i x h k)

  pub all-behind : (xs : List A) (n : ℕ) → AllByRecursion P (map view xs) → AllByRecursion P (map view (drop n xs))
  all-behind xs zero h = h
  all-behind [] (suc n) h = tt
  all-behind (x ∷ xs) (suc n) h = all-behind xs n h.1

module _ {A : Type 0} (test : A → Bool) where
  -- the item at the first place passes
  passes : (xs : List A) (d : A) → position_or_len test xs < length xs
      → test (get_or xs (position_or_len test xs) d) ≡ true
  passes [] d h = absurd (omega (arith, h))
  passes (x ∷ xs) d h = go (passes xs d) (test x) refl h
    where
      go : (position_or_len test xs < length xs → test (get_or xs (position_or_len test xs) d) ≡ true)
          → (b : Bool) → test x ≡ b → cond (not b) (1 + position_or_len test xs) 0 < length (x ∷ xs)
          → test (get_or (x ∷ xs) (cond (not b) (1 + position_or_len test xs) 0) d) ≡ true
      go later true e k = e
      go later false e k =
          let place : suc (position_or_len test xs) ≡ 1 + position_or_len test xs = omega arith in
          subst (λ m. test (get_or (x ∷ xs) m d) ≡ true) place (later (omega (arith, k)))

  -- the place that is told is one of the list
  pub position-within : (xs : List A) (i : ℕ) → position test xs ≡ Some i → i < length xs
  position-within xs i e = let p = position-some test xs i e in omega (arith, p.0, p.1)

  -- the item at the place that is told passes
  pub position-passes : (xs : List A) (i : ℕ) (x : A) → position test xs ≡ Some i → x ≡ get_or xs i x → test x ≡ true
  position-passes xs i x e is =
      let p = position-some test xs i e in
      subst (λ y. test y ≡ true) (sym is) (subst (λ n. test (get_or xs n x) ≡ true) p.0 (passes xs x p.1))

-- the item at the place of a name has it
pub position-named : {A : Type 0} (name : A → Text) (word : Text) (xs : List A) (i : ℕ) (x : A)
    → position (λ a. bytes_eq (name a) word) xs ≡ Some i → x ≡ get_or xs i x → name x ≡ word
position-named name word xs i x e is =
    (bytes_eq-Decides (name x) word).0 (position-passes (λ a. bytes_eq (name a) word) xs i x e is)

-- planned rules are sound
pub planned-sound : (sig : Sig) (ps : List PlannedRule) → AllByRecursion (IsPlanned sig) (map rule_plan ps)
    → AllByRecursion (IsSoundRule sig) (map planned_rule ps)
planned-sound sig [] h = tt
planned-sound sig (p ∷ ps) h = (h.0.sound, planned-sound sig ps h.1)
