-- A text is split at the first, and at the last, such byte in one way.
use Rattle.std.proofs.Common.{◌≡◌, ◌<◌, ◌≤◌, ℕ, zero, suc, Bool, true, false, [], ◌∷◌, ◌++◌, take, drop}
use Rattle.std.proofs.Common.{length}
use Rattle.std.proofs.Common.{get_or, inl, inr, refl, sym, ap, ◌∙◌, arith}
use Rattle.std.specs.Prelude.{nat_eq, nat_lt, ◌+◌, ◌||◌, Some, None, cond}
use Rattle.std.specs.List.{list_any, position, position_or_len}
use Rattle.std.proofs.lemmas.Bool.{eqb-true, eq-eqb, ltb-false}
use Rattle.std.proofs.lemmas.List.Quantifiers.{position-Some}
use Rattle.std.proofs.lemmas.List.Sums.{fails_before_first}
use Rattle.std.proofs.lemmas.List.{take-append-drop, append-nil, append_cancel_left, append_cancel_right}
use Rattle.std.proofs.lemmas.List.{length-append}
use Rattle.std.proofs.Math.Bool.{or-true}
use Rattle.std.proofs.Math.Seq.{drop-cons, take-append_seam, drop-append_seam}
use Rattle.std.specs.Prelude.{bytes_eq}
use Rattle.std.proofs.lemmas.Slice.Eq.{bytes_eq-Decides}
use Rattle.mp_io.specs.Devices.{Text}
use Rattle.mp_line.specs.Finds.{IsOnly}
use Rattle.mp_line.specs.Words.{IsWithout, IsLastPlace, IsSplitAtFirst, IsSplitAtLast, IsFirstWord}

module _ (b : ℕ) where
  -- the byte is in a text that has it
  known : (x s : Text) → list_any (λ c. nat_eq c b) (x ++ b ∷ s) ≡ true
  known [] s = ap (λ t. t || list_any (λ c. nat_eq c b) s) (eq-eqb b b refl)
  known (c ∷ x) s = ap (λ t. nat_eq c b || t) (known x s) ∙ or-true (nat_eq c b)

  -- no byte of a text without it is it
  pub without-first : (c : ℕ) (cs : Text) → IsWithout b (c ∷ cs) → c ≡ b → ⊥
  without-first c cs h e =
      let here = eq-eqb c b e in
      let wrong : true ≡ false = sym (ap (λ t. t || list_any (λ c. nat_eq c b) cs) here) ∙ h in cc

  -- a byte that is not in a text is not in what stands behind its first byte
  pub without-rest : (c : ℕ) (cs : Text) → IsWithout b (c ∷ cs) → IsWithout b cs
  without-rest c cs h = go (nat_eq c b) h
    where
      go : (t : Bool) → (t || list_any (λ c. nat_eq c b) cs) ≡ false → IsWithout b cs
      go false h = h
      go true h = (let wrong : true ≡ false = h in cc)

  -- a byte that stands in a text is in it
  pub with-none : (x s : Text) → IsWithout b (x ++ b ∷ s) → ⊥
  with-none x s h = let wrong : true ≡ false = sym (known x s) ∙ h in cc

  fronts : (w r x s : Text) → w ++ b ∷ r ≡ x ++ b ∷ s → IsWithout b w → IsWithout b x → (w ≡ x) × (r ≡ s)
  fronts [] r [] s e v u = (refl, cc)
  fronts [] r (c ∷ x) s e v u = absurd (without-first c x u (let same : c ≡ b = cc in same))
  fronts (c ∷ w) r [] s e v u = absurd (without-first c w v (let same : c ≡ b = cc in same))
  fronts (c ∷ w) r (d ∷ x) s e v u =
      let here : c ≡ d = cc in
      let rest : w ++ b ∷ r ≡ x ++ b ∷ s = cc in
      let h = fronts w r x s rest (without-rest c w v) (without-rest d x u) in
      let front = h.0 in
      (cc, h.1)

  backs : (w r x s : Text) → w ++ b ∷ r ≡ x ++ b ∷ s → IsWithout b r → IsWithout b s → (w ≡ x) × (r ≡ s)
  backs [] r [] s e v u = (refl, cc)
  backs [] r (c ∷ x) s e v u = absurd (with-none x s (let same : r ≡ x ++ b ∷ s = cc in rw same at v))
  backs (c ∷ w) r [] s e v u = absurd (with-none w r (let same : s ≡ w ++ b ∷ r = cc in rw same at u))
  backs (c ∷ w) r (d ∷ x) s e v u =
      let here : c ≡ d = cc in
      let rest : w ++ b ∷ r ≡ x ++ b ∷ s = cc in
      let h = backs w r x s rest v u in
      let front = h.0 in
      (cc, h.1)

  -- so a text has one first such byte
  pub first-only : (t w r x s : Text) → IsSplitAtFirst b t w r → IsSplitAtFirst b t x s → (w ≡ x) × (r ≡ s)
  first-only t w r x s h g = fronts w r x s (sym h.parts ∙ g.parts) h.first g.first

  -- and one last such byte
  pub last-only : (t w r x s : Text) → IsSplitAtLast b t w r → IsSplitAtLast b t x s → (w ≡ x) × (r ≡ s)
  last-only t w r x s h g = backs w r x s (sym h.parts ∙ g.parts) h.last g.last

  -- a text at the place of a byte
  pub parts-at : (t : Text) (i : ℕ) → i < length t → get_or t i 0 ≡ b → t ≡ take i t ++ b ∷ drop (suc i) t
  parts-at t i within is = sym (take-append-drop i t)
      ∙ ap (λ l. take i t ++ l) (drop-cons t i 0 within ∙ ap (λ c. c ∷ drop (suc i) t) is)

  -- no byte of the text is it
  pub without-all : (t : Text) → ((k : ℕ) → k < length t → nat_eq (get_or t k 0) b ≡ false) → IsWithout b t
  without-all [] h = refl
  without-all (c ∷ t) h = ap (λ v. v || list_any (λ c. nat_eq c b) t) (h 0 (omega arith))
      ∙ without-all t (λ k within. h (suc k) (omega arith))

  -- no byte before a place is it
  pub without-take : (t : Text) (i : ℕ) → ((k : ℕ) → k < i → nat_eq (get_or t k 0) b ≡ false) → IsWithout b (take i t)
  without-take t zero h = refl
  without-take [] (suc i) h = refl
  without-take (c ∷ t) (suc i) h =
      ap (λ v. v || list_any (λ c. nat_eq c b) (take i t)) (h 0 (omega arith))
      ∙ without-take t i (λ k below. h (suc k) (omega arith))

  -- no byte behind a place is it
  pub without-drop : (t : Text) (i : ℕ) → ((k : ℕ) → i < k → k < length t → nat_eq (get_or t k 0) b ≡ false)
      → IsWithout b (drop (suc i) t)
  without-drop [] i h = refl
  without-drop (c ∷ t) zero h = without-all t (λ k within. h (suc k) (omega arith) (omega arith))
  without-drop (c ∷ t) (suc i) h = without-drop t i (λ k above within. h (suc k) (omega arith) (omega arith))

  -- where no place is found, the byte isn't in the text
  pub without-position : (t : Text) → position (λ c. nat_eq c b) t ≡ None → IsWithout b t
  without-position t e = without-all t (go (position_or_len (λ c. nat_eq c b) t) refl)
    where
      go : (n : ℕ) → position_or_len (λ c. nat_eq c b) t ≡ n → (k : ℕ) → k < length t → nat_eq (get_or t k 0) b ≡ false
      go n is k within = by_test (nat_lt n (length t)) refl (ap (λ m. cond (nat_lt m (length t)) (Some m) None)
          (sym is) ∙ e)
        where
          by_test : (v : Bool) → nat_lt n (length t) ≡ v → cond (nat_lt n (length t)) (Some n) None ≡ None
              → nat_eq (get_or t k 0) b ≡ false
          by_test true same h = (let wrong : Some n ≡ None = ap (λ v. cond v (Some n) None) (sym same) ∙ h in cc)
          by_test false same h = fails_before_first (λ c. nat_eq c b) t k 0
              (let past : length t ≤ n = ltb-false n (length t) same in omega (arith, is))

  -- the text is split at the first place
  pub split-position : (t : Text) (i : ℕ) → position (λ c. nat_eq c b) t ≡ Some i
      → IsSplitAtFirst b t (take i t) (drop (suc i) t)
  split-position t i e =
      let h = position-Some (λ c. nat_eq c b) t i 0 e in
      record { parts = parts-at t i h.0 (eqb-true (get_or t i 0) b h.1); first = without-take t i h.2 }

  -- and at the last one
  pub split-last : (t : Text) (i : ℕ) → IsLastPlace b t i → IsSplitAtLast b t (take i t) (drop (suc i) t)
  split-last t i h = record { parts = parts-at t i h.within h.here; last = without-drop t i h.behind }

-- the first word ends before the first blank
pub cut-position : (t : Text) (i : ℕ) → position (λ c. nat_eq c 32) t ≡ Some i → IsFirstWord t (take i t) (drop i t)
cut-position t i e =
    let h = split-position 32 t i e in
    record {
      parts = sym (take-append-drop i t);
      bare = h.first;
      ends = inr (
        drop (suc i) t,
        append_cancel_left (take i t) (drop i t) (32 ∷ drop (suc i) t)
            (take-append-drop i t ∙ h.parts),
      );
    }

-- where there is none, the text is its first word
pub cut-none : (t r : Text) → position (λ c. nat_eq c 32) t ≡ None → r ≡ [] → IsFirstWord t t r
cut-none t r e end = record {
  parts = sym (ap (λ l. t ++ l) end ∙ append-nil t);
  bare = without-position 32 t e;
  ends = inl end;
}

-- ---- fronts and ends

module _ (s : Text) where
  -- what stands behind a front is found
  pub behind-found : (front : Text) → take (length front) s ≡ front
      → IsOnly (λ rest. s ≡ front ++ rest) (drop (length front) s)
  behind-found front e =
      let parts = sym (take-append-drop (length front) s) ∙ ap (λ l. l ++ drop (length front) s) e in
      record { is = parts; only = λ rest g. append_cancel_left front rest (drop (length front) s) (sym g ∙ parts) }

  -- a text with a front begins so
  pub behind-begins : (front rest : Text) → s ≡ front ++ rest
      → (length front ≤ length s) × (take (length front) s ≡ front)
  behind-begins front rest e = (
    omega (arith, ap length e, length-append front rest),
    ap (take (length front)) e ∙ take-append_seam front rest,
  )

  -- what stands before an end is found
  pub before-found : (end : Text) (at : ℕ) → drop at s ≡ end → IsOnly (λ rest. s ≡ rest ++ end) (take at s)
  before-found end at e =
      let parts = sym (take-append-drop at s) ∙ ap (λ l. take at s ++ l) e in
      record { is = parts; only = λ rest g. append_cancel_right rest (take at s) end (sym g ∙ parts) }

  -- a text with an end ends so
  pub before-ends : (end rest : Text) → s ≡ rest ++ end
      → (length end ≤ length s) × ((at : ℕ) → at + length end ≡ length s → drop at s ≡ end)
  before-ends end rest e = (
    omega (arith, ap length e, length-append rest end),
    λ at h. (
        let same : at ≡ length rest = omega (arith, ap length e, length-append rest end) in
        ap (λ n. drop n s) same ∙ (ap (drop (length rest)) e ∙ drop-append_seam rest end)
        ),
  )

-- ---- texts that differ

-- texts that begin otherwise differ
pub apart : (n : ℕ) (s t : Text) → bytes_eq (take n s) (take n t) ≡ false → s ≡ t → ⊥
apart n s t other e =
    let wrong : true ≡ false = sym ((bytes_eq-Decides (take n s) (take n t)).1 (ap (take n) e)) ∙ other in cc
