-- The last ` if ` of the letters, digits and blanks with which a text begins stands at one place.
use Rattle.std.proofs.Common.{◌≡◌, ◌++◌, ℕ, Bool, true, false, [], ◌∷◌, take, inl, inr, refl, sym, ap}
use Rattle.std.proofs.Common.{subst, ◌∙◌}
use Rattle.std.proofs.Common.{◌≤◌, ◌<◌, suc, length, drop, get_or}
use Rattle.std.specs.Prelude.{codes, bytes_eq, ◌⊎◌, ◌||◌}
use Rattle.std.specs.List.{list_all}
use Rattle.std.proofs.lemmas.Bool.{and_parts}
use Rattle.std.proofs.lemmas.List.{append-nil, append_cancel_left, take-append-drop, take_all}
use Rattle.std.proofs.lemmas.Slice.Eq.{bytes_eq-Decides}
use Rattle.std.proofs.Math.Seq.{drop-cons}
use Rattle.std.proofs.Math.Bool.{or-true}
use Rattle.mp_io.specs.Devices.{Text}
use Rattle.mp_line.specs.Words.{is_letter_or_blank, IsFrontOfWords, has_if, IsSplitAtIf}

-- ---- ` if `

-- it stands in a text that has it
pub has_if-inside : (x s : Text) → has_if (x ++ (codes " if " ++ s)) ≡ true
has_if-inside [] s = refl
has_if-inside (c ∷ x) s =
    ap (λ v. bytes_eq (take 4 (c ∷ (x ++ (codes " if " ++ s)))) (codes " if ") || v) (has_if-inside x s)
    ∙ or-true (bytes_eq (take 4 (c ∷ (x ++ (codes " if " ++ s)))) (codes " if "))

-- so a text without it is no such text
pub no-if : (t x s : Text) → has_if t ≡ false → t ≡ x ++ (codes " if " ++ s) → ⊥
no-if t x s none e = let wrong : true ≡ false = sym (has_if-inside x s) ∙ (ap has_if (sym e) ∙ none) in cc

-- two ways to cut a text at its last ` if ` are one
splits : (f b g d : Text) → f ++ (codes " if " ++ b) ≡ g ++ (codes " if " ++ d) → has_if (codes "if " ++ b) ≡ false
    → has_if (codes "if " ++ d) ≡ false → (f ≡ g) × (b ≡ d)
splits [] b [] d e p q = (refl, append_cancel_left (codes " if ") b d e)
splits [] b (c ∷ g) d e p q =
    absurd (no-if (codes "if " ++ b) g d p (let rest : codes "if " ++ b ≡ g ++ (codes " if " ++ d) = cc in rest))
splits (c ∷ f) b [] d e p q =
    absurd (no-if (codes "if " ++ d) f b q (let rest : f ++ (codes " if " ++ b) ≡ codes "if " ++ d = cc in sym rest))
splits (c ∷ f) b (a ∷ g) d e p q =
    let here : c ≡ a = cc in
    let rest : f ++ (codes " if " ++ b) ≡ g ++ (codes " if " ++ d) = cc in
    let h = splits f b g d rest p q in
    let front = h.0 in
    (cc, h.1)

-- a text is split at the last ` if ` in one way
pub last_if-only : (t f b g d : Text) → IsSplitAtIf t f b → IsSplitAtIf t g d → (f ≡ g) × (b ≡ d)
last_if-only t f b g d h k = splits f b g d (sym h.parts ∙ k.parts) h.last k.last

-- ---- letters, digits and blanks

-- what comes behind them doesn't begin so
other-begin : (c : ℕ) (cs : Text)
    → (c ∷ cs ≡ []) ⊎ ((d : ℕ) × (rest : Text) × (c ∷ cs ≡ d ∷ rest) × (is_letter_or_blank d ≡ false))
    → is_letter_or_blank c ≡ false
other-begin c cs (inl e) = absurd cc
other-begin c cs (inr h) =
    let e = h.2 in
    let same : c ≡ h.0 = cc in
    ap is_letter_or_blank same ∙ h.3

-- two fronts of letters, digits and blanks that stop where other bytes begin are one
fronts : (w r x s : Text) → w ++ r ≡ x ++ s → list_all is_letter_or_blank w ≡ true → list_all is_letter_or_blank x
    ≡ true
    → (r ≡ []) ⊎ ((d : ℕ) × (rest : Text) × (r ≡ d ∷ rest) × (is_letter_or_blank d ≡ false))
    → (s ≡ []) ⊎ ((d : ℕ) × (rest : Text) × (s ≡ d ∷ rest) × (is_letter_or_blank d ≡ false)) → (w ≡ x) × (r ≡ s)
fronts [] r [] s e v u p q = (refl, e)
fronts [] r (c ∷ x) s e v u p q =
    let other = other-begin c (x ++ s) (subst (λ t. (t ≡ []) ⊎ ((d : ℕ) × (rest : Text) × (t ≡ d ∷ rest)
    × (is_letter_or_blank d ≡ false))) e p) in
    let here = (and_parts (is_letter_or_blank c) (list_all is_letter_or_blank x) u).0 in
    let wrong : true ≡ false = sym here ∙ other in cc
fronts (c ∷ w) r [] s e v u p q =
    let other = other-begin c (w ++ r) (subst (λ t. (t ≡ []) ⊎ ((d : ℕ) × (rest : Text) × (t ≡ d ∷ rest)
    × (is_letter_or_blank d ≡ false))) (sym e) q) in
    let here = (and_parts (is_letter_or_blank c) (list_all is_letter_or_blank w) v).0 in
    let wrong : true ≡ false = sym here ∙ other in cc
fronts (c ∷ w) r (b ∷ x) s e v u p q =
    let here : c ≡ b = cc in
    let rest : w ++ r ≡ x ++ s = cc in
    let h = fronts w r x s rest (and_parts (is_letter_or_blank c) (list_all is_letter_or_blank w) v).1
    (and_parts (is_letter_or_blank b) (list_all is_letter_or_blank x) u).1 p q in
    let front = h.0 in
    (cc, h.1)

-- a text begins with them in one way
pub front_of_words-only : (t w r x s : Text) → IsFrontOfWords t w r → IsFrontOfWords t x s → (w ≡ x) × (r ≡ s)
front_of_words-only t w r x s h g = fronts w r x s (sym h.parts ∙ g.parts) h.all g.all h.ends g.ends

-- ---- what loops find

-- or with the text
pub front-whole : (t r : Text) (i : ℕ) → length t ≤ i → list_all is_letter_or_blank (take i t) ≡ true → r ≡ []
    → IsFrontOfWords t t r
front-whole t r i past all none = record {
  parts = sym (ap (λ x. t ++ x) none ∙ append-nil t);
  all = ap (list_all is_letter_or_blank) (sym (take_all i t past)) ∙ all;
  ends = inl none;
}

-- ` if ` at a place, and not behind it
pub if-found : (t : Text) (i : ℕ) (rest : Text) → i < length t → drop i t ≡ codes " if " ++ rest
    → has_if (drop (suc i) t) ≡ false → IsSplitAtIf t (take i t) rest
if-found t i rest within here none =
    let e = sym (drop-cons t i 0 within) ∙ here in
    let behind : drop (suc i) t ≡ codes "if " ++ rest = cc in
    record {
      parts = sym (take-append-drop i t) ∙ ap (λ x. take i t ++ x) here;
      last = ap has_if (sym behind) ∙ none;
    }

-- one place more without it
pub if-more : (t : Text) (i : ℕ) → i < length t → ((rest : Text) → drop i t ≡ codes " if " ++ rest → ⊥)
    → has_if (drop (suc i) t) ≡ false → has_if (drop i t) ≡ false
if-more t i within none behind =
    ap has_if (drop-cons t i 0 within)
    ∙ go (bytes_eq (take 4 (get_or t i 0 ∷ drop (suc i) t)) (codes " if ")) refl
  where
    go : (v : Bool) → bytes_eq (take 4 (get_or t i 0 ∷ drop (suc i) t)) (codes " if ") ≡ v
        → (bytes_eq (take 4 (get_or t i 0 ∷ drop (suc i) t)) (codes " if ") || has_if (drop (suc i) t)) ≡ false
    go false e = ap (λ v. v || has_if (drop (suc i) t)) e ∙ behind
    go true e =
        let all = get_or t i 0 ∷ drop (suc i) t in
        let here = (bytes_eq-Decides (take 4 all) (codes " if ")).0 e in
        absurd (none (drop 4 all)
        (drop-cons t i 0 within ∙ (sym (take-append-drop 4 all) ∙ ap (λ x. x ++ drop 4 all) here)))
