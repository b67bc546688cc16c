-- The first line of a text ends at the first line feed.
use Rattle.std.proofs.Common.{◌≡◌, ◌<◌, ℕ, zero, suc, true, false, [], ◌∷◌, take, drop}
use Rattle.std.proofs.Common.{length, get_or, refl, ap, ◌∙◌, arith}
use Rattle.std.specs.Prelude.{nat_eq, if◌then◌else◌}
use Rattle.std.proofs.lemmas.Bool.{eqb-true, false_from_ne_true}
use Rattle.memchr.specs.Find.{Nowhere, NoneBefore, Passes, is_byte}
use Rattle.mp_io.specs.Devices.{Text}
use Rattle.mp_program.specs.FormText.{lines_of, begin_line_with}
use Rattle.mp_vm.specs.FirstLine.{IsFirstLine}

line-at : (t : Text) (i : ℕ) → i < length t → nat_eq (get_or t i 0) 10 ≡ true
    → ((k : ℕ) → k < i → nat_eq (get_or t k 0) 10 ≡ false) → IsFirstLine t (take i t) (drop (suc i) t)
line-at [] i w e n = absurd (omega (arith, w))
line-at (c ∷ t) zero w e n = record {
  parts = ap (λ d. d ∷ t) (eqb-true c 10 e);
  lines = ap (λ b. if b then [] ∷ lines_of t else begin_line_with c (lines_of t)) e;
}
line-at (c ∷ t) (suc i) w e n =
    let h = line-at t i (omega (arith, w)) e (λ k below. n (suc k) (omega (arith, below))) in
    record {
      parts = ap (λ l. c ∷ l) h.parts;
      lines = ap (λ b. if b then [] ∷ lines_of t else begin_line_with c (lines_of t)) (n 0 (omega arith))
          ∙ ap (begin_line_with c) h.lines;
    }

-- a text is split there
pub line-first : (t : Text) (i : ℕ) → NoneBefore (Passes (is_byte 10) t) 0 (length t) i → Passes (is_byte 10) t i
    → IsFirstLine t (take i t) (drop (suc i) t)
line-first t i first at =
    line-at t i first.high at (λ k below. false_from_ne_true _ (first.before k (omega arith) below))

lines-none : (t : Text) → ((k : ℕ) → k < length t → nat_eq (get_or t k 0) 10 ≡ false) → lines_of t ≡ []
lines-none [] h = refl
lines-none (c ∷ t) h =
    ap (λ b. if b then [] ∷ lines_of t else begin_line_with c (lines_of t)) (h 0 (omega arith))
    ∙ ap (begin_line_with c) (lines-none t (λ k within. h (suc k) (omega (arith, within))))

-- without a line feed a text has no lines
pub lines-nowhere : (t : Text) → Nowhere (Passes (is_byte 10) t) 0 (length t) → lines_of t ≡ []
lines-nowhere t none = lines-none t (λ k within. false_from_ne_true _ (none k (omega arith) within))
