-- The tokens of the bytes are the first token and the tokens behind it.
use Rattle.std.proofs.Common.{◌≡◌, ℕ, zero, suc, ◌+◌, ◌<◌, ◌≤◌, Bool, true, false, cond, List, [], ◌∷◌, length, take}
use Rattle.std.proofs.Common.{drop, refl, ap, ◌∙◌, arith, length-drop}
use Rattle.std.specs.Prelude.{◌||◌, ◌==◌}
use Rattle.std.specs.List.{prefix_len}
use Rattle.std.proofs.lemmas.List.Folds.{length-prefix_len}
use Rattle.mp_parser.specs.declared.place.Place.{Place}
use Rattle.mp_parser.specs.Tokens.{Token, End, Placed, after_byte, is_blank, is_word_byte, is_sign_byte}
use Rattle.mp_parser.specs.Lexing.{token_at, behind, first_tokens, lexemes, after_blanks, run_at, kind_at, settled}
use Rattle.mp_parser.specs.Lexing.{with_underscores, word_or_wildcard_at, sign_at, punct_at, least, is_underscore}
use Rattle.mp_parser.specs.Machine.{is_end}

with_underscores-positive : (name : List ℕ) (marks : ℕ) (after : List ℕ) → 0 < length name + marks
    → 0 < (with_underscores name marks after).1
with_underscores-positive name zero after h = omega (arith, h)
with_underscores-positive name (suc zero) after h = omega arith
with_underscores-positive name (suc (suc n)) after h = omega arith

least-positive : (n : ℕ) → 0 < least 3 (1 + n)
least-positive n = grind arith

pub front-positive : (p q : ℕ → Bool) (b : ℕ) (bs : List ℕ) → (p b || q b) ≡ true
    → 0 < length (take (prefix_len p (b ∷ bs)) (b ∷ bs))
    + least 3 (prefix_len q (drop (prefix_len p (b ∷ bs)) (b ∷ bs)))
front-positive p q b bs h = go (p b) (q b) refl refl h
  where
    go : (v w : Bool) → p b ≡ v → q b ≡ w → (v || w) ≡ true
        → 0 < length (take (prefix_len p (b ∷ bs)) (b ∷ bs))
        + least 3 (prefix_len q (drop (prefix_len p (b ∷ bs)) (b ∷ bs)))
    go true w e f g = omega (arith, length-prefix_len p (b ∷ bs), ap (λ v. cond v (1 + prefix_len p bs) 0) e)
    go false true e f g = rw (e, f) (omega (arith, least-positive (prefix_len q bs)))
    go false false e f g = absurd cc

front-sign-positive : (p : ℕ → Bool) (b : ℕ) (bs : List ℕ) → p b ≡ true → 0 < prefix_len p (b ∷ bs)
front-sign-positive p b bs e = omega (arith, ap (λ v. cond v (1 + prefix_len p bs) 0) e)

run_at-positive : (bytes : List ℕ) → is_end (run_at bytes).0 ≡ false → 0 < (run_at bytes).1
run_at-positive [] h = absurd cc
run_at-positive (b ∷ bs) h = go (is_word_byte b || is_underscore b) refl (is_sign_byte b) refl
  where
    go : (v : Bool) → (is_word_byte b || is_underscore b) ≡ v → (w : Bool) → is_sign_byte b ≡ w
        → 0 < (cond v (word_or_wildcard_at (b ∷ bs)) (cond w (sign_at (b ∷ bs)) (punct_at b, 1))).1
    go true e w f = with_underscores-positive _ _ _ (front-positive is_word_byte is_underscore b bs e)
    go false e true f = front-sign-positive is_sign_byte b bs f
    go false e false f = omega arith

is_end-settled : (t : Token) → is_end (settled t) ≡ false → is_end t ≡ false
is_end-settled End h = h
is_end-settled _ h = refl

kind_at-positive : (bytes : List ℕ) → is_end (kind_at bytes).0 ≡ false → 0 < (kind_at bytes).1
kind_at-positive bytes h = run_at-positive bytes (is_end-settled (run_at bytes).0 h)

kind_at-nonempty : (bytes : List ℕ) → is_end (kind_at bytes).0 ≡ false → 0 < length bytes
kind_at-nonempty [] h = absurd cc
kind_at-nonempty (b ∷ bs) h = omega arith

after_blanks-le : (inside : Bool) (bytes : List ℕ) (place : Place)
    → length (after_blanks inside bytes place).0 ≤ length bytes
after_blanks-le inside [] place = omega arith
after_blanks-le true (b ∷ bs) place = omega (arith, after_blanks-le (cond (b == 10) false true) bs (after_byte place b))
after_blanks-le false (b ∷ bs) place = go (b == 35) (is_blank b) (after_blanks-le true bs (after_byte place b))
    (after_blanks-le false bs (after_byte place b))
  where
    go : (v w : Bool) → length (after_blanks true bs (after_byte place b)).0 ≤ length bs
        → length (after_blanks false bs (after_byte place b)).0 ≤ length bs
        → length
        (cond v (after_blanks true bs (after_byte place b))
        (cond w (after_blanks false bs (after_byte place b)) (b ∷ bs, place))).0 ≤ suc (length bs)
    go true w h k = omega (arith, h)
    go false true h k = omega (arith, k)
    go false false h k = omega arith

-- behind a token that isn't the end, fewer bytes are left
pub shrinks : (bytes : List ℕ) (place : Place) → is_end (token_at bytes place).0.token ≡ false
    → length (token_at bytes place).1.0 < length bytes
shrinks bytes place h =
    let start = after_blanks false bytes place in
    omega (
      arith,
      length-drop (kind_at start.0).1 start.0,
      kind_at-positive start.0 h,
      kind_at-nonempty start.0 h,
      after_blanks-le false bytes place,
    )

behind-same : (t : Token) (xs ys : List Placed) → (is_end t ≡ false → xs ≡ ys) → behind t xs ≡ behind t ys
behind-same End xs ys h = refl
behind-same _ xs ys h = h refl

enough : (n m : ℕ) (bytes : List ℕ) (place : Place) → length bytes < n → length bytes < m
    → first_tokens n bytes place ≡ first_tokens m bytes place
enough zero m bytes place h k = absurd (omega arith)
enough (suc n) zero bytes place h k = absurd (omega arith)
enough (suc n) (suc m) bytes place h k =
    let next = token_at bytes place in
    ap (λ ts. next.0 ∷ ts)
    (behind-same next.0.token _ _
    (λ e. enough n m next.1.0 next.1.1 (omega (arith, shrinks bytes place e))
    (omega (arith, shrinks bytes place e))))

pub lexemes-step : (bytes : List ℕ) (place : Place)
    → lexemes bytes place ≡ (token_at bytes place).0
    ∷ behind (token_at bytes place).0.token (lexemes (token_at bytes place).1.0 (token_at bytes place).1.1)
unfolding lexemes
lexemes-step bytes place =
    let next = token_at bytes place in
    ap (λ ts. next.0 ∷ ts)
    (behind-same next.0.token _ _
    (λ e. enough (length bytes) (suc (length next.1.0)) next.1.0 next.1.1 (shrinks bytes place e) (omega arith)))

pub lexemes-next : (bytes : List ℕ) (place : Place) (t : Placed) (rest : List ℕ) (after : Place)
    → token_at bytes place ≡ (t, (rest, after)) → lexemes bytes place ≡ t ∷ behind t.token (lexemes rest after)
lexemes-next bytes place t rest after e =
    lexemes-step bytes place ∙ ap (λ (x : Placed × (List ℕ × Place)). x.0 ∷ behind x.0.token (lexemes x.1.0 x.1.1)) e
