-- What is printed of matches one after the other, and of those behind the match of a token.
use Rattle.std.proofs.Common.{◌≡◌, ◌<◌, zero, suc, List, [], ◌∷◌, ◌++◌, length, Bool, true, false, Some, None, refl, ap}
use Rattle.std.proofs.Common.{sym, ◌∙◌, arith, append_assoc, append-nil, length-append}
use Rattle.std.specs.Prelude.{Option, ◌||◌, if◌then◌else◌}
use Rattle.std.specs.Str.{bytes_eq}
use Rattle.std.specs.List.{AllByRecursion}
use Rattle.mp_io.specs.Devices.{Text}
use Rattle.mp_term.specs.Signature.{Sig}
use Rattle.mp_matches.specs.Computed.{behind_token}
use Rattle.mp_matches.specs.Left.{Left, all, one_and, full, printed, text_before}
use Rattle.mp_matches.specs.Match.{Match, match_line, more_line}
use Rattle.mp_matches.specs.Printed.{has_some}
use Rattle.mp_matches.specs.TokenOf.{token_of}

-- ---- texts

-- a text before a text before what is printed
pub text_before-text_before : (a b : Text) (p : Text × Option Left)
    → text_before a (text_before b p) ≡ text_before (a ++ b) p
text_before-text_before a b p = ap (λ t. (t, p.1)) (sym (append_assoc a b p.0))

-- one of two texts has a byte
pub has_some-append : (a b : Text) → has_some (a ++ b) ≡ (has_some a || has_some b)
has_some-append [] b = refl
has_some-append (x ∷ a) b = refl

-- a text that isn't empty has a byte
pub has_some-long : (text : Text) → 0 < length text → has_some text ≡ true
has_some-long [] h = absurd (omega (arith, h))
has_some-long (x ∷ text) h = refl

-- so has one with such a text behind it
pub has_some-behind : (a b : Text) → 0 < length b → has_some (a ++ b) ≡ true
has_some-behind [] b h = has_some-long b h
has_some-behind (x ∷ a) b h = refl

-- a line isn't empty
pub length-match_line : (sig : Sig) (m : Match) → 0 < length (match_line sig m)
length-match_line sig m = simp length-append (omega arith)

pub length-more_line : (token : Text) → 0 < length (more_line token)
length-more_line token = omega arith

-- ---- what is printed

module _ (sig : Sig) where
  -- the lines of matches and of others behind them, where more may be printed behind the first
  pub printed-append : (left : Left) (ms ns : List Match) (after : Left) → (printed sig left ms).1 ≡ Some after
      → printed sig left (ms ++ ns) ≡ text_before (printed sig left ms).0 (printed sig after ns)
  printed-append left [] ns after e = let same : left ≡ after = cc in ap (λ l. printed sig l ns) same
  printed-append all (m ∷ ms) ns after e =
      ap (text_before (match_line sig m)) (printed-append all ms ns after e)
      ∙ text_before-text_before (match_line sig m) (printed sig all ms).0 (printed sig after ns)
  printed-append (one_and zero) (m ∷ ms) ns after e =
      ap (text_before (match_line sig m)) (printed-append (full (token_of m)) ms ns after e)
      ∙ text_before-text_before (match_line sig m) (printed sig (full (token_of m)) ms).0 (printed sig after ns)
  printed-append (one_and (suc n)) (m ∷ ms) ns after e =
      ap (text_before (match_line sig m)) (printed-append (one_and n) ms ns after e)
      ∙ text_before-text_before (match_line sig m) (printed sig (one_and n) ms).0 (printed sig after ns)
  printed-append (full token) (m ∷ ms) ns after e = cc

  -- the same where no more may be printed
  pub printed-append_none : (left : Left) (ms ns : List Match) → (printed sig left ms).1 ≡ None
      → printed sig left (ms ++ ns) ≡ printed sig left ms
  printed-append_none left [] ns e = cc
  printed-append_none all (m ∷ ms) ns e = ap (text_before (match_line sig m)) (printed-append_none all ms ns e)
  printed-append_none (one_and zero) (m ∷ ms) ns e =
      ap (text_before (match_line sig m)) (printed-append_none (full (token_of m)) ms ns e)
  printed-append_none (one_and (suc n)) (m ∷ ms) ns e =
      ap (text_before (match_line sig m)) (printed-append_none (one_and n) ms ns e)
  printed-append_none (full token) (m ∷ ms) ns e = refl

  -- what is printed of matches is a front of what is printed of them and others
  pub printed-front : (left : Left) (ms ns : List Match)
      → (rest : Text) × ((printed sig left (ms ++ ns)).0 ≡ (printed sig left ms).0 ++ rest)
  printed-front left ms ns = go (printed sig left ms).1 refl
    where
      go : (o : Option Left) → (printed sig left ms).1 ≡ o
          → (rest : Text) × ((printed sig left (ms ++ ns)).0 ≡ (printed sig left ms).0 ++ rest)
      go None e = ([], ap (λ p. p.0) (printed-append_none left ms ns e) ∙ sym (append-nil (printed sig left ms).0))
      go (Some after) e = ((printed sig after ns).0, ap (λ p. p.0) (printed-append left ms ns after e))

  -- something is printed where it is told that others follow
  pub printed-more : (left : Left) (ms : List Match) → (printed sig left ms).1 ≡ None
      → 0 < length (printed sig left ms).0
  printed-more left [] e = cc
  printed-more all (m ∷ ms) e =
      omega (arith, length-append (match_line sig m) (printed sig all ms).0, length-match_line sig m)
  printed-more (one_and zero) (m ∷ ms) e =
      omega (arith, length-append (match_line sig m) (printed sig (full (token_of m)) ms).0, length-match_line sig m)
  printed-more (one_and (suc n)) (m ∷ ms) e =
      omega (arith, length-append (match_line sig m) (printed sig (one_and n) ms).0, length-match_line sig m)
  printed-more (full token) (m ∷ ms) e = length-more_line token

-- ---- behind a token

module _ (token : Text) where
  -- the matches behind the one of the token, and others behind them
  pub behind_token-append : (ms ns rest : List Match) → behind_token token ms ≡ Some rest
      → behind_token token (ms ++ ns) ≡ Some (rest ++ ns)
  behind_token-append [] ns rest e = cc
  behind_token-append (m ∷ ms) ns rest e = go (bytes_eq (token_of m) token) (behind_token-append ms ns rest) e
    where
      go : (b : Bool) → (behind_token token ms ≡ Some rest → behind_token token (ms ++ ns) ≡ Some (rest ++ ns))
          → (if b then Some ms else behind_token token ms) ≡ Some rest
          → (if b then Some (ms ++ ns) else behind_token token (ms ++ ns)) ≡ Some (rest ++ ns)
      go true later e = let same : ms ≡ rest = cc in ap (λ l. Some (l ++ ns)) same
      go false later e = later e

  -- where none of the matches has the token it is one of the others
  pub behind_token-append_none : (ms ns : List Match) → behind_token token ms ≡ None
      → behind_token token (ms ++ ns) ≡ behind_token token ns
  behind_token-append_none [] ns e = refl
  behind_token-append_none (m ∷ ms) ns e = go (bytes_eq (token_of m) token) (behind_token-append_none ms ns) e
    where
      go : (b : Bool) → (behind_token token ms ≡ None → behind_token token (ms ++ ns) ≡ behind_token token ns)
          → (if b then Some ms else behind_token token ms) ≡ None
          → (if b then Some (ms ++ ns) else behind_token token (ms ++ ns)) ≡ behind_token token ns
      go true later e = cc
      go false later e = later e

  -- no match has the token
  pub behind_token-none : (ms : List Match) → AllByRecursion (λ m. bytes_eq (token_of m) token ≡ false) ms
      → behind_token token ms ≡ None
  behind_token-none [] h = refl
  behind_token-none (m ∷ ms) h =
      ap (λ b. if b then Some ms else behind_token token ms) h.0 ∙ behind_token-none ms h.1

  -- the first match has the token
  pub behind_token-first : (m : Match) (ms : List Match) → bytes_eq (token_of m) token ≡ true
      → behind_token token (m ∷ ms) ≡ Some ms
  behind_token-first m ms h = ap (λ b. if b then Some ms else behind_token token ms) h

  -- the first match has another one
  pub behind_token-next : (m : Match) (ms : List Match) → bytes_eq (token_of m) token ≡ false
      → behind_token token (m ∷ ms) ≡ behind_token token ms
  behind_token-next m ms h = ap (λ b. if b then Some ms else behind_token token ms) h
