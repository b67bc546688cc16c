-- The lexer's tokens are those of the relation.
use Rattle.std.proofs.Common.{◌≡◌, ℕ, zero, suc, ◌+◌, ◌<◌, Bool, true, false, cond, List, [], ◌∷◌, ◌++◌, length, take}
use Rattle.std.proofs.Common.{drop, refl, sym, ap, subst, ◌∙◌, arith, append-nil, take-append-drop, length-take-le}
use Rattle.std.proofs.Common.{inl, inr}
use Rattle.std.specs.Prelude.{◌⊎◌, ◌||◌, ◌==◌}
use Rattle.std.specs.List.{list_all}
use Rattle.std.proofs.lemmas.Bool.{eqb-true, eq-eqb, and_parts}
use Rattle.std.proofs.lemmas.List.{drop_at, nil_from_length}
use Rattle.mp_parser.specs.declared.place.Place.{Place}
use Rattle.mp_parser.specs.declared.token.Punct.{Punct}
use Rattle.mp_parser.specs.declared.token.Punct.TheVariants.{Open, Close, OpenSquare, CloseSquare, OpenBrace}
use Rattle.mp_parser.specs.declared.token.Punct.TheVariants.{CloseBrace, Comma, Semicolon, Colon, Dot, Dollar}
use Rattle.mp_parser.specs.Tokens.{Token, Word, Wildcard, Sign, Arrow, Punctuation, Long, Bad, End, Placed, byte_of}
use Rattle.mp_parser.specs.Tokens.{is_blank, is_word_byte, sign_bytes, is_sign_byte, underscores, Spells, Passes}
use Rattle.mp_parser.specs.Tokens.{after_byte, place_after, First, Tokens}
use Rattle.mp_parser.specs.Lexing.{token_at, behind, lexemes, after_blanks, run_at, kind_at, settled, is_underscore}
use Rattle.mp_parser.specs.Lexing.{with_underscores, word_or_wildcard_at, sign_at, punct_at}
use Rattle.mp_parser.specs.Machine.{is_end}
use Rattle.mp_parser.proofs.ListLaws.{one-passes, all-append, all-implied}
use Rattle.mp_parser.proofs.Longest.{IsRun, IsToken}
use Rattle.mp_parser.proofs.Spelling.{spells-settles, spells-token, spells-some, kind_at-longest, kind_at-is_longest}
use Rattle.mp_parser.proofs.Spelling.{kind_at-spells, kind_at-within}
use Rattle.mp_parser.proofs.Fuel.{lexemes-step, lexemes-next}

-- ---- blanks

pub passes-blanks : (gap : List ℕ) (i j : Bool) (bytes : List ℕ) (place : Place) → Passes i gap j
    → after_blanks i (gap ++ bytes) place ≡ after_blanks j bytes (place_after gap place)
passes-blanks [] i j bytes place h = ap (λ i. after_blanks i bytes place) h
passes-blanks (b ∷ gap) true j bytes place h =
    passes-blanks gap (cond (b == 10) false true) j bytes (after_byte place b) h
passes-blanks (b ∷ gap) false j bytes place h =
    go h (passes-blanks gap true j bytes (after_byte place b)) (passes-blanks gap false j bytes (after_byte place b))
  where
    not-hash : is_blank b ≡ true → (v : Bool) → (b == 35) ≡ v → v ≡ false
    not-hash e true f = let at : is_blank b ≡ is_blank 35 = ap is_blank (eqb-true b 35 f) in absurd cc
    not-hash e false f = refl

    go : ((b ≡ 35) × Passes true gap j) ⊎ ((is_blank b ≡ true) × Passes false gap j)
        → (Passes true gap j → after_blanks true (gap ++ bytes) (after_byte place b)
        ≡ after_blanks j bytes (place_after gap (after_byte place b)))
        → (Passes false gap j → after_blanks false (gap ++ bytes) (after_byte place b)
        ≡ after_blanks j bytes (place_after gap (after_byte place b)))
        → after_blanks false (b ∷ gap ++ bytes) place ≡ after_blanks j bytes (place_after gap (after_byte place b))
    go (inl x) f g = rw (eq-eqb b 35 x.0) (f x.1)
    go (inr x) f g = rw (not-hash x.0 (b == 35) refl, x.0) (g x.1)

-- bytes that no blank and no comment begins
abbrev pub Starts : List ℕ → Type 0
Starts [] = Unit {0}
Starts (b ∷ bytes) = ((b == 35) ≡ false) × (is_blank b ≡ false)

pub starts-stay : (bytes : List ℕ) (place : Place) → Starts bytes → after_blanks false bytes place ≡ (bytes, place)
starts-stay [] place h = refl
starts-stay (b ∷ bytes) place h = rw (h.0, h.1) refl

-- what is passed, and where
pub record Passed (i : Bool) (bytes : List ℕ) (place : Place) : Type 0 where
  pub gap : List ℕ
  pub inside : Bool
  pub parts : bytes ≡ gap ++ (after_blanks i bytes place).0
  pub passes : Passes i gap inside
  pub stands : (after_blanks i bytes place).1 ≡ place_after gap place
  pub closed : 0 < length (after_blanks i bytes place).0 → inside ≡ false

pub blanks-passed : (bytes : List ℕ) (i : Bool) (place : Place) → Passed i bytes place
blanks-passed [] i place = record {
  gap = [];
  inside = i;
  parts = refl;
  passes = refl;
  stands = refl;
  closed = λ h. absurd (omega (arith, h));
}
blanks-passed (b ∷ bytes) true place =
    let r = blanks-passed bytes (cond (b == 10) false true) (after_byte place b) in
    record {
      gap = b ∷ r.gap;
      inside = r.inside;
      parts = ap (λ l. b ∷ l) r.parts;
      passes = r.passes;
      stands = r.stands;
      closed = r.closed;
    }
blanks-passed (b ∷ bytes) false place = go (b == 35) (is_blank b) refl refl
    (blanks-passed bytes true (after_byte place b)) (blanks-passed bytes false (after_byte place b))
  where
    more : (j : Bool) (r : Passed j bytes (after_byte place b))
        → after_blanks false (b ∷ bytes) place ≡ after_blanks j bytes (after_byte place b)
        → (Passes j r.gap r.inside → Passes false (b ∷ r.gap) r.inside) → Passed false (b ∷ bytes) place
    more j r e f = record {
      gap = b ∷ r.gap;
      inside = r.inside;
      parts = ap (λ l. b ∷ l) r.parts ∙ ap (λ (x : List ℕ × Place). b ∷ r.gap ++ x.0) (sym e);
      passes = f r.passes;
      stands = ap (λ (x : List ℕ × Place). x.1) e ∙ r.stands;
      closed = λ h. r.closed (subst (λ (x : List ℕ × Place). 0 < length x.0) e h);
    }

    go : (v w : Bool) → (b == 35) ≡ v → is_blank b ≡ w → Passed true bytes (after_byte place b)
        → Passed false bytes (after_byte place b) → Passed false (b ∷ bytes) place
    go true w e f r s = more true r (rw e refl) (λ h. inl (eqb-true b 35 e, h))
    go false true e f r s = more false s (rw (e, f) refl) (λ h. inr (f, h))
    go false false e f r s =
        let stays : after_blanks false (b ∷ bytes) place ≡ (b ∷ bytes, place) = rw (e, f) refl in
        record {
          gap = [];
          inside = false;
          parts = sym (ap (λ (x : List ℕ × Place). x.0) stays);
          passes = refl;
          stands = ap (λ (x : List ℕ × Place). x.1) stays;
          closed = λ h. refl;
        }

-- ---- the bytes of a token

-- each byte of a token: no blank, no line feed, no comment
abbrev pub is_plain : ℕ → Bool
is_plain b = cond (b == 35) false (cond (is_blank b) false true)

word-plain : (b : ℕ) → is_word_byte b ≡ true → is_plain b ≡ true
word-plain b h = go (is_plain b) refl
  where
    no : (n : ℕ) → is_word_byte n ≡ false → (v : Bool) → (b == n) ≡ v → v ≡ false
    no n f true e = let same : is_word_byte b ≡ is_word_byte n = ap is_word_byte (eqb-true b n e) in absurd cc
    no n f false e = refl

    go : (v : Bool) → is_plain b ≡ v → is_plain b ≡ true
    go v e =
        rw (
          no 35 refl (b == 35) refl,
          no 32 refl (b == 32) refl,
          no 9 refl (b == 9) refl,
          no 13 refl (b == 13) refl,
          no 10 refl (b == 10) refl,
        ) refl

underscores-plain : (n : ℕ) → list_all is_plain (underscores n) ≡ true
underscores-plain zero = refl
underscores-plain (suc n) = underscores-plain n

run-plain : (text : List ℕ) (t : Token) → IsRun text t → list_all is_plain text ≡ true
run-plain text (Word w) h = rw h.0 (all-implied is_word_byte is_plain word-plain w h.1.bytes)
run-plain text (Wildcard name n kind) h =
    rw h.parts (all-append is_plain name _ (all-implied is_word_byte is_plain word-plain name h.name_bytes)
    (all-append is_plain (underscores n) kind (underscores-plain n)
    (all-implied is_word_byte is_plain word-plain kind h.kind_bytes)))
run-plain text (Sign s) h =
    rw h.0 (all-implied is_sign_byte is_plain (λ b e. one-passes is_plain b sign_bytes e refl) s h.1.bytes)
run-plain text (Punctuation p) h = rw h (punct p)
  where
    punct : (p : Punct) → list_all is_plain (byte_of p ∷ []) ≡ true
    punct Open = refl
    punct _ = refl
run-plain text _ h = absurd h

pub spells-plain : (text : List ℕ) (t : Token) → Spells text t → list_all is_plain text ≡ true
spells-plain text t h = let r = spells-settles text t h in run-plain text r.run r.is_run

plain-parts : (b : ℕ) → is_plain b ≡ true → ((b == 35) ≡ false) × (is_blank b ≡ false)
plain-parts b h = go (b == 35) (is_blank b) refl refl h
  where
    go : (v w : Bool) → (b == 35) ≡ v → is_blank b ≡ w → cond v false (cond w false true) ≡ true
        → ((b == 35) ≡ false) × (is_blank b ≡ false)
    go true w e f h = absurd cc
    go false true e f h = absurd cc
    go false false e f h = (e, f)

pub plain-starts : (text rest : List ℕ) → 0 < length text → list_all is_plain text ≡ true → Starts (text ++ rest)
plain-starts [] rest some h = absurd (omega (arith, some))
plain-starts (b ∷ text) rest some h = plain-parts b (and_parts (is_plain b) (list_all is_plain text) h).0

-- plain bytes stand in one line
plain-line : (text : List ℕ) (place : Place) → list_all is_plain text ≡ true
    → place_after text place ≡ record { line = place.line; column = place.column + length text }
plain-line [] place h = ap (λ n. record { line = place.line; column = n }) (omega arith)
plain-line (b ∷ text) place h =
    let p = and_parts (is_plain b) (list_all is_plain text) h in
    let no-line : (b == 10) ≡ false = line b (plain-parts b p.0).1 in
    let e : after_byte place b ≡ record { line = place.line; column = place.column + 1 } = rw no-line refl in
    ap (place_after text) e ∙ plain-line text (record { line = place.line; column = place.column + 1 }) p.1
    ∙ ap (λ n. record { line = place.line; column = n }) (omega arith)
  where
    line : (b : ℕ) → is_blank b ≡ false → (b == 10) ≡ false
    line b h = go (b == 10) refl
      where
        go : (v : Bool) → (b == 10) ≡ v → v ≡ false
        go true e = let same : is_blank b ≡ is_blank 10 = ap is_blank (eqb-true b 10 e) in absurd cc
        go false e = refl

-- ---- the two directions

pub behind-token : (t : Token) (ts : List Placed) → IsToken t → behind t ts ≡ ts
behind-token End ts h = absurd h
behind-token Bad ts h = absurd h
behind-token _ ts h = refl

-- the end, at this place
abbrev pub end_at : Place → Placed
end_at p = record { token = End; place = p }

-- the first token of the relation is the lexer's
pub first-is : (bytes rest : List ℕ) (place : Place) (t : Placed) (f : First bytes place t rest)
    → token_at bytes place ≡ (t, (rest, place_after f.text t.place))
first-is bytes rest place t f =
    let some = spells-some f.text t.token f.spelled in
    let plain = spells-plain f.text t.token f.spelled in
    let start : after_blanks false bytes place ≡ (f.text ++ rest, t.place) =
    ap (λ l. after_blanks false l place) f.parts
    ∙ passes-blanks f.gap false false (f.text ++ rest) place f.blank
    ∙ starts-stay (f.text ++ rest) (place_after f.gap place) (plain-starts f.text rest some plain)
    ∙ ap (λ p. (f.text ++ rest, p)) (sym f.stands) in
    let kind : kind_at (f.text ++ rest) ≡ (t.token, length f.text) =
    kind_at-longest f.text rest t.token f.spelled f.longest in
    ap (λ (x : List ℕ × Place). let k = kind_at x.0 in
    (record { token = k.0; place = x.1 }, (drop k.1 x.0, record { line = x.1.line; column = x.1.column + k.1 })))
    start
    ∙ ap (λ (k : Token × ℕ). (
      record { token = k.0; place = t.place },
      (drop k.1 (f.text ++ rest), record { line = t.place.line; column = t.place.column + k.1 }),
    )) kind
    ∙ ap (λ (x : List ℕ × Place). (t, x)) (λ i.
    (drop_at f.text rest (length f.text) refl i, sym (plain-line f.text t.place plain) i))

-- the place behind two pieces
place_after-append : (a b : List ℕ) (place : Place) → place_after (a ++ b) place ≡ place_after b (place_after a place)
place_after-append [] b place = refl
place_after-append (c ∷ a) b place = place_after-append a b (after_byte place c)

-- tokens that the bytes are are the lexer's, and the end stands behind all bytes
pub tokens-lexemes : (ts : List Placed) (bytes : List ℕ) (place : Place) → Tokens bytes place ts
    → (p : Place) × (lexemes bytes place ≡ ts ++ end_at p ∷ []) × (p ≡ place_after bytes place)
tokens-lexemes [] bytes place h =
    let p = place_after bytes place in
    let start : after_blanks false bytes place ≡ ([], p) = ap (λ l. after_blanks false l place) (sym (append-nil bytes))
    ∙ passes-blanks bytes false h.0 [] place h.1 ∙ nothing h.0 p in (
      p,
      lexemes-step bytes place ∙ ap (λ (x : List ℕ × Place). let k = kind_at x.0 in
          let t : Placed = record { token = k.0; place = x.1 } in
          t ∷ behind k.0 (lexemes (drop k.1 x.0) (record { line = x.1.line; column = x.1.column + k.1 }))) start,
      refl,
    )
  where
    nothing : (i : Bool) (p : Place) → after_blanks i [] p ≡ ([], p)
    nothing i p = refl
tokens-lexemes (t ∷ ts) bytes place h =
    let f = h.1 in
    let ih = tokens-lexemes ts h.0 (place_after f.text t.place) h.2 in (
      ih.0,
      lexemes-next bytes place t h.0 (place_after f.text t.place) (first-is bytes h.0 place t f)
          ∙ ap (λ l. t ∷ l) (behind-token t.token _ (spells-token f.text t.token f.spelled) ∙ ih.1),
      ih.2
          ∙ ap (λ p. place_after h.0 (place_after f.text p)) f.stands
          ∙ sym (place_after-append f.text h.0 (place_after f.gap place))
          ∙ sym (place_after-append f.gap (f.text ++ h.0) place)
          ∙ ap (λ l. place_after l place) (sym f.parts),
    )

abbrev pub some_tokens : Placed → List Placed → List Placed
some_tokens t ts = t ∷ ts

pub head-is : (t u : Placed) (ts us : List Placed) → some_tokens t ts ≡ some_tokens u us → t ≡ u
head-is t u ts us e = cc

pub tail-is : (t u : Placed) (ts us : List Placed) → some_tokens t ts ≡ some_tokens u us → ts ≡ us
tail-is t u ts us e = cc

abbrev pub AreTokens : List Placed → Type 0
AreTokens [] = Unit {0}
AreTokens (t ∷ ts) = IsToken t.token × AreTokens ts

-- the end is found only where nothing is left
at-end : (bytes : List ℕ) → (kind_at bytes).0 ≡ End → length bytes ≡ 0
at-end [] h = refl
at-end (b ∷ bytes) h = let no : true ≡ false =
    ap is_end (sym h) ∙ settles (run_at (b ∷ bytes)).0 (go (is_word_byte b || is_underscore b) (is_sign_byte b)) in
    absurd cc
  where
    either : (v : Bool) (t u : Token) → is_end t ≡ false → is_end u ≡ false → is_end (cond v t u) ≡ false
    either true t u e f = e
    either false t u e f = f

    settles : (t : Token) → is_end t ≡ false → is_end (settled t) ≡ false
    settles (Word w) e = either _ (Word w) Long refl refl
    settles (Wildcard name marks kind) e = either _ (Wildcard name marks kind) Long refl refl
    settles (Sign s) e = either _ Arrow (Sign s) refl refl
    settles _ e = e

    marked : (name : List ℕ) (m : ℕ) (after : List ℕ) → is_end (with_underscores name m after).0 ≡ false
    marked name zero after = refl
    marked name (suc zero) after = refl
    marked name (suc (suc n)) after = refl

    at : (p : Punct) (other : Token) → is_end other ≡ false
        → is_end (cond (b == byte_of p) (Punctuation p) other) ≡ false
    at p other = either (b == byte_of p) (Punctuation p) other refl

    go : (v w : Bool)
        → is_end (cond v (word_or_wildcard_at (b ∷ bytes)) (cond w (sign_at (b ∷ bytes)) (punct_at b, 1))).0 ≡ false
    go true w = marked _ _ _
    go false true = refl
    go false false =
        at Open _
        (at Close _
        (at OpenSquare _
        (at CloseSquare _
        (at OpenBrace _ (at CloseBrace _ (at Comma _ (at Semicolon _ (at Colon _ (at Dot _ (at Dollar Bad refl))))))))))

-- the lexer's token is the first token of the relation
pub is-first : (bytes : List ℕ) (place : Place) → let next = token_at bytes place in IsToken next.0.token
    → (f : First bytes place next.0 next.1.0) × (place_after f.text next.0.place ≡ next.1.1)
is-first bytes place h =
    let r = blanks-passed bytes false place in
    let rest = (after_blanks false bytes place).0 in
    let n = (kind_at rest).1 in
    let spelled = kind_at-spells rest h in
    let len : length (take n rest) ≡ n = length-take-le n rest (kind_at-within rest) in
    let left : 0 < length rest =
    omega (arith, spells-some (take n rest) (kind_at rest).0 spelled, len, (kind_at-within rest)) in
    let f : First bytes place (token_at bytes place).0 (token_at bytes place).1.0 = record {
      gap = r.gap;
      text = take n rest;
      parts = r.parts ∙ ap (λ l. r.gap ++ l) (sym (take-append-drop n rest));
      blank = subst (λ j. Passes false r.gap j) (r.closed left) r.passes;
      spelled = spelled;
      longest = kind_at-is_longest rest;
      stands = r.stands;
    } in (
      f,
      plain-line (take n rest) (after_blanks false bytes place).1
          (spells-plain (take n rest) (kind_at rest).0 spelled)
          ∙ ap (λ k. let p : Place = record {
            line = (after_blanks false bytes place).1.line;
            column = (after_blanks false bytes place).1.column + k;
          } in p) len,
    )

pub lexemes-tokens : (ts : List Placed) (bytes : List ℕ) (place p : Place) → AreTokens ts
    → lexemes bytes place ≡ ts ++ end_at p ∷ [] → Tokens bytes place ts
lexemes-tokens [] bytes place p h e =
    let r = blanks-passed bytes false place in
    let ends : (token_at bytes place).0.token ≡ End =
    ap (λ (t : Placed). t.token) (head-is _ _ _ _ (sym (lexemes-step bytes place) ∙ e)) in
    let none : length (after_blanks false bytes place).0 ≡ 0 = at-end (after_blanks false bytes place).0 ends in (
      r.inside,
      subst (λ l. Passes false l r.inside)
          (sym (r.parts ∙ ap (λ l. r.gap ++ l) (nil_from_length _ none) ∙ append-nil r.gap)) r.passes,
    )
lexemes-tokens (t ∷ ts) bytes place p h e =
    let next = token_at bytes place in
    let step = sym (lexemes-step bytes place) ∙ e in
    let is : next.0 ≡ t = head-is _ _ _ _ step in
    let token : IsToken next.0.token = subst (λ (t : Placed). IsToken t.token) (sym is) h.0 in
    let others : lexemes next.1.0 next.1.1 ≡ ts ++ end_at p ∷ [] = sym (behind-token next.0.token _ token)
    ∙ tail-is _ _ _ _ step in
    let f = is-first bytes place token in
    let ih : Tokens next.1.0 (place_after f.0.text next.0.place) ts =
    lexemes-tokens ts next.1.0 (place_after f.0.text next.0.place) p h.1 (ap (lexemes next.1.0) f.1 ∙ others) in
    subst (λ t. Tokens bytes place (t ∷ ts)) is (next.1.0, f.0, ih)
