-- The lexer takes the longest run of bytes that is one token.
use Rattle.std.proofs.Common.{◌≡◌, ℕ, zero, suc, ◌+◌, ◌-◌, ◌<◌, ◌≤◌, Bool, true, false, cond, List, [], ◌∷◌, ◌++◌}
use Rattle.std.proofs.Common.{length, take, drop, refl, sym, ap, subst, ◌∙◌, arith, length-drop, length-append}
use Rattle.std.proofs.Common.{append_assoc, append-nil, take-append-drop, length-take-le, inl, inr, not}
use Rattle.std.specs.Prelude.{◌⊎◌, ◌||◌, ◌≢◌, ◌==◌}
use Rattle.std.specs.List.{prefix_len, list_all}
use Rattle.std.proofs.lemmas.Bool.{eqb-true, and_parts, not-true}
use Rattle.std.proofs.lemmas.Bool.Decides.{leb_tells}
use Rattle.std.proofs.lemmas.List.{take_at, drop_at, nil_from_length}
use Rattle.std.proofs.lemmas.List.Folds.{length-prefix_len}
use Rattle.std.proofs.lemmas.List.Sums.{prefix_len-le-length}
use Rattle.mp_parser.specs.declared.token.Punct.{Punct}
use Rattle.mp_parser.specs.declared.token.Punct.TheVariants.{Open, Close, OpenSquare, CloseSquare, OpenBrace}
use Rattle.mp_parser.specs.declared.token.Punct.TheVariants.{CloseBrace, Comma, Semicolon, Colon, Dot, Dollar}
use Rattle.mp_parser.specs.Tokens.{Token, Word, Wildcard, Sign, Punctuation, Bad, End, byte_of, is_word_byte}
use Rattle.mp_parser.specs.Tokens.{sign_bytes, is_sign_byte, AreWordBytes, underscores, IsWord, IsWildcard, IsSign}
use Rattle.mp_parser.specs.Lexing.{run_at, with_underscores, word_or_wildcard_at, sign_at, punct_at, least}
use Rattle.mp_parser.specs.Lexing.{is_underscore}
use Rattle.mp_parser.proofs.Fuel.{front-positive}
use Rattle.mp_parser.proofs.ListLaws.{prefix_len-pass, list_all-front, take-add, take-past, one-passes}

-- the texts of a run, where words have any length and the arrow is a sign
abbrev pub IsRun : List ℕ → Token → Type 0
IsRun text (Word w) = (text ≡ w) × IsWord w
IsRun text (Wildcard name marks kind) = IsWildcard text name marks kind
IsRun text (Sign s) = (text ≡ s) × IsSign s
IsRun text (Punctuation p) = text ≡ byte_of p ∷ []
IsRun text _ = ⊥

-- ---- the smaller number

least-le : (q : ℕ) → least 3 q ≤ 3
least-le q = grind arith

least-le-right : (q : ℕ) → least 3 q ≤ q
least-le-right q = grind (arith, leb_tells)

le-least : (n q : ℕ) → n ≤ 3 → n ≤ q → n ≤ least 3 q
le-least n q h k = grind arith

-- ---- underscores

is_underscore-word : (b : ℕ) → is_word_byte b ≡ true → is_underscore b ≡ false
is_underscore-word b h = go (is_underscore b) refl
  where
    go : (v : Bool) → is_underscore b ≡ v → v ≡ false
    go true e = let at : b ≡ 95 = eqb-true b 95 e in let same : is_word_byte b ≡ is_word_byte 95 = ap is_word_byte at in
        absurd cc
    go false e = refl

pub length-underscores : (n : ℕ) → length (underscores n) ≡ n
length-underscores zero = refl
length-underscores (suc n) = ap suc (length-underscores n)

list_all-underscores : (n : ℕ) → list_all is_underscore (underscores n) ≡ true
list_all-underscores zero = refl
list_all-underscores (suc n) = list_all-underscores n

-- the first n bytes, where so many underscores stand
take-underscores : (n : ℕ) (xs : List ℕ) → n ≤ prefix_len is_underscore xs → take n xs ≡ underscores n
take-underscores zero xs h = refl
take-underscores (suc n) [] h = absurd (omega arith)
take-underscores (suc n) (x ∷ xs) h = go (is_underscore x) refl h (take-underscores n xs)
  where
    go : (v : Bool) → is_underscore x ≡ v → suc n ≤ cond v (1 + prefix_len is_underscore xs) 0
        → (n ≤ prefix_len is_underscore xs → take n xs ≡ underscores n) → x ∷ take n xs ≡ 95 ∷ underscores n
    go true e h ih = let at : x ≡ 95 = eqb-true x 95 e in let rest : take n xs ≡ underscores n =
        ih (omega (arith, h)) in cc
    go false e h ih = absurd (omega (arith, h))

-- ---- what is a run is no longer than what the lexer takes

length-with_underscores : (name : List ℕ) (m : ℕ) (after : List ℕ) → length name + m ≤ (with_underscores name m after).1
length-with_underscores name zero after = omega arith
length-with_underscores name (suc zero) after = omega arith
length-with_underscores name (suc (suc n)) after = omega arith

-- the lexer takes at least text, and if no more then as t
pub record Takes (text after : List ℕ) (t : Token) : Type 0 where
  pub enough : length text ≤ (run_at (text ++ after)).1
  pub same : (run_at (text ++ after)).1 ≡ length text → (run_at (text ++ after)).0 ≡ t

-- the same of n bytes that are a word or wildcard
record Parts (bytes : List ℕ) (n : ℕ) (t : Token) : Type 0 where
  enough : n ≤ (word_or_wildcard_at bytes).1
  same : (word_or_wildcard_at bytes).1 ≡ n → (word_or_wildcard_at bytes).0 ≡ t

-- a punctuation character is a run by itself
pub run_at-punct : (p : Punct) (rest : List ℕ) → run_at (byte_of p ∷ rest) ≡ (Punctuation p, 1)
run_at-punct Open rest = refl
run_at-punct _ rest = refl

takes-punct : (p : Punct) (after : List ℕ) → Takes (byte_of p ∷ []) after (Punctuation p)
takes-punct p after = record {
  enough = rw (run_at-punct p after) (omega arith);
  same = λ e. ap (λ (r : Token × ℕ). r.0) (run_at-punct p after);
}

-- a sign byte begins no word and no wildcard
pub sign-begins : (b : ℕ) → is_sign_byte b ≡ true → (is_word_byte b || is_underscore b) ≡ false
sign-begins b h = not-true (is_word_byte b || is_underscore b)
    (one-passes (λ n. not (is_word_byte n || is_underscore n)) b sign_bytes h refl)

run-sign : (b : ℕ) (bs : List ℕ) → is_sign_byte b ≡ true → run_at (b ∷ bs) ≡ sign_at (b ∷ bs)
run-sign b bs e = rw (sign-begins b e, e) refl

takes-sign : (s after : List ℕ) → IsSign s → Takes s after (Sign s)
takes-sign [] after h = absurd (h.some refl)
takes-sign (b ∷ s) after h =
    let v = b ∷ s in
    let bytes = v ++ after in
    let is : run_at bytes ≡ sign_at bytes = run-sign b (s ++ after)
    (and_parts (is_sign_byte b) (list_all is_sign_byte s) h.bytes).0 in
    let len : prefix_len is_sign_byte bytes ≡ length v + prefix_len is_sign_byte after =
    prefix_len-pass is_sign_byte v after h.bytes in
    let enough : length v ≤ prefix_len is_sign_byte bytes = omega (arith, len) in
    let same : prefix_len is_sign_byte bytes ≡ length v → (sign_at bytes).0 ≡ Sign v =
    λ e. ap Sign (ap (λ n. take n bytes) e ∙ take_at v after (length v) refl) in
    record {
      enough = subst (λ (x : Token × ℕ). length v ≤ x.1) (sym is) enough;
      same = subst (λ (x : Token × ℕ). x.1 ≡ length v → x.0 ≡ Sign v) (sym is) same;
    }

parts-word : (w after : List ℕ) → AreWordBytes w → Parts (w ++ after) (length w) (Word w)
parts-word w after h =
    let bytes = w ++ after in
    let len : prefix_len is_word_byte bytes ≡ length w + prefix_len is_word_byte after =
    prefix_len-pass is_word_byte w after h in
    let p = prefix_len is_word_byte bytes in
    let m = least 3 (prefix_len is_underscore (drop p bytes)) in
    let size = length-with_underscores (take p bytes) m (drop m (drop p bytes)) in
    let name-len = length-prefix_len is_word_byte bytes in
    record {
      enough = omega (arith, len, size, name-len);
      same = λ e.
          let none : m ≡ 0 = omega (arith, len, size, name-len, e) in
          let all : p ≡ length w = omega (arith, len, size, name-len, e) in
          ap (λ m. (with_underscores (take p bytes) m (drop m (drop p bytes))).0) none
          ∙ ap Word (ap (λ n. take n bytes) all ∙ take_at w after (length w) refl);
    }

run-word : (b : ℕ) (bs : List ℕ) → is_word_byte b ≡ true → run_at (b ∷ bs) ≡ word_or_wildcard_at (b ∷ bs)
run-word b bs e =
    ap (λ v. cond (v || is_underscore b) (word_or_wildcard_at (b ∷ bs))
    (cond (is_sign_byte b) (sign_at (b ∷ bs)) (punct_at b, 1))) e

-- a text that begins with a name and an underscore
run-named : (name rest : List ℕ) → AreWordBytes name
    → run_at (name ++ 95 ∷ rest) ≡ word_or_wildcard_at (name ++ 95 ∷ rest)
run-named [] rest h = refl
run-named (b ∷ name) rest h = run-word b (name ++ 95 ∷ rest)
    (and_parts (is_word_byte b) (list_all is_word_byte name) h).0

-- a wildcard, by what stands behind its name
parts-wildcard : (name rest : List ℕ) (n : ℕ) (t : Token) (m : ℕ) → AreWordBytes name
    → least 3 (prefix_len is_underscore (95 ∷ rest)) ≡ m → n ≤ (with_underscores name m (drop m (95 ∷ rest))).1
    → ((with_underscores name m (drop m (95 ∷ rest))).1 ≡ n → (with_underscores name m (drop m (95 ∷ rest))).0 ≡ t)
    → Parts (name ++ 95 ∷ rest) n t
parts-wildcard name rest n t m h e enough same =
    let bytes = name ++ 95 ∷ rest in
    let len : prefix_len is_word_byte bytes ≡ length name = prefix_len-pass is_word_byte name (95 ∷ rest) h
    ∙ omega arith in
    let is : word_or_wildcard_at bytes ≡ with_underscores name m (drop m (95 ∷ rest)) =
    ap (λ p. let r = drop p bytes in let m = least 3 (prefix_len is_underscore r) in
    with_underscores (take p bytes) m (drop m r)) len
    ∙ ap (λ (x : List ℕ × List ℕ). let m = least 3 (prefix_len is_underscore x.1) in
    with_underscores x.0 m (drop m x.1)) (λ i.
    (take_at name (95 ∷ rest) (length name) refl i, drop_at name (95 ∷ rest) (length name) refl i))
    ∙ ap (λ m. with_underscores name m (drop m (95 ∷ rest))) e in
    record {
      enough = subst (λ (x : Token × ℕ). n ≤ x.1) (sym is) enough;
      same = subst (λ (x : Token × ℕ). x.1 ≡ n → x.0 ≡ t) (sym is) same;
    }

takes-parts : (text after : List ℕ) (t : Token) → run_at (text ++ after) ≡ word_or_wildcard_at (text ++ after)
    → Parts (text ++ after) (length text) t → Takes text after t
takes-parts text after t e parts = record {
  enough = subst (λ (x : Token × ℕ). length text ≤ x.1) (sym e) parts.enough;
  same = subst (λ (x : Token × ℕ). x.1 ≡ length text → x.0 ≡ t) (sym e) parts.same;
}

takes-word : (w after : List ℕ) → IsWord w → Takes w after (Word w)
takes-word [] after h = absurd (h.some refl)
takes-word (b ∷ w) after h = takes-parts (b ∷ w) after (Word (b ∷ w))
    (run-word b (w ++ after) (and_parts (is_word_byte b) (list_all is_word_byte w) h.bytes).0)
    (parts-word (b ∷ w) after h.bytes)

takes-named : (name rest after : List ℕ) (t : Token) → AreWordBytes name
    → Parts (name ++ 95 ∷ (rest ++ after)) (length (name ++ 95 ∷ rest)) t → Takes (name ++ 95 ∷ rest) after t
takes-named name rest after t h parts =
    let e : (name ++ 95 ∷ rest) ++ after ≡ name ++ 95 ∷ (rest ++ after) = append_assoc name (95 ∷ rest) after in
    takes-parts (name ++ 95 ∷ rest) after t
    (subst (λ l. run_at l ≡ word_or_wildcard_at l) (sym e) (run-named name (rest ++ after) h))
    (subst (λ l. Parts l (length (name ++ 95 ∷ rest)) t) (sym e) parts)

-- underscores alone behind the name
takes-plain : (name after : List ℕ) (n : ℕ) → AreWordBytes name → suc n ≤ 3
    → Takes (name ++ 95 ∷ underscores n) after (Wildcard name (suc n) [])
takes-plain name after n h few =
    let rest = underscores n ++ after in
    let q = prefix_len is_underscore (95 ∷ rest) in
    let m = least 3 q in
    let enough : suc n ≤ m = le-least (suc n) q few
    (omega (
      arith,
      prefix_len-pass is_underscore (underscores n) after (list_all-underscores n),
      length-underscores n,
    )) in
    let size = length-with_underscores name m (drop m (95 ∷ rest)) in
    let total : length (name ++ 95 ∷ underscores n) ≡ length name + suc n = length-append name (95 ∷ underscores n)
    ∙ ap (λ k. length name + suc k) (length-underscores n) in
    takes-named name (underscores n) after (Wildcard name (suc n) []) h
    (parts-wildcard name rest (length (name ++ 95 ∷ underscores n)) (Wildcard name (suc n) []) m h refl
    (omega (arith, enough, size, total)) (λ e.
    let is : m ≡ suc n = omega (arith, enough, size, total, e) in
    ap (λ m'. (with_underscores name m' (drop m (95 ∷ rest))).0) is
    ∙ exact n (drop m (95 ∷ rest)) (ap (λ m'. (with_underscores name m' (drop m (95 ∷ rest))).1) (sym is) ∙ e
    ∙ total)))
  where
    exact : (n : ℕ) (after : List ℕ) → (with_underscores name (suc n) after).1 ≡ length name + suc n
        → (with_underscores name (suc n) after).0 ≡ Wildcard name (suc n) []
    exact zero after e = let none : prefix_len is_word_byte after ≡ 0 = omega (arith, e) in
        ap (λ k. Wildcard name 1 (take k after)) none
    exact (suc n) after e = refl

-- one underscore and a kind behind the name
takes-kind : (name after : List ℕ) (c : ℕ) (kind : List ℕ) → AreWordBytes name → AreWordBytes (c ∷ kind)
    → Takes (name ++ 95 ∷ c ∷ kind) after (Wildcard name 1 (c ∷ kind))
takes-kind name after c kind h k =
    let no-mark : is_underscore c ≡ false = is_underscore-word c
    (and_parts (is_word_byte c) (list_all is_word_byte kind) k).0 in
    let one : least 3 (prefix_len is_underscore (95 ∷ c ∷ (kind ++ after))) ≡ 1 =
    ap (λ v. least 3 (1 + cond v (1 + prefix_len is_underscore (kind ++ after)) 0)) no-mark in
    let len : prefix_len is_word_byte (c ∷ (kind ++ after)) ≡ length (c ∷ kind) + prefix_len is_word_byte after =
    prefix_len-pass is_word_byte (c ∷ kind) after k in
    let total : length (name ++ 95 ∷ c ∷ kind) ≡ length name + 1 + length (c ∷ kind) =
    length-append name (95 ∷ c ∷ kind) ∙ omega arith in
    takes-named name (c ∷ kind) after (Wildcard name 1 (c ∷ kind)) h
    (parts-wildcard name (c ∷ (kind ++ after)) (length (name ++ 95 ∷ c ∷ kind)) (Wildcard name 1 (c ∷ kind)) 1 h one
    (omega (arith, total, len)) (λ e.
    let all : prefix_len is_word_byte (c ∷ (kind ++ after)) ≡ length (c ∷ kind) = omega (arith, total, len, e) in
    ap (Wildcard name 1) (ap (λ n. take n (c ∷ (kind ++ after))) all
    ∙ take_at (c ∷ kind) after (length (c ∷ kind)) refl)))

-- a run at the front is no longer than what the lexer takes, and if as long it is the same
pub takes : (text after : List ℕ) (t : Token) → IsRun text t → Takes text after t
takes text after (Word w) h = rw h.0 (takes-word w after h.1)
takes text after (Sign s) h = rw h.0 (takes-sign s after h.1)
takes text after (Punctuation p) h = rw h (takes-punct p after)
takes text after (Wildcard name n kind) h =
    rw h.parts (go n kind h.some_marks h.few_marks h.kind_bytes h.kind_behind_one)
  where
    go : (n : ℕ) (kind : List ℕ) → 0 < n → n ≤ 3 → AreWordBytes kind → (kind ≢ [] → n ≡ 1)
        → Takes (name ++ (underscores n ++ kind)) after (Wildcard name n kind)
    go zero kind p q r s = absurd (omega arith)
    go (suc n) [] p q r s = rw (append-nil (underscores n)) (takes-plain name after n h.name_bytes q)
    go (suc n) (c ∷ kind) p q r s = let none : n ≡ 0 = omega (arith, s (λ e. absurd cc)) in
        rw none (takes-kind name after c kind h.name_bytes r)
takes text after _ h = absurd h

-- ---- what the lexer takes is a run

-- no bad byte and no end
abbrev pub IsToken : Token → Type 0
IsToken Bad = ⊥
IsToken End = ⊥
IsToken _ = Unit {0}

punct-run : (b : ℕ) → IsToken (punct_at b) → IsRun (b ∷ []) (punct_at b)
punct-run b =
    at Open _
    (at Close _
    (at OpenSquare _
    (at CloseSquare _
    (at OpenBrace _
    (at CloseBrace _ (at Comma _ (at Semicolon _ (at Colon _ (at Dot _ (at Dollar Bad (λ h. absurd h)))))))))))
  where
    at : (p : Punct) (other : Token) → (IsToken other → IsRun (b ∷ []) other)
        → IsToken (cond (b == byte_of p) (Punctuation p) other)
        → IsRun (b ∷ []) (cond (b == byte_of p) (Punctuation p) other)
    at p other f = go (b == byte_of p) refl
      where
        go : (v : Bool) → (b == byte_of p) ≡ v → IsToken (cond v (Punctuation p) other)
            → IsRun (b ∷ []) (cond v (Punctuation p) other)
        go true e h = ap (λ n. n ∷ []) (eqb-true b (byte_of p) e)
        go false e h = f h

nonempty : (l : List ℕ) → 0 < length l → l ≢ []
nonempty [] h e = absurd (omega (arith, h))
nonempty (x ∷ l) h e = absurd cc

-- what with_underscores makes of the parts of the bytes
with_underscores-run : (bytes : List ℕ) (m : ℕ) → m ≤ 3
    → m ≤ prefix_len is_underscore (drop (prefix_len is_word_byte bytes) bytes) → 0 < prefix_len is_word_byte bytes + m
    →
    let p = prefix_len is_word_byte bytes in
    let w = with_underscores (take p bytes) m (drop m (drop p bytes)) in
    IsRun (take w.1 bytes) w.0
with_underscores-run bytes zero few marks some =
    let p = prefix_len is_word_byte bytes in
    let len = length-prefix_len is_word_byte bytes in (
      ap (λ n. take n bytes) len,
      record {
        some = nonempty (take p bytes) (omega (arith, len, some));
        bytes = list_all-front is_word_byte bytes;
      },
    )
with_underscores-run bytes (suc zero) few marks some =
    let p = prefix_len is_word_byte bytes in
    let rest = drop p bytes in
    let s = prefix_len is_word_byte (drop 1 rest) in
    let len : length (take p bytes) + 1 + s ≡ p + (1 + s) = omega (arith, length-prefix_len is_word_byte bytes) in
    record {
      parts = ap (λ n. take n bytes) len ∙ take-add p (1 + s) bytes
          ∙ ap (λ l. take p bytes ++ l) (take-add 1 s rest
          ∙ ap (λ l. l ++ take s (drop 1 rest)) (take-underscores 1 rest marks));
      name_bytes = list_all-front is_word_byte bytes;
      some_marks = omega arith;
      few_marks = few;
      kind_bytes = list_all-front is_word_byte (drop 1 rest);
      kind_behind_one = λ e. refl;
    }
with_underscores-run bytes (suc (suc n)) few marks some =
    let p = prefix_len is_word_byte bytes in
    let rest = drop p bytes in
    let len : length (take p bytes) + suc (suc n) ≡ p + suc (suc n) =
    omega (arith, length-prefix_len is_word_byte bytes) in
    record {
      parts = ap (λ n. take n bytes) len ∙ take-add p (suc (suc n)) bytes
          ∙ ap (λ l. take p bytes ++ l) (take-underscores (suc (suc n)) rest marks ∙ sym (append-nil _));
      name_bytes = list_all-front is_word_byte bytes;
      some_marks = omega arith;
      few_marks = few;
      kind_bytes = refl;
      kind_behind_one = λ e. absurd (e refl);
    }

sign_at-run : (b : ℕ) (bs : List ℕ) → is_sign_byte b ≡ true
    → IsRun (take (sign_at (b ∷ bs)).1 (b ∷ bs)) (sign_at (b ∷ bs)).0
sign_at-run b bs e =
    let n = prefix_len is_sign_byte (b ∷ bs) in
    let some : 0 < n = omega (arith, ap (λ v. cond v (1 + prefix_len is_sign_byte bs) 0) e) in (
      refl,
      record {
        some = nonempty (take n (b ∷ bs)) (omega (arith, length-prefix_len is_sign_byte (b ∷ bs), some));
        bytes = list_all-front is_sign_byte (b ∷ bs);
      },
    )

-- what the lexer takes is a run, where it is a token
pub run_at-run : (bytes : List ℕ) → IsToken (run_at bytes).0 → IsRun (take (run_at bytes).1 bytes) (run_at bytes).0
run_at-run [] h = absurd h
run_at-run (b ∷ bs) h = go (is_word_byte b || is_underscore b) refl (is_sign_byte b) refl h
  where
    go : (v : Bool) → (is_word_byte b || is_underscore b) ≡ v → (w : Bool) → is_sign_byte b ≡ w
        → IsToken (cond v (word_or_wildcard_at (b ∷ bs)) (cond w (sign_at (b ∷ bs)) (punct_at b, 1))).0 →
        IsRun (take (cond v (word_or_wildcard_at (b ∷ bs)) (cond w (sign_at (b ∷ bs)) (punct_at b, 1))).1 (b ∷ bs))
        (cond v (word_or_wildcard_at (b ∷ bs)) (cond w (sign_at (b ∷ bs)) (punct_at b, 1))).0
    go true e w f h =
        let rest = drop (prefix_len is_word_byte (b ∷ bs)) (b ∷ bs) in
        let q = prefix_len is_underscore rest in
        with_underscores-run (b ∷ bs) (least 3 q) (least-le q) (least-le-right q)
        (omega (arith, front-positive is_word_byte is_underscore b bs e, length-prefix_len is_word_byte (b ∷ bs)))
    go false e true f h = sign_at-run b bs f
    go false e false f h = punct-run b h

-- ---- how much the lexer takes

with_underscores-within : (name : List ℕ) (m : ℕ) (after : List ℕ)
    → (with_underscores name m after).1 ≤ length name + m + length after
with_underscores-within name zero after = omega arith
with_underscores-within name (suc zero) after = omega (arith, prefix_len-le-length is_word_byte after)
with_underscores-within name (suc (suc n)) after = omega arith

with_underscores-token : (name : List ℕ) (m : ℕ) (after : List ℕ) → IsToken (with_underscores name m after).0
with_underscores-token name zero after = tt
with_underscores-token name (suc zero) after = tt
with_underscores-token name (suc (suc n)) after = tt

-- the lexer takes no more than there is, and a byte that is no token at most
pub run_at-within : (bytes : List ℕ) → ((run_at bytes).1 ≤ length bytes)
    × (IsToken (run_at bytes).0 ⊎ ((run_at bytes).1 ≤ 1))
run_at-within [] = (omega arith, inr (omega arith))
run_at-within (b ∷ bs) = go (is_word_byte b || is_underscore b) (is_sign_byte b)
  where
    go : (v w : Bool)
        → ((cond v (word_or_wildcard_at (b ∷ bs)) (cond w (sign_at (b ∷ bs)) (punct_at b, 1))).1 ≤ length (b ∷ bs))
        × (IsToken (cond v (word_or_wildcard_at (b ∷ bs)) (cond w (sign_at (b ∷ bs)) (punct_at b, 1))).0
        ⊎ ((cond v (word_or_wildcard_at (b ∷ bs)) (cond w (sign_at (b ∷ bs)) (punct_at b, 1))).1 ≤ 1))
    go true w =
        let bytes = b ∷ bs in
        let p = prefix_len is_word_byte bytes in
        let rest = drop p bytes in
        let m = least 3 (prefix_len is_underscore rest) in (
          omega (
            arith,
            with_underscores-within (take p bytes) m (drop m rest),
            length-prefix_len is_word_byte bytes,
            length-drop p bytes,
            length-drop m rest,
            least-le-right (prefix_len is_underscore rest),
            prefix_len-le-length is_underscore rest,
            prefix_len-le-length is_word_byte bytes,
          ),
          inl (with_underscores-token (take p bytes) m (drop m rest)),
        )
    go false true = (prefix_len-le-length is_sign_byte (b ∷ bs), inl tt)
    go false false = (omega arith, inr (omega arith))

some-length : (text w : List ℕ) → text ≡ w → w ≢ [] → 0 < length text
some-length [] w e n = absurd (n (sym e))
some-length (x ∷ text) w e n = omega arith

-- a run has a byte
pub run-some : (text : List ℕ) (t : Token) → IsRun text t → 0 < length text
run-some text (Word w) h = some-length text w h.0 h.1.some
run-some text (Wildcard name n kind) h = omega (
  arith,
  ap length h.parts,
  length-append name (underscores n ++ kind),
  length-append (underscores n) kind,
  length-underscores n,
  h.some_marks,
)
run-some text (Sign s) h = some-length text s h.0 h.1.some
run-some text (Punctuation p) h = omega (arith, ap length h)
run-some text _ h = absurd h

-- ---- the longest run

-- text is the longest front of text ++ rest that is a run
abbrev pub IsLongestRun : List ℕ → List ℕ → Type 0
IsLongestRun text rest = (more after : List ℕ) (t : Token) → rest ≡ more ++ after → IsRun (text ++ more) t → more ≡ []

length-longest : (text rest : List ℕ) (t : Token) → IsRun text t → IsLongestRun text rest
    → (run_at (text ++ rest)).1 ≡ length text
length-longest text rest t h longest = go (run_at-within (text ++ rest)).1
  where
    go : IsToken (run_at (text ++ rest)).0 ⊎ ((run_at (text ++ rest)).1 ≤ 1) → (run_at (text ++ rest)).1 ≡ length text
    go (inr small) = omega (arith, small, run-some text t h, (takes text rest t h).enough)
    go (inl token) =
        let n = (run_at (text ++ rest)).1 in
        let enough = (takes text rest t h).enough in
        let within = (run_at-within (text ++ rest)).0 in
        let past : length text + (n - length text) ≡ n = omega arith in
        let more : take n (text ++ rest) ≡ text ++ take (n - length text) rest =
        ap (λ k. take k (text ++ rest)) (sym past) ∙ take-past text rest (n - length text) in
        let none : take (n - length text) rest ≡ [] =
        longest (take (n - length text) rest) (drop (n - length text) rest) (run_at (text ++ rest)).0
        (sym (take-append-drop (n - length text) rest))
        (subst (λ l. IsRun l (run_at (text ++ rest)).0) more (run_at-run (text ++ rest) token)) in
        omega (
          arith,
          ap length none,
          length-take-le (n - length text) rest
              (omega (arith, within, length-append text rest, enough)),
          enough,
        )

-- the longest run at the front is what the lexer takes
pub run_at-longest : (text rest : List ℕ) (t : Token) → IsRun text t → IsLongestRun text rest
    → run_at (text ++ rest) ≡ (t, length text)
run_at-longest text rest t h longest =
    let exact = length-longest text rest t h longest in
    λ i. ((takes text rest t h).same exact i, exact i)

-- what the lexer takes is the longest
pub run_at-is_longest : (bytes : List ℕ) → IsLongestRun (take (run_at bytes).1 bytes) (drop (run_at bytes).1 bytes)
run_at-is_longest bytes more after t e h =
    let n = (run_at bytes).1 in
    let text = take n bytes in
    let whole : (text ++ more) ++ after ≡ bytes = append_assoc text more after ∙ ap (λ l. text ++ l) (sym e)
    ∙ take-append-drop n bytes in
    let enough : length (text ++ more) ≤ n =
    subst (λ l. length (text ++ more) ≤ (run_at l).1) whole (takes (text ++ more) after t h).enough in
    nil_from_length more
    (omega (arith, enough, length-append text more, length-take-le n bytes (run_at-within bytes).0))
