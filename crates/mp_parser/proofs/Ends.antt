-- Where the token at the front ends: a run goes on no further than the bytes of its class.
use Rattle.std.proofs.Common.{◌≡◌, ℕ, zero, suc, ◌+◌, ◌<◌, Bool, true, false, cond, List, [], ◌∷◌, ◌++◌, length, refl}
use Rattle.std.proofs.Common.{ap, ◌∙◌, arith, length-append, inl, inr}
use Rattle.std.specs.Prelude.{◌⊎◌, ◌||◌}
use Rattle.std.specs.List.{prefix_len, list_all}
use Rattle.std.proofs.lemmas.Bool.{and_parts, or_left}
use Rattle.std.proofs.lemmas.List.{nil_from_length}
use Rattle.mp_parser.specs.declared.token.Punct.{Punct}
use Rattle.mp_parser.specs.Tokens.{Token, Word, Wildcard, Sign, Punctuation, byte_of, is_word_byte, is_sign_byte}
use Rattle.mp_parser.specs.Tokens.{AreWordBytes, underscores, IsWildcard, Spells}
use Rattle.mp_parser.specs.Lexing.{kind_at, settled, is_underscore}
use Rattle.mp_parser.proofs.ListLaws.{all-implied, all-append, all-behind}
use Rattle.mp_parser.proofs.Longest.{IsRun, IsLongestRun, sign-begins, run_at-punct}
use Rattle.mp_parser.proofs.Spelling.{spells-settles, kind_at-longest}

-- a letter, a digit or an underscore
abbrev pub is_mark_byte : ℕ → Bool
is_mark_byte b = is_word_byte b || is_underscore b

-- ---- the bytes of a run

-- a word is of letters and digits
pub marks-word : (w : List ℕ) → AreWordBytes w → list_all is_mark_byte w ≡ true
marks-word = all-implied is_word_byte is_mark_byte (λ b h. or_left (is_word_byte b) (is_underscore b) h)

marks-underscores : (n : ℕ) → list_all is_mark_byte (underscores n) ≡ true
marks-underscores zero = refl
marks-underscores (suc n) = marks-underscores n

-- letters, digits and underscores
pub marks-wildcard : (text name : List ℕ) (n : ℕ) (kind : List ℕ) → IsWildcard text name n kind
    → list_all is_mark_byte text ≡ true
marks-wildcard text name n kind h =
    rw h.parts (all-append is_mark_byte name (underscores n ++ kind) (marks-word name h.name_bytes)
    (all-append is_mark_byte (underscores n) kind (marks-underscores n) (marks-word kind h.kind_bytes)))

-- the bytes of a run are all of words and wildcards, or all of signs, or it is one byte
abbrev Uniform : List ℕ → Type 0
Uniform text = (list_all is_mark_byte text ≡ true) ⊎ ((list_all is_sign_byte text ≡ true) ⊎ (length text ≡ 1))

run-uniform : (text : List ℕ) (t : Token) → IsRun text t → Uniform text
run-uniform text (Word w) h = inl (rw h.0 (marks-word w h.1.bytes))
run-uniform text (Wildcard name n kind) h = inl (marks-wildcard text name n kind h)
run-uniform text (Sign s) h = inr (inl (rw h.0 h.1.bytes))
run-uniform text (Punctuation p) h = inr (inr (ap length h))
run-uniform text _ h = absurd h

-- ---- where a run ends

-- nothing more passes the test
none-more : (p : ℕ → Bool) (more after rest : List ℕ) → rest ≡ more ++ after → prefix_len p rest ≡ 0
    → list_all p more ≡ true → more ≡ []
none-more p [] after rest e ends all = refl
none-more p (b ∷ more) after rest e ends all =
    let here : p b ≡ true = (and_parts (p b) (list_all p more) all).0 in
    let len : prefix_len p rest ≡ 1 + prefix_len p (more ++ after) =
    ap (prefix_len p) e ∙ ap (λ v. cond v (1 + prefix_len p (more ++ after)) 0) here in
    absurd (omega (arith, len, ends))

no-more : (text more : List ℕ) → 0 < length text → length (text ++ more) ≡ 1 → more ≡ []
no-more text more some one = nil_from_length more (omega (arith, length-append text more, one))

-- a word or wildcard ends where no letter, digit or underscore follows
pub longest-marks : (text rest : List ℕ) → 0 < length text → list_all is_mark_byte text ≡ true
    → prefix_len is_mark_byte rest ≡ 0 → IsLongestRun text rest
longest-marks [] rest some all ends more after t e h = absurd (omega arith)
longest-marks (b ∷ text) rest some all ends more after t e h = go (run-uniform (b ∷ text ++ more) t h)
  where
    go : Uniform (b ∷ text ++ more) → more ≡ []
    go (inl marks) = none-more is_mark_byte more after rest e ends (all-behind is_mark_byte (b ∷ text) more marks)
    go (inr (inl signs)) =
        let no : is_mark_byte b ≡ false = sign-begins b
        (and_parts (is_sign_byte b) (list_all is_sign_byte (text ++ more)) signs).0 in
        let yes : is_mark_byte b ≡ true = (and_parts (is_mark_byte b) (list_all is_mark_byte text) all).0 in
        absurd cc
    go (inr (inr one)) = no-more (b ∷ text) more some one

-- a sign ends where no byte of signs follows
pub longest-signs : (text rest : List ℕ) → 0 < length text → list_all is_sign_byte text ≡ true
    → prefix_len is_sign_byte rest ≡ 0 → IsLongestRun text rest
longest-signs [] rest some all ends more after t e h = absurd (omega arith)
longest-signs (b ∷ text) rest some all ends more after t e h = go (run-uniform (b ∷ text ++ more) t h)
  where
    go : Uniform (b ∷ text ++ more) → more ≡ []
    go (inl marks) =
        let no : is_mark_byte b ≡ false = sign-begins b
        (and_parts (is_sign_byte b) (list_all is_sign_byte text) all).0 in
        let yes : is_mark_byte b ≡ true = (and_parts (is_mark_byte b) (list_all is_mark_byte (text ++ more)) marks).0 in
        absurd cc
    go (inr (inl signs)) = none-more is_sign_byte more after rest e ends (all-behind is_sign_byte (b ∷ text) more signs)
    go (inr (inr one)) = no-more (b ∷ text) more some one

-- ---- the token at the front

-- the text of a token that is the longest run is what the lexer takes
pub kind_at-ends : (text rest : List ℕ) (t : Token) → Spells text t → IsLongestRun text rest
    → kind_at (text ++ rest) ≡ (t, length text)
kind_at-ends text rest t h longest =
    kind_at-longest text rest t h (λ more after u e is. let r = spells-settles (text ++ more) u is in
    longest more after r.run e r.is_run)

-- a punctuation character is a token whatever follows
pub kind_at-punct : (p : Punct) (rest : List ℕ) → kind_at (byte_of p ∷ rest) ≡ (Punctuation p, 1)
kind_at-punct p rest = ap (λ (r : Token × ℕ). (settled r.0, r.1)) (run_at-punct p rest)
