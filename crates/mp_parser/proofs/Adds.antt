-- What a step adds to the spelling of what is read.
use Rattle.std.proofs.Common.{◌≡◌, ℕ, Bool, true, false, cond, List, [], ◌∷◌, ◌++◌, Option, Some, None, refl, sym, ap}
use Rattle.std.proofs.Common.{◌∙◌, leb}
use Rattle.std.proofs.lemmas.List.{flat_map_more}
use Rattle.std.specs.List.{flat_map}
use Rattle.std.specs.Str.{bytes_eq}
use Rattle.std.proofs.lemmas.Slice.Eq.{bytes_eq-Decides}
use Rattle.mp_parser.specs.declared.place.Place.{Place}
use Rattle.mp_parser.specs.declared.token.Punct.{Punct}
use Rattle.mp_parser.specs.declared.token.Punct.TheVariants.{Open, Close, OpenSquare, CloseSquare, OpenBrace}
use Rattle.mp_parser.specs.declared.token.Punct.TheVariants.{CloseBrace, Comma, Semicolon, Colon, Dot, Dollar}
use Rattle.mp_parser.specs.declared.fault.FaultKind.TheVariants.{TooDeep}
use Rattle.mp_parser.specs.Tokens as tokens
use Rattle.mp_parser.specs.Tokens.{Token, Word, Sign, Arrow, Punctuation, Long, Bad, End, Placed}
use Rattle.mp_parser.specs.Syntax.{Spot, Wildcard, Expected, Said, Stands, Matches, spell, spell_condition}
use Rattle.mp_parser.specs.Syntax.{spell_statement, spelled_word, spelled_wildcard, spelled_sign, fixed_word}
use Rattle.mp_parser.specs.Machine.{Frame, open_count, State, Single, SingleExpr, SingleCondition, Step, Go, Emit}
use Rattle.mp_parser.specs.Machine.{Refuse, Finish, Ends, is_punct, same_punct, is_sign, is_word, is_end, word_of}
use Rattle.mp_parser.specs.Machine.{sign_of, wildcard_at, spot, on_text, on_word, on_sign, on_found, step_open}
use Rattle.mp_parser.specs.Machine.{is_arrow}
use Rattle.mp_parser.specs.Partial.{so_far}
use Rattle.mp_parser.proofs.ListLaws.{some-is}

-- ---- what a test on a token says

-- the punctuation character that the test has
pub punct-is : (p : Punct) (t : Token) → is_punct p t ≡ true → t ≡ Punctuation p
punct-is p (Punctuation q) h = ap Punctuation (same p q h)
  where
    same : (p q : Punct) → same_punct p q ≡ true → q ≡ p
    same Open Open h = refl
    same Close Close h = refl
    same OpenSquare OpenSquare h = refl
    same CloseSquare CloseSquare h = refl
    same OpenBrace OpenBrace h = refl
    same CloseBrace CloseBrace h = refl
    same Comma Comma h = refl
    same Semicolon Semicolon h = refl
    same Colon Colon h = refl
    same Dot Dot h = refl
    same Dollar Dollar h = refl
    same _ _ h = absurd cc
punct-is p _ h = absurd cc

-- the word of this text
pub word-is : (t : Token) (w : List ℕ) → word_of t ≡ Some w → t ≡ Word w
word-is (Word v) w h = cc
word-is _ w h = absurd cc

-- the sign of this text
pub sign-is : (t : Token) (s : List ℕ) → sign_of t ≡ Some s → t ≡ Sign s
sign-is (Sign r) s h = cc
sign-is _ s h = absurd cc

-- the sign that the test has
pub sign-same : (text : List ℕ) (t : Token) → is_sign text t ≡ true → t ≡ Sign text
sign-same text (Sign s) h = ap Sign ((bytes_eq-Decides s text).0 h)
sign-same text _ h = absurd cc

-- the wildcard that the token is
pub wildcard-is : (k : Token) (place : Place) (w : Wildcard) → wildcard_at k place ≡ Some w
    → Matches (record { token = k; place = place }) (spelled_wildcard w)
wildcard-is (tokens.Wildcard name marks kind) place w h =
    let v : Wildcard = record { name = name; marks = marks; kind = kind; place = place } in
    let same : v ≡ w = some-is v w h in
    (ap (λ (v : Wildcard). tokens.Wildcard v.name v.marks v.kind) same, ap (λ (v : Wildcard). v.place) same)
wildcard-is _ place w h = absurd cc

-- the end
pub end-is : (t : Token) → is_end t ≡ true → t ≡ End
end-is End h = refl
end-is _ h = absurd cc

-- the word that the test has
pub word-same : (text : List ℕ) (t : Token) → is_word text t ≡ true → t ≡ Word text
word-same text (Word w) h = ap Word ((bytes_eq-Decides w text).0 h)
word-same text _ h = absurd cc

-- the arrow
pub arrow-is : (t : Token) → is_arrow t ≡ true → t ≡ Arrow
arrow-is Arrow h = refl
arrow-is _ h = absurd cc

-- ---- what a step adds

-- the spelling of an expression or a condition that is the whole text
abbrev pub spell_single : Single → List Expected
spell_single (SingleExpr t) = spell t
spell_single (SingleCondition c) = spell_condition c

-- the token that is expected
abbrev pub expected_token : Expected → Token
expected_token (Said t) = t
expected_token (Stands t place) = t

-- the token is one that a text has: no word that is too long, no bad byte and not the end
abbrev pub IsGood : Token → Type 0
IsGood Long = ⊥
IsGood Bad = ⊥
IsGood End = ⊥
IsGood _ = Unit {0}

-- each of them is
abbrev pub AreGood : List Placed → Type 0
AreGood [] = Unit {0}
AreGood (t ∷ ts) = IsGood t.token × AreGood ts

-- the token t is good, and the one that a step has added to the spelling before it
abbrev pub Adds : Step → List Expected → Placed → Type 0
Adds (Go at) before t = (m : Expected) × IsGood (expected_token m) × Matches t m × (so_far at ≡ before ++ m ∷ [])
Adds (Emit s) before t = (m : Expected) × IsGood (expected_token m) × Matches t m
    × (spell_statement s ≡ before ++ m ∷ [])
Adds (Refuse kind) before t = Unit {0}
Adds Finish before t = (before ≡ []) × (t.token ≡ End)
Adds (Ends s) before t = (before ≡ spell_single s) × (t.token ≡ End)

pub adds-token : (test : Token → Bool) (k : Token) → ((u : Token) → test u ≡ true → u ≡ k)
    → (t : Placed) (a b : Step) (before : List Expected) → (Matches t (Said k) → Adds a before t) → Adds b before t
    → Adds (cond (test t.token) a b) before t
adds-token test k is t a b before f g = go (test t.token) refl
  where
    go : (v : Bool) → test t.token ≡ v → Adds (cond v a b) before t
    go true e = f (is t.token e)
    go false e = g

pub adds-punct : (p : Punct) (t : Placed) (a b : Step) (before : List Expected)
    → (Matches t (Said (Punctuation p)) → Adds a before t) → Adds b before t
    → Adds (cond (is_punct p t.token) a b) before t
adds-punct p = adds-token (is_punct p) (Punctuation p) (punct-is p)

pub adds-sign : (text : List ℕ) (t : Placed) (a b : Step) (before : List Expected)
    → (Matches t (Said (Sign text)) → Adds a before t) → Adds b before t
    → Adds (cond (is_sign text t.token) a b) before t
adds-sign text = adds-token (is_sign text) (Sign text) (sign-same text)

pub adds-fixed_word : (text : List ℕ) (t : Placed) (a b : Step) (before : List Expected)
    → (Matches t (fixed_word text) → Adds a before t) → Adds b before t
    → Adds (cond (is_word text t.token) a b) before t
adds-fixed_word text = adds-token (is_word text) (Word text) (word-same text)

pub adds-found : {A : Type 0} (next : A → Step) (other : Step) (o : Option A) (before : List Expected) (t : Placed)
    → ((a : A) → o ≡ Some a → Adds (next a) before t) → Adds other before t → Adds (on_found next other o) before t
adds-found next other (Some a) before t f g = f a refl
adds-found next other None before t f g = g

pub adds-text : (text_of : Token → Option (List ℕ)) (kind : List ℕ → Token)
    → ((u : Token) (w : List ℕ) → text_of u ≡ Some w → u ≡ kind w)
    → (next : Spot → Step) (t : Placed) (before : List Expected)
    → ((w : List ℕ) → Matches t (Stands (kind w) t.place) → Adds (next (spot w t.place)) before t)
    → Adds (on_text t next (text_of t.token)) before t
adds-text text_of kind is next t before h = go (text_of t.token) refl
  where
    go : (o : Option (List ℕ)) → text_of t.token ≡ o → Adds (on_text t next o) before t
    go (Some w) e = h w (is t.token w e, refl)
    go None e = tt

pub adds-word : (next : Spot → Step) (t : Placed) (before : List Expected)
    → ((w : List ℕ) → Matches t (spelled_word (spot w t.place)) → Adds (next (spot w t.place)) before t)
    → Adds (on_word t next) before t
adds-word = adds-text word_of Word word-is

pub adds-any_sign : (next : Spot → Step) (t : Placed) (before : List Expected)
    → ((s : List ℕ) → Matches t (spelled_sign (spot s t.place)) → Adds (next (spot s t.place)) before t)
    → Adds (on_sign t next) before t
adds-any_sign = adds-text sign_of Sign sign-is

pub adds-fixed : (v : List ℕ) (t : Placed) (w : List ℕ) (a b : Step) (before : List Expected) → t.token ≡ Word w
    → (Matches t (fixed_word v) → Adds a before t) → Adds b before t → Adds (cond (bytes_eq w v) a b) before t
adds-fixed v t w a b before h f g = go (bytes_eq w v) refl
  where
    go : (c : Bool) → bytes_eq w v ≡ c → Adds (cond c a b) before t
    go true e = f (h ∙ ap Word ((bytes_eq-Decides w v).0 e))
    go false e = g

-- one element more
pub flat_map-push : {X A : Type 0} (f : X → List A) (xs : List X) (x : X)
    → flat_map f (xs ++ x ∷ []) ≡ flat_map f xs ++ f x
flat_map-push f xs x = sym (flat_map_more f [] xs x)

module _ (limit : ℕ) where
  pub adds-open : (k : List Frame) (next : State) (before : List Expected) (t : Placed) → Adds (Go next) before t
      → Adds (step_open limit k next) before t
  adds-open k next before t h = go (leb limit (open_count k))
    where
      go : (b : Bool) → Adds (cond b (Refuse TooDeep) (Go next)) before t
      go true = tt
      go false = h
