-- The tokens of a rule file: which texts they are, and how they lie in the bytes.
use Rattle.std.specs.Prelude.{◌≡◌, ℕ, zero, suc, ◌+◌, ◌<◌, ◌≤◌, ◌≢◌, Bool, true, false, List, [], ◌∷◌, ◌++◌, length}
use Rattle.std.specs.Prelude.{◌==◌, ◌||◌, if◌then◌else◌, ◌⊎◌, codes}
use Rattle.std.specs.List.{list_all, list_any}
use Rattle.std.specs.Char.{is_ascii_alphanumeric}
use Rattle.mp_parser.specs.declared.limits.TheConstants.{MAX_WORD_BYTES}
use Rattle.mp_parser.specs.declared.place.Place.{Place}
use Rattle.mp_parser.specs.declared.token.Punct.{Punct}
use Rattle.mp_parser.specs.declared.token.Punct.TheVariants.{Open, Close, OpenSquare, CloseSquare, OpenBrace}
use Rattle.mp_parser.specs.declared.token.Punct.TheVariants.{CloseBrace, Comma, Semicolon, Colon, Dot, Dollar}

-- ---- tokens

-- what a token is
pub data Token : Type 0 where
  Word : List ℕ → Token
  Wildcard : List ℕ → ℕ → List ℕ → Token
  Sign : List ℕ → Token
  Arrow : Token
  Punctuation : Punct → Token
  Long : Token
  Bad : Token
  End : Token

-- a token and the place of its first byte
pub record Placed : Type 0 where
  pub token : Token
  pub place : Place

-- ---- bytes

-- ASCII letters and digits
abbrev pub is_word_byte : ℕ → Bool
is_word_byte b = is_ascii_alphanumeric b

-- the bytes that signs are made of
abbrev pub sign_bytes : List ℕ
sign_bytes = codes "+-*/=<>&|^~!%@?"

-- one of them
abbrev pub is_sign_byte : ℕ → Bool
is_sign_byte b = list_any (λ sign. b == sign) sign_bytes

-- space, tab, carriage return and line feed
abbrev pub is_blank : ℕ → Bool
is_blank b = b == 32 || b == 9 || b == 13 || b == 10

-- the byte of a punctuation character
abbrev pub byte_of : Punct → ℕ
byte_of Open = 40
byte_of Close = 41
byte_of OpenSquare = 91
byte_of CloseSquare = 93
byte_of OpenBrace = 123
byte_of CloseBrace = 125
byte_of Comma = 44
byte_of Semicolon = 59
byte_of Colon = 58
byte_of Dot = 46
byte_of Dollar = 36

-- letters and digits alone
abbrev pub AreWordBytes : List ℕ → Type 0
AreWordBytes bytes = list_all is_word_byte bytes ≡ true

-- n underscores
abbrev pub underscores : ℕ → List ℕ
underscores zero = []
underscores (suc n) = 95 ∷ underscores n

-- ---- spelling

-- letters and digits, at least one
pub record IsWord (text : List ℕ) : Type 0 where
  pub some : text ≢ []
  pub bytes : AreWordBytes text

-- at most 64 bytes
abbrev pub IsShort : List ℕ → Type 0
IsShort word = length word ≤ MAX_WORD_BYTES

-- perhaps a word, then one, two or three underscores, and behind a single one perhaps a word
pub record IsWildcard (text name : List ℕ) (marks : ℕ) (kind : List ℕ) : Type 0 where
  pub parts : text ≡ name ++ (underscores marks ++ kind)
  pub name_bytes : AreWordBytes name
  pub some_marks : 0 < marks
  pub few_marks : marks ≤ 3
  pub kind_bytes : AreWordBytes kind
  pub kind_behind_one : kind ≢ [] → marks ≡ 1

-- a run of sign bytes, at least one
pub record IsSign (text : List ℕ) : Type 0 where
  pub some : text ≢ []
  pub bytes : list_all is_sign_byte text ≡ true

-- a wildcard whose name or kind has more than 64 bytes
pub record IsLongWildcard (text : List ℕ) : Type 0 where
  pub name : List ℕ
  pub marks : ℕ
  pub kind : List ℕ
  pub wildcard : IsWildcard text name marks kind
  pub long : (MAX_WORD_BYTES < length name) ⊎ (MAX_WORD_BYTES < length kind)

-- the texts that are a token; no text is a bad byte or the end
abbrev pub Spells : List ℕ → Token → Type 0
Spells text (Word w) = (text ≡ w) × IsWord w × IsShort w
Spells text (Wildcard name marks kind) = IsWildcard text name marks kind × IsShort name × IsShort kind
Spells text (Sign s) = (text ≡ s) × IsSign s × (s ≢ codes "->")
Spells text Arrow = text ≡ codes "->"
Spells text (Punctuation p) = text ≡ byte_of p ∷ []
Spells text Long = (IsWord text × (MAX_WORD_BYTES < length text)) ⊎ IsLongWildcard text
Spells text Bad = ⊥
Spells text End = ⊥

-- text is the longest front of text ++ rest that is a token
abbrev pub IsLongest : List ℕ → List ℕ → Type 0
IsLongest text rest = (more after : List ℕ) (t : Token) → rest ≡ more ++ after → Spells (text ++ more) t → more ≡ []

-- ---- blanks, comments and places

-- blanks and comments: bytes that are passed from one state to the other, where a state is whether a comment is open
abbrev pub Passes : Bool → List ℕ → Bool → Type 0
Passes i [] j = i ≡ j
Passes true (b ∷ bytes) j = Passes (if b == 10 then false else true) bytes j
Passes false (b ∷ bytes) j = ((b ≡ 35) × Passes true bytes j) ⊎ ((is_blank b ≡ true) × Passes false bytes j)

-- line 1, column 1
abbrev pub first_place : Place
first_place = record { line = 1; column = 1 }

-- the place behind a byte
abbrev pub after_byte : Place → ℕ → Place
after_byte place b = if b == 10 then record { line = place.line + 1; column = 1 } else record {
  line = place.line;
  column = place.column + 1;
}

-- the place behind bytes
abbrev pub place_after : List ℕ → Place → Place
place_after [] place = place
place_after (b ∷ bytes) place = place_after bytes (after_byte place b)

-- ---- the tokens of bytes

-- the first token of the bytes is t, behind blanks and comments, and rest lies behind it
pub record First (bytes : List ℕ) (place : Place) (t : Placed) (rest : List ℕ) : Type 0 where
  pub gap : List ℕ
  pub text : List ℕ
  pub parts : bytes ≡ gap ++ (text ++ rest)
  pub blank : Passes false gap false
  pub spelled : Spells text t.token
  pub longest : IsLongest text rest
  pub stands : t.place ≡ place_after gap place

-- the bytes, which begin at this place, are these tokens with blanks and comments between them
abbrev pub Tokens : List ℕ → Place → List Placed → Type 0
Tokens bytes place [] = (inside : Bool) × Passes false bytes inside
Tokens bytes place (t ∷ ts) = (rest : List ℕ) × (f : First bytes place t rest)
    × Tokens rest (place_after f.text t.place) ts

-- ---- bytes that are no tokens

-- the bytes begin with one that is no blank, no comment and begins no token
pub record BeginsNoToken (bytes : List ℕ) : Type 0 where
  pub first : ℕ
  pub others : List ℕ
  pub parts : bytes ≡ first ∷ others
  pub no_blank : is_blank first ≡ false
  pub no_comment : first ≢ 35
  pub no_token : (text rest : List ℕ) (t : Token) → bytes ≡ text ++ rest → Spells text t → ⊥

-- the bytes are these tokens with blanks and comments between them, and then a byte at this place that begins none
abbrev pub TokensUntil : List ℕ → Place → List Placed → Place → Type 0
TokensUntil bytes place [] stop = (gap rest : List ℕ) × (bytes ≡ gap ++ rest) × Passes false gap false
    × BeginsNoToken rest × (stop ≡ place_after gap place)
TokensUntil bytes place (t ∷ ts) stop = (rest : List ℕ) × (f : First bytes place t rest)
    × TokensUntil rest (place_after f.text t.place) ts stop

-- the bytes are tokens up to a byte that begins none
pub record StopsEarly (bytes : List ℕ) (place : Place) : Type 0 where
  pub tokens : List Placed
  pub stop : Place
  pub until : TokensUntil bytes place tokens stop

-- the place of the first token of the bytes, or of the byte that begins none where a token is looked for, or of the end
abbrev pub IsFirstPlace : List ℕ → Place → Type 0
IsFirstPlace bytes place =
    ((t : Placed) × (rest : List ℕ) × First bytes first_place t rest × (place ≡ t.place))
    ⊎ (TokensUntil bytes first_place [] place ⊎ (Tokens bytes first_place [] × (place ≡ place_after bytes first_place)))
