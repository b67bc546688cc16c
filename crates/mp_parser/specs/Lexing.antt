-- What the lexer takes from the front of the bytes, as total functions.
use Rattle.std.specs.Prelude.{ℕ, zero, suc, ◌+◌, Bool, true, false, List, [], ◌∷◌, length, take, drop, ◌==◌, ◌||◌}
use Rattle.std.specs.Prelude.{◌&&◌, nat_le, if◌then◌else◌, codes}
use Rattle.std.specs.List.{prefix_len}
use Rattle.std.specs.Str.{bytes_eq}
use Rattle.mp_parser.specs.declared.limits.TheConstants.{MAX_WORD_BYTES}
use Rattle.mp_parser.specs.declared.place.Place.{Place}
use Rattle.mp_parser.specs.declared.token.Punct.TheVariants.{Open, Close, OpenSquare, CloseSquare, OpenBrace}
use Rattle.mp_parser.specs.declared.token.Punct.TheVariants.{CloseBrace, Comma, Semicolon, Colon, Dot, Dollar}
use Rattle.mp_parser.specs.declared.token.Kind.{Kind}
use Rattle.mp_parser.specs.declared.token.Kind.TheVariants as kinds
use Rattle.mp_parser.specs.Tokens.{Token, Word, Wildcard, Sign, Arrow, Punctuation, Long, Bad, End, Placed}
use Rattle.mp_parser.specs.Tokens.{is_word_byte, is_sign_byte, is_blank, after_byte, first_place}

-- ---- views

-- the token, apart from where its words lie in memory
abbrev pub token_of : Kind → Token
token_of (kinds.Word w) = Word w.now
token_of (kinds.Wildcard name marks kind) = Wildcard name.now marks kind.now
token_of (kinds.Sign s) = Sign s.now
token_of kinds.Arrow = Arrow
token_of (kinds.Punct p) = Punctuation p
token_of kinds.Long = Long
token_of kinds.Bad = Bad
token_of kinds.End = End

-- ---- the token at the front

-- an underscore
abbrev pub is_underscore : ℕ → Bool
is_underscore b = b == 95

-- the smaller number
abbrev pub least : ℕ → ℕ → ℕ
least m n = if nat_le m n then m else n

-- what a name, a number of underscores and the bytes behind them are, and its length
abbrev pub with_underscores : List ℕ → ℕ → List ℕ → Token × ℕ
with_underscores name zero after = (Word name, length name)
with_underscores name (suc zero) after =
    (Wildcard name 1 (take (prefix_len is_word_byte after) after), length name + 1 + prefix_len is_word_byte after)
with_underscores name (suc (suc n)) after = (Wildcard name (suc (suc n)) [], length name + suc (suc n))

-- the word or wildcard at the front, and its length
abbrev pub word_or_wildcard_at : List ℕ → Token × ℕ
word_or_wildcard_at bytes =
    let rest = drop (prefix_len is_word_byte bytes) bytes in
    let marks = least 3 (prefix_len is_underscore rest) in
    with_underscores (take (prefix_len is_word_byte bytes) bytes) marks (drop marks rest)

-- the run of sign bytes at the front, and its length
abbrev pub sign_at : List ℕ → Token × ℕ
sign_at bytes = (Sign (take (prefix_len is_sign_byte bytes) bytes), prefix_len is_sign_byte bytes)

-- the punctuation character that a byte is
abbrev pub punct_at : ℕ → Token
punct_at b =
    if b == 40 then Punctuation Open
    else (if b == 41 then Punctuation Close
    else (if b == 91 then Punctuation OpenSquare
    else (if b == 93 then Punctuation CloseSquare
    else (if b == 123 then Punctuation OpenBrace
    else (if b == 125 then Punctuation CloseBrace
    else (if b == 44 then Punctuation Comma
    else (if b == 59 then Punctuation Semicolon
    else (if b == 58 then Punctuation Colon
    else (if b == 46 then Punctuation Dot
    else (if b == 36 then Punctuation Dollar
    else Bad))))))))))

-- the run of bytes at the front that is one token, with words of any length and the arrow as a sign, and its length
abbrev pub run_at : List ℕ → Token × ℕ
run_at [] = (End, 0)
run_at (b ∷ bytes) =
    if is_word_byte b || is_underscore b then word_or_wildcard_at (b ∷ bytes)
    else (if is_sign_byte b then sign_at (b ∷ bytes)
    else (punct_at b, 1))

-- the token of a run: `->` is the arrow, and a word of more than 64 bytes is too long
abbrev pub settled : Token → Token
settled (Word w) = if nat_le (length w) MAX_WORD_BYTES then Word w else Long
settled (Wildcard name marks kind) = if nat_le (length name) MAX_WORD_BYTES
    && nat_le (length kind) MAX_WORD_BYTES then Wildcard name marks kind else Long
settled (Sign s) = if bytes_eq s (codes "->") then Arrow else Sign s
settled t = t

-- the longest token at the front, and its length
abbrev pub kind_at : List ℕ → Token × ℕ
kind_at bytes = (settled (run_at bytes).0, (run_at bytes).1)

-- ---- all tokens

-- the bytes behind the blanks and comments at the front, and their place; the test says whether a comment is open
abbrev pub after_blanks : Bool → List ℕ → Place → List ℕ × Place
after_blanks inside [] place = ([], place)
after_blanks true (b ∷ bytes) place = after_blanks (if b == 10 then false else true) bytes (after_byte place b)
after_blanks false (b ∷ bytes) place =
    if b == 35 then after_blanks true bytes (after_byte place b)
    else (if is_blank b then after_blanks false bytes (after_byte place b)
    else (b ∷ bytes, place))

-- the next token, and the bytes behind it with their place
abbrev pub token_at : List ℕ → Place → Placed × (List ℕ × Place)
token_at bytes place =
    let start = after_blanks false bytes place in
    let found = kind_at start.0 in (
      record { token = found.0; place = start.1 },
      (drop found.1 start.0, record { line = start.1.line; column = start.1.column + found.1 }),
    )

-- the place of the first token, or of the end where there is none
abbrev pub first_token_place : List ℕ → Place
first_token_place bytes = (token_at bytes first_place).0.place

-- the tokens behind a token: nothing stands behind the end
abbrev pub behind : Token → List Placed → List Placed
behind End ts = []
behind _ ts = ts

-- the first n tokens, or as many as there are
abbrev pub first_tokens : ℕ → List ℕ → Place → List Placed
first_tokens zero bytes place = []
first_tokens (suc n) bytes place =
    let next = token_at bytes place in
    next.0 ∷ behind next.0.token (first_tokens n next.1.0 next.1.1)

-- all tokens and the end, with a bad byte for each byte that begins none
unfoldable pub lexemes : List ℕ → Place → List Placed
lexemes bytes place = first_tokens (suc (length bytes)) bytes place
