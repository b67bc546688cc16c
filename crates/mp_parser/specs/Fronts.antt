-- What the lexer passes at the front of the bytes, where no blank and no comment stands there.
use Rattle.std.specs.Prelude.{◌≡◌, ℕ, ◌+◌, List, [], ◌∷◌, drop}
use Rattle.mp_parser.specs.declared.place.Place.{Place}
use Rattle.mp_parser.specs.Tokens.{Token, Bad}
use Rattle.mp_parser.specs.Lexing.{punct_at, kind_at}

-- a token of so many bytes of one line, and what lies behind it with its place
abbrev pub passed : Token × ℕ → List ℕ → Place → Token × (List ℕ × Place)
passed found bytes place =
    (found.0, (drop found.1 bytes, record { line = place.line; column = place.column + found.1 }))

-- the longest token at the front, and what lies behind it with its place
abbrev pub front_at : List ℕ → Place → Token × (List ℕ × Place)
front_at bytes place = passed (kind_at bytes) bytes place

-- no punctuation character stands at the front
abbrev pub NoPunct : List ℕ → Type 0
NoPunct [] = Unit {0}
NoPunct (b ∷ bytes) = punct_at b ≡ Bad
