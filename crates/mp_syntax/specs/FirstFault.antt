-- The first fault of bytes: first of their tokens, then the first token behind which no text of the sort goes on.
use Rattle.std.specs.Prelude.{zero, ◌≡◌, ◌≢◌, ◌⊎◌, ℕ, suc, List, [], ◌∷◌, ◌++◌}
use Rattle.mp_parser.specs.declared.limits.TheConstants.{MAX_OPEN}
use Rattle.mp_parser.specs.declared.place.Place.{Place}
use Rattle.mp_parser.specs.declared.fault.FaultKind.{FaultKind}
use Rattle.mp_parser.specs.declared.fault.FaultKind.TheVariants.{Syntax, TooDeep, BadByte, TooMany}
use Rattle.mp_parser.specs.declared.fault.Fault.{Fault}
use Rattle.mp_parser.specs.declared.token.Punct.TheVariants.{Open, Close, OpenSquare, CloseSquare}
use Rattle.mp_parser.specs.Tokens.{Token, Punctuation, Long, Placed, Tokens, TokensUntil, first_place, place_after}
use Rattle.mp_syntax.specs.Begins.{Text, Begins, IsWhole}

-- ---- open brackets

-- the token is an opening bracket, round or square
abbrev pub Opens : Token → Type 0
Opens (Punctuation Open) = Unit {0}
Opens (Punctuation OpenSquare) = Unit {0}
Opens _ = ⊥

-- one fewer
abbrev pub fewer : ℕ → ℕ
fewer zero = zero
fewer (suc n) = n

-- how many brackets stand open behind a token, where n stood open before it
abbrev pub open_behind : ℕ → Token → ℕ
open_behind n (Punctuation Open) = suc n
open_behind n (Punctuation OpenSquare) = suc n
open_behind n (Punctuation Close) = fewer n
open_behind n (Punctuation CloseSquare) = fewer n
open_behind n _ = n

-- how many stand open behind tokens
abbrev pub open_after : ℕ → List Placed → ℕ
open_after n [] = n
open_after n (t ∷ ts) = open_after (open_behind n t.token) ts

-- ---- refused tokens

-- behind these tokens t is refused: no text goes on with it, or it is a bracket with which texts go on while 100 stand
-- open
abbrev pub Refuses : Text → List Placed → Placed → FaultKind → Type 0
Refuses sort before t Syntax = Begins sort (before ++ t ∷ []) → ⊥
Refuses sort before t TooDeep =
    Begins sort (before ++ t ∷ []) × Opens t.token × (open_after 0 before ≡ MAX_OPEN)
Refuses sort before t _ = ⊥

-- none of the tokens is refused behind those before it
abbrev pub NoneRefused : Text → List Placed → Type 0
NoneRefused sort ts = (before after : List Placed) (t : Placed) (kind : FaultKind) → ts ≡ before ++ t ∷ after
    → Refuses sort before t kind → ⊥

-- the first refused token of these is refused as this kind, and stands at this place
pub record FirstRefused (sort : Text) (ts : List Placed) (kind : FaultKind) (place : Place) : Type 0 where
  pub before : List Placed
  pub token : Placed
  pub after : List Placed
  pub parts : ts ≡ before ++ token ∷ after
  pub refused : Refuses sort before token kind
  pub first : NoneRefused sort before
  pub stands : place ≡ token.place

-- ---- tokens of bytes

-- no word of the tokens is too long
abbrev pub NoneLong : List Placed → Type 0
NoneLong [] = Unit {0}
NoneLong (t ∷ ts) = (t.token ≢ Long) × NoneLong ts

-- the bytes have these tokens up to the end, and no word of them is too long
abbrev pub AreTokensOf : List ℕ → List Placed → Type 0
AreTokensOf bytes ts = Tokens bytes first_place ts × NoneLong ts

-- the bytes have these tokens, up to the end or to the first byte that begins none
abbrev pub HasTokens : List ℕ → List Placed → Type 0
HasTokens bytes ts = Tokens bytes first_place ts ⊎ ((stop : Place) × TokensUntil bytes first_place ts stop)

-- the first word that is too long stands at this place
pub record FirstLong (bytes : List ℕ) (place : Place) : Type 0 where
  pub before : List Placed
  pub token : Placed
  pub after : List Placed
  pub tokens : HasTokens bytes (before ++ token ∷ after)
  pub none : NoneLong before
  pub long : token.token ≡ Long
  pub stands : place ≡ token.place

-- ---- faults

-- the tokens end too early: none of them is refused, they are no text, and this is the place of the end
abbrev pub EndsEarly : Text → List ℕ → List Placed → Place → Type 0
EndsEarly sort bytes ts place =
    NoneRefused sort ts × (IsWhole sort ts → ⊥) × (place ≡ place_after bytes first_place)

-- the first fault of bytes as a text of this sort: of all tokens, then the first refused one, then the end
abbrev pub IsFaultAt : Text → List ℕ → FaultKind → Place → Type 0
IsFaultAt sort bytes BadByte place = (ts : List Placed) × TokensUntil bytes first_place ts place × NoneLong ts
IsFaultAt sort bytes TooMany place = FirstLong bytes place
IsFaultAt sort bytes TooDeep place = (ts : List Placed) × AreTokensOf bytes ts × FirstRefused sort ts TooDeep place
IsFaultAt sort bytes Syntax place = (ts : List Placed) × AreTokensOf bytes ts
    × (FirstRefused sort ts Syntax place ⊎ EndsEarly sort bytes ts place)

-- the same of a kind and a place in one
abbrev pub IsFirstFault : Text → List ℕ → Fault → Type 0
IsFirstFault sort bytes f = IsFaultAt sort bytes f.kind f.place
