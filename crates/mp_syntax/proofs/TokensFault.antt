-- The first bad token of bytes: a byte that begins none, or a word that is too long.
use Rattle.std.proofs.Common.{inl, inr, ◌≡◌, ℕ, List, [], ◌∷◌, ◌++◌, Option, Some}
use Rattle.std.proofs.Common.{None, refl, sym, ap, ◌∙◌, append_assoc}
use Rattle.std.specs.Prelude.{◌⊎◌, ◌≢◌}
use Rattle.mp_parser.specs.declared.place.Place.{Place}
use Rattle.mp_parser.specs.declared.fault.Fault.{Fault}
use Rattle.mp_parser.specs.declared.fault.FaultKind.{FaultKind}
use Rattle.mp_parser.specs.declared.fault.FaultKind.TheVariants.{Syntax, TooDeep, BadByte, TooMany}
use Rattle.mp_parser.specs.Tokens.{Token, Long, Bad, End, Placed, Tokens, TokensUntil}
use Rattle.mp_parser.specs.Tokens.{first_place, place_after}
use Rattle.mp_parser.specs.Lexing.{lexemes}
use Rattle.mp_syntax.specs.Begins.{Text}
use Rattle.mp_syntax.specs.FirstFault.{NoneLong, AreTokensOf, HasTokens, IsFaultAt}
use Rattle.mp_syntax.specs.Reading.{bad_or, first_bad}
use Rattle.mp_parser.proofs.Spelling.{spells-token}
use Rattle.mp_parser.proofs.Longest.{IsToken}
use Rattle.mp_parser.proofs.TokensLaw.{AreTokens, tokens-lexemes}
use Rattle.mp_parser.proofs.TokensLaw.{end_at}
use Rattle.mp_parser.proofs.TokensUntil.{bad_at, until-lexemes}

-- ---- each of the tokens is one

pub tokens-are : (ts : List Placed) (bytes : List ℕ) (place : Place) → Tokens bytes place ts → AreTokens ts
tokens-are [] bytes place h = tt
tokens-are (t ∷ ts) bytes place h =
    (spells-token h.1.text t.token h.1.spelled, tokens-are ts h.0 (place_after h.1.text t.place) h.2)

until-are : (ts : List Placed) (bytes : List ℕ) (place stop : Place) → TokensUntil bytes place ts stop → AreTokens ts
until-are [] bytes place stop h = tt
until-are (t ∷ ts) bytes place stop h =
    (spells-token h.1.text t.token h.1.spelled, until-are ts h.0 (place_after h.1.text t.place) stop h.2)

front-are : (a b : List Placed) → AreTokens (a ++ b) → AreTokens a
front-are [] b h = tt
front-are (t ∷ a) b h = (h.0, front-are a b h.1)

-- the tokens are the lexer's, whatever follows them
pub has-lexemes : (bytes : List ℕ) (ts : List Placed) → HasTokens bytes ts
    → AreTokens ts × (tail : List Placed) × (lexemes bytes first_place ≡ ts ++ tail)
has-lexemes bytes ts (inl h) = let l =
    tokens-lexemes ts bytes first_place h in (tokens-are ts bytes first_place h, end_at l.0 ∷ [], l.1)
has-lexemes bytes ts (inr h) = let l =
    until-lexemes ts bytes first_place h.0 h.1 in (until-are ts bytes first_place h.0 h.1, bad_at h.0 ∷ l.0, l.1)

-- ---- words that are too long

-- a token is a word that is too long, or it isn't bad
long_or_good : (k : Token) → IsToken k
    → (k ≡ Long) ⊎ ((k ≢ Long) × ((place : Place) (o : Option Fault) → bad_or k place o ≡ o))
long_or_good Long is = inl refl
long_or_good Bad is = absurd is
long_or_good End is = absurd is
long_or_good _ is = inr (λ e. absurd cc, λ place o. refl)

-- the first word that is too long among tokens
pub record LongIn (ts : List Placed) : Type 0 where
  pub before : List Placed
  pub token : Placed
  pub after : List Placed
  pub parts : ts ≡ before ++ token ∷ after
  pub none : NoneLong before
  pub long : token.token ≡ Long

pub find-long : (ts : List Placed) → AreTokens ts → NoneLong ts ⊎ LongIn ts
find-long [] is = inl tt
find-long (t ∷ ts) is = go (long_or_good t.token is.0) (find-long ts is.1)
  where
    go : (t.token ≡ Long) ⊎ ((t.token ≢ Long) × ((place : Place) (o : Option Fault) → bad_or t.token place o ≡ o))
        → NoneLong ts ⊎ LongIn ts → NoneLong (t ∷ ts) ⊎ LongIn (t ∷ ts)
    go (inl e) h = inr (record { before = []; token = t; after = ts; parts = refl; none = tt; long = e })
    go (inr n) (inl h) = inl (n.0, h)
    go (inr n) (inr h) =
        inr (record {
          before = t ∷ h.before;
          token = h.token;
          after = h.after;
          parts = ap (λ l. t ∷ l) h.parts;
          none =
              (n.0, h.none);
          long = h.long;
        })

-- ---- the first bad token

-- behind tokens of which no word is too long
pub none-first : (ts tail : List Placed) → AreTokens ts → NoneLong ts → first_bad (ts ++ tail) ≡ first_bad tail
none-first [] tail is none = refl
none-first (t ∷ ts) tail is none = go (long_or_good t.token is.0) ∙ none-first ts tail is.1 none.1
  where
    go : (t.token ≡ Long) ⊎ ((t.token ≢ Long) × ((place : Place) (o : Option Fault) → bad_or t.token place o ≡ o))
        → bad_or t.token t.place (first_bad (ts ++ tail)) ≡ first_bad (ts ++ tail)
    go (inl e) = absurd (none.0 e)
    go (inr n) = n.1 t.place (first_bad (ts ++ tail))

-- the first word that is too long
pub long-first : (before : List Placed) (t : Placed) (after tail : List Placed) → AreTokens (before ++ t ∷ after)
    → NoneLong before → t.token ≡ Long
    → first_bad ((before ++ t ∷ after) ++ tail) ≡ Some (record { kind = TooMany; place = t.place })
long-first before t after tail is none long =
    ap first_bad (append_assoc before (t ∷ after) tail)
    ∙ none-first before (t ∷ (after ++ tail)) (front-are before (t ∷ after) is) none
    ∙ ap (λ k. bad_or k t.place (first_bad (after ++ tail))) long

-- bytes whose tokens are good have none
pub good-first : (bytes : List ℕ) (ts : List Placed) → AreTokensOf bytes ts
    → first_bad (lexemes bytes first_place) ≡ None
good-first bytes ts h =
    let l = tokens-lexemes ts bytes first_place h.0 in
    ap first_bad l.1 ∙ none-first ts (end_at l.0 ∷ []) (tokens-are ts bytes first_place h.0) h.1

-- the first bad token, where this kind of fault is of one; none, where it is of another
abbrev pub Met : FaultKind → Place → Option Fault → Type 0
Met BadByte place o = o ≡ Some (record { kind = BadByte; place = place })
Met TooMany place o = o ≡ Some (record { kind = TooMany; place = place })
Met _ place o = o ≡ None

pub met : (b : Text) (bytes : List ℕ) (kind : FaultKind) (place : Place) → IsFaultAt b bytes kind place
    → Met kind place (first_bad (lexemes bytes first_place))
met b bytes BadByte place h =
    let l = until-lexemes h.0 bytes first_place place h.1 in
    ap first_bad l.1 ∙ none-first h.0 (bad_at place ∷ l.0) (until-are h.0 bytes first_place place h.1) h.2
met b bytes TooMany place h =
    let l = has-lexemes bytes (h.before ++ h.token ∷ h.after) h.tokens in
    ap first_bad l.2
    ∙ long-first h.before h.token h.after l.1 l.0 h.none h.long
    ∙ ap (λ p. Some (record { kind = TooMany; place = p })) (sym h.stands)
met b bytes TooDeep place h = good-first bytes h.0 h.1
met b bytes Syntax place h = good-first bytes h.0 h.1
