-- The place of the first token of bytes is that of the lexer's.
use Rattle.std.proofs.Common.{◌≡◌, ℕ, List, [], ◌∷◌, refl, sym, ap, ◌∙◌, inl, inr}
use Rattle.mp_parser.specs.declared.place.Place.{Place}
use Rattle.mp_parser.specs.Tokens.{Placed, IsFirstPlace, first_place}
use Rattle.mp_parser.specs.Lexing.{token_at, behind, lexemes, first_token_place}
use Rattle.mp_parser.proofs.Fuel.{lexemes-step}
use Rattle.mp_parser.proofs.TokensLaw.{head-is, end_at, first-is, is-first, tokens-lexemes}
use Rattle.mp_parser.proofs.TokensTotal.{Sort, a_token, a_bad_byte, the_end, sort_of, stops-at, ends-at}
use Rattle.mp_parser.proofs.TokensUntil.{bad_at, until-lexemes}

-- the first token of all is the one that is found first
head : (bytes : List ℕ) (t : Placed) (ts : List Placed) → lexemes bytes first_place ≡ t ∷ ts
    → t.place ≡ first_token_place bytes
head bytes t ts e =
    let next = token_at bytes first_place in
    ap (λ (p : Placed). p.place)
    (sym (head-is next.0 t (behind next.0.token (lexemes next.1.0 next.1.1)) ts
    (sym (lexemes-step bytes first_place) ∙ e)))

-- the place is the lexer's
pub IsFirstPlace-is : (bytes : List ℕ) (place : Place) → IsFirstPlace bytes place → place ≡ first_token_place bytes
IsFirstPlace-is bytes place (inl h) =
    h.3 ∙ ap (λ r. r.0.place) (sym (first-is bytes h.1 first_place h.0 h.2))
IsFirstPlace-is bytes place (inr (inl h)) =
    let l = until-lexemes [] bytes first_place place h in
    head bytes (bad_at place) l.0 l.1
IsFirstPlace-is bytes place (inr (inr h)) =
    let l = tokens-lexemes [] bytes first_place h.0 in
    h.1 ∙ sym l.2 ∙ head bytes (end_at l.0) [] l.1

-- and the lexer's is one
pub first_token_place-is : (bytes : List ℕ) → IsFirstPlace bytes (first_token_place bytes)
first_token_place-is bytes = go (sort_of (token_at bytes first_place).0.token)
  where
    go : Sort (token_at bytes first_place).0.token → IsFirstPlace bytes (first_token_place bytes)
    go (a_token is) =
        let next = token_at bytes first_place in
        inl (next.0, next.1.0, (is-first bytes first_place is).0, refl)
    go (a_bad_byte e) = inr (inl (stops-at bytes first_place e))
    go (the_end e) =
        let tokens = ends-at bytes first_place e in
        let l = tokens-lexemes [] bytes first_place tokens in
        inr (inr (tokens, sym (head bytes (end_at l.0) [] l.1) ∙ l.2))
