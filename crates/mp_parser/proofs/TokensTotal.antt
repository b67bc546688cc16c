-- Bytes have one list of tokens, or begin no token somewhere.
use Rattle.std.proofs.Common.{◌≡◌, ℕ, zero, suc, ◌<◌, ◌≤◌, Bool, true, false, cond, List, [], ◌∷◌, ◌++◌, length, refl}
use Rattle.std.proofs.Common.{sym, ap, subst, ◌∙◌, arith, length-append, leb, inl, inr}
use Rattle.std.specs.Prelude.{◌⊎◌, ◌&&◌, ◌==◌, codes}
use Rattle.std.specs.Str.{bytes_eq}
use Rattle.mp_parser.specs.declared.limits.TheConstants.{MAX_WORD_BYTES}
use Rattle.mp_parser.specs.declared.place.Place.{Place}
use Rattle.mp_parser.specs.Tokens.{Token, Word, Wildcard, Sign, Arrow, Long, Bad, End, Placed, is_blank, Spells}
use Rattle.mp_parser.specs.Tokens.{Passes, after_byte, Tokens, BeginsNoToken, TokensUntil, StopsEarly}
use Rattle.mp_parser.specs.Lexing.{token_at, behind, lexemes, after_blanks, run_at, kind_at, settled}
use Rattle.mp_parser.specs.Machine.{is_end}
use Rattle.mp_parser.proofs.Fuel.{lexemes-step, shrinks}
use Rattle.mp_parser.proofs.Longest.{IsRun, IsToken, takes, run_at-within, run-some}
use Rattle.mp_parser.proofs.Spelling.{spells-settles}
use Rattle.mp_parser.proofs.TokensLaw.{Starts, blanks-passed, end_at, head-is, tail-is, tokens-lexemes}
use Rattle.mp_parser.proofs.TokensLaw.{lexemes-tokens, is-first}

-- ---- one list

-- lists with one element more at their ends
front-is : (ts us : List Placed) (x y : Placed) → ts ++ x ∷ [] ≡ us ++ y ∷ [] → ts ≡ us
front-is [] [] x y e = refl
front-is [] (u ∷ us) x y e = absurd (omega (arith, ap length e, length-append us (y ∷ [])))
front-is (t ∷ ts) [] x y e = absurd (omega (arith, ap length e, length-append ts (x ∷ [])))
front-is (t ∷ ts) (u ∷ us) x y e = λ i. head-is t u _ _ e i ∷ front-is ts us x y (tail-is t u _ _ e) i

-- bytes have at most one list of tokens
pub tokens-unique : (bytes : List ℕ) (place : Place) (ts us : List Placed) → Tokens bytes place ts
    → Tokens bytes place us → ts ≡ us
tokens-unique bytes place ts us h k =
    let a = tokens-lexemes ts bytes place h in
    let b = tokens-lexemes us bytes place k in
    front-is ts us (end_at a.0) (end_at b.0) (sym a.1 ∙ b.1)

-- ---- a byte that begins no token

-- what is behind blanks and comments begins with none
after_blanks-starts : (bytes : List ℕ) (i : Bool) (place : Place) → Starts (after_blanks i bytes place).0
after_blanks-starts [] i place = tt
after_blanks-starts (b ∷ bytes) true place = after_blanks-starts bytes (cond (b == 10) false true) (after_byte place b)
after_blanks-starts (b ∷ bytes) false place =
    go (b == 35) (is_blank b) refl refl (after_blanks-starts bytes true (after_byte place b))
    (after_blanks-starts bytes false (after_byte place b))
  where
    go : (v w : Bool) → (b == 35) ≡ v → is_blank b ≡ w → Starts (after_blanks true bytes (after_byte place b)).0
        → Starts (after_blanks false bytes (after_byte place b)).0
        → Starts
        (cond v (after_blanks true bytes (after_byte place b))
        (cond w (after_blanks false bytes (after_byte place b)) (b ∷ bytes, place))).0
    go true w e f h k = h
    go false true e f h k = k
    go false false e f h k = (e, f)

either : (v : Bool) (t u : Token) → IsToken t → IsToken u → IsToken (cond v t u)
either true t u h k = h
either false t u h k = k

-- a token settles as one
settled-token : (t : Token) → IsToken t → IsToken (settled t)
settled-token (Word w) h = either (leb (length w) MAX_WORD_BYTES) (Word w) Long tt tt
settled-token (Wildcard name marks kind) h =
    either (leb (length name) MAX_WORD_BYTES && leb (length kind) MAX_WORD_BYTES) (Wildcard name marks kind) Long tt tt
settled-token (Sign s) h = either (bytes_eq s (codes "->")) Arrow (Sign s) tt tt
settled-token _ h = h

run-token : (text : List ℕ) (t : Token) → IsRun text t → IsToken t
run-token text Bad h = h
run-token text End h = h
run-token text _ h = tt

-- where the lexer finds no token, no front is one
no-token : (bytes : List ℕ) → (IsToken (kind_at bytes).0 → ⊥) → (text rest : List ℕ) (t : Token) → bytes ≡ text ++ rest
    → Spells text t → ⊥
no-token bytes none text rest t parts h =
    let r = spells-settles text t h in
    let took = takes text rest r.run r.is_run in
    let none' : IsToken (run_at (text ++ rest)).0
    → ⊥ = λ is.
    none (subst (λ l. IsToken (kind_at l).0) (sym parts) (settled-token (run_at (text ++ rest)).0 is)) in
    go took.enough took.same none' (run_at-within (text ++ rest)).1 r.run r.is_run
  where
    go : length text ≤ (run_at (text ++ rest)).1
        → ((run_at (text ++ rest)).1 ≡ length text → (run_at (text ++ rest)).0 ≡ (spells-settles text t h).run)
        → (IsToken (run_at (text ++ rest)).0 → ⊥) → IsToken (run_at (text ++ rest)).0 ⊎ ((run_at (text ++ rest)).1 ≤ 1)
        → (run : Token) → IsRun text run → ⊥
    go enough same none (inl is) run is_run = none is
    go enough same none (inr small) run is_run =
        let some = run-some text run is_run in
        let r = spells-settles text t h in
        none (subst IsToken (sym (same (omega (arith, enough, small, some)))) (run-token text r.run r.is_run))

-- ---- tokens up to the end or to such a byte

-- a token, a bad byte or the end
pub data Sort (t : Token) : Type 0 where
  a_token : IsToken t → Sort t
  a_bad_byte : t ≡ Bad → Sort t
  the_end : t ≡ End → Sort t

pub sort_of : (t : Token) → Sort t
sort_of Bad = a_bad_byte refl
sort_of End = the_end refl
sort_of _ = a_token tt

token-not-end : (t : Token) → IsToken t → is_end t ≡ false
token-not-end End h = absurd h
token-not-end _ h = refl

no-empty : (kind_at []).0 ≡ Bad → ⊥
no-empty e = cc

begins-none : (rest : List ℕ) → Starts rest → (kind_at rest).0 ≡ Bad → BeginsNoToken rest
begins-none [] h e = absurd (no-empty e)
begins-none (b ∷ bytes) h e = record {
  first = b;
  others = bytes;
  parts = refl;
  no_blank = h.1;
  no_comment = λ is. let same : (b == 35) ≡ true = ap (λ n. n == 35) is in absurd cc;
  no_token = no-token (b ∷ bytes) (λ is. subst IsToken e is);
}

begins-some : (rest : List ℕ) → (kind_at rest).0 ≡ Bad → 0 < length rest
begins-some [] e = absurd (no-empty e)
begins-some (b ∷ bytes) e = omega arith

pub stops-at : (bytes : List ℕ) (place : Place) → (token_at bytes place).0.token ≡ Bad
    → TokensUntil bytes place [] (token_at bytes place).0.place
stops-at bytes place e =
    let r = blanks-passed bytes false place in
    let rest = (after_blanks false bytes place).0 in (
      r.gap,
      rest,
      r.parts,
      subst (λ j. Passes false r.gap j) (r.closed (begins-some rest e)) r.passes,
      begins-none rest (after_blanks-starts bytes false place) e,
      r.stands,
    )

pub ends-at : (bytes : List ℕ) (place : Place) → (token_at bytes place).0.token ≡ End → Tokens bytes place []
ends-at bytes place e =
    let next = token_at bytes place in
    lexemes-tokens [] bytes place next.0.place tt
    (lexemes-step bytes place ∙ ap (λ k. let t : Placed = record { token = k; place = next.0.place } in
    t ∷ behind k (lexemes next.1.0 next.1.1)) e)

-- bytes have tokens, or tokens up to a byte that begins none
total : (n : ℕ) (bytes : List ℕ) (place : Place) → length bytes < n
    → ((ts : List Placed) × Tokens bytes place ts) ⊎ StopsEarly bytes place
total zero bytes place h = absurd (omega arith)
total (suc n) bytes place h = go (sort_of (token_at bytes place).0.token)
    (λ e. total n (token_at bytes place).1.0 (token_at bytes place).1.1 (omega (arith, h, shrinks bytes place e)))
  where
    more : IsToken (token_at bytes place).0.token
        → ((ts : List Placed) × Tokens (token_at bytes place).1.0 (token_at bytes place).1.1 ts)
        ⊎ StopsEarly (token_at bytes place).1.0 (token_at bytes place).1.1
        → ((ts : List Placed) × Tokens bytes place ts) ⊎ StopsEarly bytes place
    more is (inl r) =
        let next = token_at bytes place in
        let f = is-first bytes place is in
        inl (next.0 ∷ r.0, (next.1.0, f.0, subst (λ p. Tokens next.1.0 p r.0) (sym f.1) r.1))
    more is (inr r) =
        let next = token_at bytes place in
        let f = is-first bytes place is in
        inr (record {
          tokens = next.0 ∷ r.tokens;
          stop = r.stop;
          until = (next.1.0, f.0, subst (λ p. TokensUntil next.1.0 p r.tokens r.stop) (sym f.1) r.until);
        })

    go : Sort (token_at bytes place).0.token
        → (is_end (token_at bytes place).0.token ≡ false
        → ((ts : List Placed) × Tokens (token_at bytes place).1.0 (token_at bytes place).1.1 ts)
        ⊎ StopsEarly (token_at bytes place).1.0 (token_at bytes place).1.1)
        → ((ts : List Placed) × Tokens bytes place ts) ⊎ StopsEarly bytes place
    go (a_token is) ih = more is (ih (token-not-end _ is))
    go (a_bad_byte e) ih =
        inr (record { tokens = []; stop = (token_at bytes place).0.place; until = stops-at bytes place e })
    go (the_end e) ih = inl ([], ends-at bytes place e)

pub tokens-total : (bytes : List ℕ) (place : Place)
    → ((ts : List Placed) × Tokens bytes place ts) ⊎ StopsEarly bytes place
tokens-total bytes place = total (suc (length bytes)) bytes place (omega arith)
