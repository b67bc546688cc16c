-- Tokens up to a byte that begins none are the lexer's.
use Rattle.std.proofs.Common.{◌+◌, inl, inr, ◌≡◌, ℕ, Bool, true, false, List, [], ◌∷◌, ◌++◌, take, drop}
use Rattle.std.proofs.Common.{refl, sym, ap, subst, ◌∙◌, take-append-drop}
use Rattle.std.specs.Prelude.{◌==◌}
use Rattle.std.proofs.lemmas.Bool.{eqb-true}
use Rattle.mp_parser.specs.declared.place.Place.{Place}
use Rattle.mp_parser.specs.Tokens.{Token, Bad, Placed, TokensUntil, BeginsNoToken, Passes}
use Rattle.mp_parser.specs.Tokens.{place_after}
use Rattle.mp_parser.specs.Lexing.{lexemes, behind, after_blanks, kind_at}
use Rattle.mp_parser.proofs.Spelling.{spells-token, kind_at-spells}
use Rattle.mp_parser.proofs.Fuel.{lexemes-step, lexemes-next}
use Rattle.mp_parser.proofs.TokensLaw.{Starts, first-is, passes-blanks, starts-stay}
use Rattle.mp_parser.proofs.TokensLaw.{behind-token}
use Rattle.mp_parser.proofs.TokensTotal.{Sort, a_token, a_bad_byte, the_end, sort_of, ends-at}

-- the bad token at this place
abbrev pub bad_at : Place → Placed
bad_at p = record { token = Bad; place = p }

starts-none : (rest : List ℕ) → BeginsNoToken rest → Starts rest
starts-none rest n = subst Starts (sym n.parts) (line (n.first == 35) refl, n.no_blank)
  where
    line : (v : Bool) → (n.first == 35) ≡ v → (n.first == 35) ≡ false
    line true e = absurd (n.no_comment (eqb-true n.first 35 e))
    line false e = e

none-blank : (rest : List ℕ) (inside : Bool) → BeginsNoToken rest → Passes false rest inside → ⊥
none-blank rest inside n h = go (subst (λ l. Passes false l inside) n.parts h)
  where
    go : Passes false (n.first ∷ n.others) inside → ⊥
    go (inl x) = n.no_comment x.0
    go (inr x) = let a = n.no_blank in let c = x.0 in absurd cc

bad-kind : (rest : List ℕ) (place : Place) → BeginsNoToken rest → (kind_at rest).0 ≡ Bad
bad-kind rest place n = go (sort_of (kind_at rest).0)
  where
    go : Sort (kind_at rest).0 → (kind_at rest).0 ≡ Bad
    go (a_token is) =
        absurd (n.no_token (take (kind_at rest).1 rest) (drop (kind_at rest).1 rest) (kind_at rest).0
        (sym (take-append-drop (kind_at rest).1 rest)) (kind_at-spells rest is))
    go (a_bad_byte e) = e
    go (the_end e) =
        let t = ends-at rest place
        (ap (λ (x : List ℕ × Place). (kind_at x.0).0) (starts-stay rest place (starts-none rest n)) ∙ e) in
        absurd (none-blank rest t.0 n t.1)

pub until-lexemes : (ts : List Placed) (bytes : List ℕ) (place stop : Place) → TokensUntil bytes place ts stop
    → (rest : List Placed) × (lexemes bytes place ≡ ts ++ bad_at stop ∷ rest)
until-lexemes [] bytes place stop h =
    let rest = h.1 in
    let start : after_blanks false bytes place ≡ (rest, stop) = ap (λ l. after_blanks false l place) h.2
    ∙ passes-blanks h.0 false false rest place h.3 ∙ starts-stay rest (place_after h.0 place) (starts-none rest h.4)
    ∙ ap (λ (p : Place). (rest, p)) (sym h.5) in
    let k = kind_at rest in (
      lexemes (drop k.1 rest) (record { line = stop.line; column = stop.column + k.1 }),
      lexemes-step bytes place
          ∙ ap (λ (x : List ℕ × Place). let k = kind_at x.0 in let t : Placed =
          record { token = k.0; place = x.1 } in t
          ∷ behind k.0 (lexemes (drop k.1 x.0) (record { line = x.1.line; column = x.1.column + k.1 }))) start
          ∙ ap (λ (u : Token). let t : Placed =
          record { token = u; place = stop } in t
          ∷ behind u (lexemes (drop k.1 rest) (record { line = stop.line; column = stop.column + k.1 })))
          (bad-kind rest stop h.4),
    )
until-lexemes (t ∷ ts) bytes place stop h =
    let f = h.1 in
    let ih = until-lexemes ts h.0 (place_after f.text t.place) stop h.2 in (
      ih.0,
      lexemes-next bytes place t h.0 (place_after f.text t.place) (first-is bytes h.0 place t f)
          ∙ ap (λ l. t ∷ l) (behind-token t.token _ (spells-token f.text t.token f.spelled) ∙ ih.1),
    )
