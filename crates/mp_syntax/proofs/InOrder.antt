-- The first fault of bytes is met by looking at all tokens first, and then by the machine.
use Rattle.std.proofs.Common.{inl, inr, ◌≡◌, ℕ, List, [], ◌∷◌, ◌++◌, Option, Some, None, refl, sym, ap, subst, ◌∙◌}
use Rattle.std.specs.Prelude.{◌⊎◌}
use Rattle.mp_parser.specs.declared.fault.Fault.{Fault}
use Rattle.mp_parser.specs.declared.fault.FaultKind.TheVariants.{BadByte, TooMany}
use Rattle.mp_parser.specs.Tokens.{Placed, Tokens, StopsEarly, first_place}
use Rattle.mp_parser.specs.Lexing.{lexemes}
use Rattle.mp_syntax.specs.Begins.{Text}
use Rattle.mp_syntax.specs.FirstFault.{NoneLong, HasTokens, IsFirstFault}
use Rattle.mp_parser.specs.Machine.{run}
use Rattle.mp_syntax.specs.Reading.{start, first_bad, checked, text_reading}
use Rattle.mp_parser.proofs.TokensLaw.{tokens-lexemes, end_at}
use Rattle.mp_parser.proofs.TokensTotal.{tokens-total}
use Rattle.mp_parser.proofs.TokensUntil.{bad_at, until-lexemes}
use Rattle.mp_syntax.proofs.TokensFault.{has-lexemes, LongIn, find-long, none-first}
use Rattle.mp_syntax.proofs.TokensFault.{long-first}
use Rattle.mp_syntax.proofs.Refused.{err_of, err-is}
use Rattle.mp_syntax.proofs.FirstFault.{fault-first}

-- what is read of bytes that are no text is their first fault
pub text_reading-first : (b : Text) (bytes : List ℕ) (f : Fault) → text_reading b bytes ≡ err_of f
    → IsFirstFault b bytes f
text_reading-first b bytes f e = go (tokens-total bytes first_place)
  where
    -- with this first bad token
    read : (o : Option Fault) → first_bad (lexemes bytes first_place) ≡ o
        → checked o (run [] (start b) (lexemes bytes first_place)) ≡ err_of f
    read o h = sym (ap (λ o. checked o (run [] (start b) (lexemes bytes first_place))) h) ∙ e

    bad : (g : Fault) → first_bad (lexemes bytes first_place) ≡ Some g → g ≡ f
    bad g h = err-is g f (read (Some g) h)

    long : (ts : List Placed) → HasTokens bytes ts → LongIn ts → IsFirstFault b bytes f
    long ts has l =
        let parts : HasTokens bytes (l.before ++ l.token ∷ l.after) = subst (HasTokens bytes) l.parts has in
        let all = has-lexemes bytes (l.before ++ l.token ∷ l.after) parts in
        subst (IsFirstFault b bytes)
        (bad (record { kind = TooMany; place = l.token.place })
        (ap first_bad all.2 ∙ long-first l.before l.token l.after all.1 all.0 l.none l.long))
        (record {
          before = l.before;
          token = l.token;
          after = l.after;
          tokens = parts;
          none = l.none;
          long =
              l.long;
          stands = refl;
        })

    go : ((ts : List Placed) × Tokens bytes first_place ts) ⊎ StopsEarly bytes first_place → IsFirstFault b bytes f
    go (inl r) = at (find-long r.0 (has-lexemes bytes r.0 (inl r.1)).0)
      where
        at : NoneLong r.0 ⊎ LongIn r.0 → IsFirstFault b bytes f
        at (inl none) =
            let all = tokens-lexemes r.0 bytes first_place r.1 in
            fault-first b bytes r.0 f (r.1, none)
            (read None
            (ap first_bad all.1 ∙ none-first r.0 (end_at all.0 ∷ []) (has-lexemes bytes r.0 (inl r.1)).0 none))
        at (inr l) = long r.0 (inl r.1) l
    go (inr r) = at (find-long r.tokens (has-lexemes bytes r.tokens (inr (r.stop, r.until))).0)
      where
        at : NoneLong r.tokens ⊎ LongIn r.tokens → IsFirstFault b bytes f
        at (inl none) =
            let all = until-lexemes r.tokens bytes first_place r.stop r.until in
            subst (IsFirstFault b bytes)
            (bad (record { kind = BadByte; place = r.stop })
            (ap first_bad all.1
            ∙ none-first r.tokens (bad_at r.stop ∷ all.0) (has-lexemes bytes r.tokens (inr (r.stop, r.until))).0 none))
            (r.tokens, r.until, none)
        at (inr l) = long r.tokens (inr (r.stop, r.until)) l
