-- A condition that is read begins at the first token of its text.
use Rattle.std.proofs.Common.{◌≡◌, ℕ, true, false, List, [], ◌∷◌, ◌++◌, Result, Ok, Err, inl, refl, sym, ap, subst}
use Rattle.std.proofs.Common.{◌∙◌}
use Rattle.mp_parser.specs.declared.fault.Fault.{Fault}
use Rattle.mp_parser.specs.Tokens.{Placed, Tokens, first_place}
use Rattle.mp_parser.specs.Lexing.{first_token_place}
use Rattle.mp_parser.specs.Syntax.{Expected, AllMatch, Number, Measured, Compare, Relate, Test, Literal, AtomOf}
use Rattle.mp_parser.specs.Syntax.{Bracketed, Literals, no_literals, more_literals, Condition, no_alternatives}
use Rattle.mp_parser.specs.Syntax.{more_alternatives, HasLiteral, FitsCondition, spell_literal}
use Rattle.mp_parser.specs.Syntax.{spell_literals, spell_condition, IsConditionOf}
use Rattle.mp_syntax.specs.Reading.{condition_reading}
use Rattle.mp_parser.proofs.FirstPlace.{IsFirstPlace-is}
use Rattle.mp_syntax.specs.Begins.{OfCondition}
use Rattle.mp_syntax.specs.FirstFault.{IsFirstFault}
use Rattle.mp_syntax.proofs.Whole.{condition_reading-found, condition_reading-only}
use Rattle.mp_syntax.proofs.Whole.{condition_reading-fault, condition_reading-only_fault}
use Rattle.mp_build.specs.AloneCondition.{PlacedCondition, StartsAt, IsPlacedConditionOf}
use Rattle.mp_build.specs.PlacedReading.{at_place, placed_reading}
use Rattle.mp_build.proofs.AloneLaws.{IsReading}

-- the first of the tokens is the one that is found first
first-is : (bytes : List ℕ) (t : Placed) (ts : List Placed) → Tokens bytes first_place (t ∷ ts)
    → t.place ≡ first_token_place bytes
first-is bytes t ts h = IsFirstPlace-is bytes t.place (inl (t, h.0, h.1, refl))

-- there is a token
abbrev HasToken : List Expected → Type 0
HasToken [] = ⊥
HasToken (m ∷ ms) = Unit {0}

token-append : (a b : List Expected) → HasToken a → HasToken (a ++ b)
token-append [] b h = absurd h
token-append (m ∷ a) b h = tt

-- a literal has one
token-literal : (l : Literal) → HasToken (spell_literal l)
token-literal (AtomOf true a) = tt
token-literal (AtomOf false (Compare (Number n) s m)) = tt
token-literal (AtomOf false (Compare (Measured d t) s m)) = tt
token-literal (AtomOf false (Relate r t u)) = tt
token-literal (AtomOf false (Test p t n)) = tt
token-literal (Bracketed true c) = tt
token-literal (Bracketed false c) = tt

token-literals : (ls : Literals) → HasLiteral ls → HasToken (spell_literals [] ls)
token-literals no_literals h = absurd h
token-literals (more_literals l ls) h = token-append (spell_literal l) _ (token-literal l)

-- so has a condition
token-condition : (room : ℕ) (c : Condition) → FitsCondition room c → HasToken (spell_condition c)
token-condition room no_alternatives h = absurd h.0
token-condition room (more_alternatives a c) h = token-append (spell_literals [] a) _ (token-literals a h.1.0)

starts : (bytes : List ℕ) (ts : List Placed) (ms : List Expected) → AllMatch ts ms → HasToken ms
    → Tokens bytes first_place ts → StartsAt bytes (first_token_place bytes)
starts bytes [] [] h some lie = absurd some
starts bytes [] (m ∷ ms) h some lie = absurd h
starts bytes (t ∷ ts) ms h some lie = (t, ts, lie, first-is bytes t ts lie)

-- a condition begins there
pub condition-starts : (bytes : List ℕ) (c : Condition) → IsConditionOf bytes c
    → StartsAt bytes (first_token_place bytes)
condition-starts bytes c h = starts bytes h.tokens (spell_condition c) h.spelled (token-condition 100 c h.fits) h.lie

found : (bytes : List ℕ) (r : Result Condition Fault) (s : PlacedCondition) → condition_reading bytes ≡ r
    → at_place (first_token_place bytes) r ≡ Ok s → IsPlacedConditionOf bytes s
found bytes (Err f) s e h = cc
found bytes (Ok c) s e h =
    let is = condition_reading-found bytes c e in
    let same : record { start = first_token_place bytes; condition = c } ≡ s = cc in
    subst (IsPlacedConditionOf bytes) same (is, condition-starts bytes c is)

only : (bytes : List ℕ) (s : PlacedCondition) → IsPlacedConditionOf bytes s → placed_reading bytes ≡ Ok s
only bytes s h =
    let place : first_token_place bytes ≡ s.start = sym (first-is bytes h.1.0 h.1.1 h.1.2) ∙ h.1.3 in
    ap (at_place (first_token_place bytes)) (condition_reading-only bytes s.condition h.0)
    ∙ (λ i. Ok (record { start = place i; condition = s.condition }))

-- a fault of a condition, at the place of its text
fault : (bytes : List ℕ) (r : Result Condition Fault) (f : Fault) → condition_reading bytes ≡ r
    → at_place (first_token_place bytes) r ≡ Err f → IsFirstFault OfCondition bytes f
fault bytes (Ok c) f e h = cc
fault bytes (Err g) f e h = let same : g ≡ f = cc in
    subst (IsFirstFault OfCondition bytes) same (condition_reading-fault bytes g e)

-- what is read of a condition with its place is what the bytes are
pub IsReading-placed_reading : IsReading OfCondition IsPlacedConditionOf placed_reading
IsReading-placed_reading = record {
  found = λ bytes s h. found bytes (condition_reading bytes) s refl h;
  only = only;
  fault = λ bytes f h. fault bytes (condition_reading bytes) f refl h;
  only_fault = λ bytes f h. ap (at_place (first_token_place bytes)) (condition_reading-only_fault bytes f h);
}
