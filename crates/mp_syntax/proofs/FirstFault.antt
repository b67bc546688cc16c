-- The fault that the machine meets in bytes whose tokens are all good is their first fault, and there is one.
use Rattle.std.proofs.Common.{inl, inr, ◌≡◌, ℕ, List, [], ◌∷◌, ◌++◌, refl, sym, ap, subst, ◌∙◌}
use Rattle.std.specs.Prelude.{◌⊎◌, ◌≢◌}
use Rattle.mp_parser.specs.declared.limits.TheConstants.{MAX_OPEN}
use Rattle.mp_parser.specs.declared.place.Place.{Place}
use Rattle.mp_parser.specs.declared.fault.Fault.{Fault}
use Rattle.mp_parser.specs.declared.fault.FaultKind.{FaultKind}
use Rattle.mp_parser.specs.declared.fault.FaultKind.TheVariants.{Syntax, TooDeep, BadByte, TooMany}
use Rattle.mp_parser.specs.Tokens.{Token, Long, Bad, End, Placed, first_place, place_after}
use Rattle.mp_parser.specs.Lexing.{lexemes}
use Rattle.mp_syntax.specs.Begins.{Text, IsWhole}
use Rattle.mp_syntax.specs.FirstFault.{Refuses, NoneRefused, FirstRefused, NoneLong, AreTokensOf, IsFaultAt}
use Rattle.mp_syntax.specs.FirstFault.{IsFirstFault}
use Rattle.mp_parser.specs.Machine.{run_in}
use Rattle.mp_parser.proofs.Longest.{IsToken}
use Rattle.mp_parser.proofs.TokensLaw.{AreTokens, tokens-lexemes, end_at, head-is, tail-is}
use Rattle.mp_syntax.specs.Reading.{start}
use Rattle.mp_parser.proofs.Adds.{IsGood, AreGood}
use Rattle.mp_syntax.proofs.TokensFault.{tokens-are}
use Rattle.mp_syntax.proofs.Refused.{err_of, run-first}

-- ---- the machine's fault is the first

-- no word of the tokens is too long: they are ones that a text has
pub short-good : (ts : List Placed) → AreTokens ts → NoneLong ts → AreGood ts
short-good [] is none = tt
short-good (t ∷ ts) is none = (good t.token is.0 none.0, short-good ts is.1 none.1)
  where
    good : (k : Token) → IsToken k → k ≢ Long → IsGood k
    good Long i n = absurd (n refl)
    good Bad i n = absurd i
    good End i n = absurd i
    good _ i n = tt

to-fault : (b : Text) (bytes : List ℕ) (ts : List Placed) (kind : FaultKind) (place end : Place) → AreTokensOf bytes ts
    → end ≡ place_after bytes first_place
    → FirstRefused b ts kind place ⊎ (NoneRefused b ts × (IsWhole b ts → ⊥) × (kind ≡ Syntax) × (place ≡ end))
    → IsFaultAt b bytes kind place
to-fault b bytes ts Syntax place end are e (inl r) = (ts, are, inl r)
to-fault b bytes ts Syntax place end are e (inr h) = (ts, are, inr (h.0, h.1, h.3 ∙ e))
to-fault b bytes ts TooDeep place end are e (inl r) = (ts, are, r)
to-fault b bytes ts TooDeep place end are e (inr h) = let k = h.2 in absurd cc
to-fault b bytes ts BadByte place end are e (inl r) = absurd r.refused
to-fault b bytes ts BadByte place end are e (inr h) = let k = h.2 in absurd cc
to-fault b bytes ts TooMany place end are e (inl r) = absurd r.refused
to-fault b bytes ts TooMany place end are e (inr h) = let k = h.2 in absurd cc

-- in bytes whose tokens are all good the machine's fault is the first one
pub fault-first : (b : Text) (bytes : List ℕ) (ts : List Placed) (f : Fault) → AreTokensOf bytes ts
    → run_in MAX_OPEN [] (start b) (lexemes bytes first_place) ≡ err_of f → IsFirstFault b bytes f
fault-first b bytes ts f are e =
    let l = tokens-lexemes ts bytes first_place are.0 in
    to-fault b bytes ts f.kind f.place l.0 are l.2
    (run-first b ts (end_at l.0) f (short-good ts (tokens-are ts bytes first_place are.0) are.1) refl
    (ap (run_in MAX_OPEN [] (start b)) (sym l.1) ∙ e))

-- ---- there is one first refused token at most

-- of two tokens of a list one is the other, or stands before it
data Order (a c : List Placed) (u v : Placed) : Type 0 where
  same : a ≡ c → u ≡ v → Order a c u v
  later : (d : List Placed) → a ≡ c ++ v ∷ d → Order a c u v
  earlier : (d : List Placed) → c ≡ a ++ u ∷ d → Order a c u v

order : (a c : List Placed) (u v : Placed) (l m : List Placed) → a ++ u ∷ l ≡ c ++ v ∷ m → Order a c u v
order [] [] u v l m e = same refl (head-is u v _ _ e)
order [] (x ∷ c) u v l m e = earlier c (ap (λ w. w ∷ c) (sym (head-is u x _ _ e)))
order (x ∷ a) [] u v l m e = later a (ap (λ w. w ∷ a) (head-is x v _ _ e))
order (x ∷ a) (y ∷ c) u v l m e = go (order a c u v l m (tail-is x y _ _ e))
  where
    go : Order a c u v → Order (x ∷ a) (y ∷ c) u v
    go (same p q) = same (ap (λ w. w ∷ a) (head-is x y _ _ e) ∙ ap (λ l. y ∷ l) p) q
    go (later d p) = later d (ap (λ w. w ∷ a) (head-is x y _ _ e) ∙ ap (λ l. y ∷ l) p)
    go (earlier d p) = earlier d (ap (λ w. w ∷ c) (sym (head-is x y _ _ e)) ∙ ap (λ l. x ∷ l) p)

-- a token is refused as one kind
one-kind : (b : Text) (before : List Placed) (t : Placed) (i j : FaultKind) → Refuses b before t i
    → Refuses b before t j → i ≡ j
one-kind b before t Syntax Syntax h k = refl
one-kind b before t Syntax TooDeep h k = absurd (h k.0)
one-kind b before t TooDeep Syntax h k = absurd (k h.0)
one-kind b before t TooDeep TooDeep h k = refl
one-kind b before t BadByte j h k = absurd h
one-kind b before t TooMany j h k = absurd h
one-kind b before t i BadByte h k = absurd k
one-kind b before t i TooMany h k = absurd k

pub refused-unique : (b : Text) (ts : List Placed) (i j : FaultKind) (p q : Place) → FirstRefused b ts i p
    → FirstRefused b ts j q → (i ≡ j) × (p ≡ q)
refused-unique b ts i j p q r s = go (order r.before s.before r.token s.token r.after s.after (sym r.parts ∙ s.parts))
  where
    go : Order r.before s.before r.token s.token → (i ≡ j) × (p ≡ q)
    go (same e f) = (
      one-kind b s.before s.token i j
          (subst (λ v. Refuses b s.before v i) f (subst (λ l. Refuses b l r.token i) e r.refused)) s.refused,
      r.stands
          ∙ ap (λ v. v.place) f ∙ sym s.stands,
    )
    go (later d e) = absurd (r.first s.before d s.token j e s.refused)
    go (earlier d e) = absurd (s.first r.before d r.token i e r.refused)

pub refused-not_none : (b : Text) (ts : List Placed) (i : FaultKind) (p : Place) → FirstRefused b ts i p
    → NoneRefused b ts → ⊥
refused-not_none b ts i p r none = none r.before r.after r.token i r.parts r.refused
