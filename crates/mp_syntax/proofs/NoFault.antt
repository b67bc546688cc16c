-- A text has no fault, and what the machine reads is a text of its sort.
use Rattle.std.proofs.Common.{inl, inr, ◌≡◌, ℕ, List, [], ◌∷◌, ◌++◌, Some, None, refl, sym, ap, subst, ◌∙◌}
use Rattle.std.proofs.Common.{append_assoc, append-nil}
use Rattle.std.specs.Prelude.{◌⊎◌}
use Rattle.mp_parser.specs.declared.limits.TheConstants.{MAX_OPEN}
use Rattle.mp_parser.specs.declared.place.Place.{Place}
use Rattle.mp_parser.specs.declared.fault.Fault.{Fault}
use Rattle.mp_parser.specs.declared.fault.FaultKind.{FaultKind}
use Rattle.mp_parser.specs.declared.fault.FaultKind.TheVariants.{Syntax, TooDeep, BadByte, TooMany}
use Rattle.mp_parser.specs.Tokens.{Token, Bad, End, Placed, Tokens, first_place}
use Rattle.mp_parser.specs.Syntax.{Statement, Expected, AllMatch}
use Rattle.mp_syntax.specs.Begins.{Text, OfFile, OfExpr, OfCondition, IsSpelling, IsWhole}
use Rattle.mp_syntax.specs.FirstFault.{NoneRefused, NoneLong, FirstRefused, EndsEarly, AreTokensOf, IsFaultAt}
use Rattle.mp_syntax.specs.FirstFault.{IsFirstFault}
use Rattle.mp_parser.specs.Partial.{so_far}
use Rattle.mp_syntax.specs.Reading.{start}
use Rattle.mp_parser.specs.Machine.{State, Top, Single, SingleExpr, SingleCondition, Step, Go, Emit, Refuse, Finish}
use Rattle.mp_parser.specs.Machine.{Ends, Parsed, parsed, step_in, after_step, run_in}
use Rattle.mp_parser.proofs.Longest.{IsToken}
use Rattle.mp_parser.proofs.Adds.{Adds, IsGood, AreGood}
use Rattle.mp_parser.proofs.Found.{read_ok, ok-is, adds, run-found}
use Rattle.mp_parser.proofs.TokensLaw.{AreTokens, end_at, head-is, tail-is}
use Rattle.mp_parser.proofs.TokensTotal.{tokens-unique}
use Rattle.mp_syntax.proofs.TokensFault.{tokens-are, good-first, met}
use Rattle.mp_syntax.proofs.Holds.{Holds, StepHolds, IsFile, IsAlone, step-holds}
use Rattle.mp_syntax.proofs.GoesOn.{IsBefore, IsParsed}
use Rattle.mp_syntax.proofs.Refused.{Reached, reached-start, reached-go, reached-emit, good-no_end, good-no_long}
use Rattle.mp_syntax.proofs.Refused.{err-no_ok, whole-read}
use Rattle.mp_syntax.proofs.FirstFault.{short-good, refused-not_none}

-- ---- the tokens of a text are good

-- what stands before the end is good, where this is so up to some end
good-front : (ts front back : List Placed) (u last : Placed) → AreTokens ts → AreGood front → last.token ≡ End
    → ts ++ u ∷ [] ≡ front ++ last ∷ back → AreGood ts
good-front [] front back u last is good ends e = tt
good-front (t ∷ ts) [] back u last is good ends e =
    absurd (subst IsToken (ap (λ v. v.token) (head-is t last _ _ e) ∙ ends) is.0)
good-front (t ∷ ts) (v ∷ front) back u last is good ends e = (
  subst (λ v. IsGood v.token) (sym (head-is t v _ _ e)) good.0,
  good-front ts front back u last is.1 good.1 ends
      (tail-is t v _ _ e),
)

pub spelled-good : (b : Text) (room : ℕ) (ms : List Expected) (ts : List Placed) → AreTokens ts → IsSpelling b room ms
    → AllMatch ts ms → AreGood ts
spelled-good b room ms ts is spelling match =
    let last = end_at first_place in
    let ok = whole-read room b ms ts last spelling match refl in
    let r = run-found room (ts ++ last ∷ []) [] (start b) ok.0 ok.1 in
    good-front ts r.front r.back last r.last is r.good r.ends r.parts

-- good tokens are tokens
pub good-are : (ts : List Placed) → AreGood ts → AreTokens ts
good-are [] h = tt
good-are (t ∷ ts) h = (is t.token h.0, good-are ts h.1)
  where
    is : (k : Token) → IsGood k → IsToken k
    is Bad h = h
    is End h = h
    is _ h = tt

good-short : (ts : List Placed) → AreGood ts → NoneLong ts
good-short [] h = tt
good-short (t ∷ ts) h = (good-no_long t.token h.0, good-short ts h.1)

-- no word of a text is too long
pub whole-are : (b : Text) (bytes : List ℕ) (ts : List Placed) → Tokens bytes first_place ts → IsWhole b ts
    → AreTokensOf bytes ts
whole-are b bytes ts lie w =
    (lie, good-short ts (spelled-good b MAX_OPEN w.0 ts (tokens-are ts bytes first_place lie) w.1 w.2))

-- ---- a text has no fault

-- what the machine reads has no refused token
passes : (b : Text) (ts before : List Placed) (done : List Statement) (at : State) (last : Placed) (p : Parsed)
    → Reached b before done at → AreGood ts → run_in MAX_OPEN done at (ts ++ last ∷ []) ≡ read_ok p
    → NoneRefused b (before ++ ts)
passes b [] before done at last p r c e = subst (NoneRefused b) (sym (append-nil before)) r.none
passes b (t ∷ ts) before done at last p r c e =
    go (step_in MAX_OPEN at t) refl (λ d a r. passes b ts (before ++ t ∷ []) d a last p r c.1)
  where
    read : (s : Step) → step_in MAX_OPEN at t ≡ s
        → after_step done t.place (λ d a. run_in MAX_OPEN d a (ts ++ last ∷ [])) s ≡ read_ok p
    read s h = sym (ap (after_step done t.place (λ d a. run_in MAX_OPEN d a (ts ++ last ∷ []))) h) ∙ e

    reshape : NoneRefused b ((before ++ t ∷ []) ++ ts) → NoneRefused b (before ++ t ∷ ts)
    reshape n = subst (NoneRefused b) (append_assoc before (t ∷ []) ts) n

    added : (s : Step) → step_in MAX_OPEN at t ≡ s → Adds s (so_far at) t
    added s h = subst (λ s. Adds s (so_far at) t) h (adds MAX_OPEN at t)

    go : (s : Step) → step_in MAX_OPEN at t ≡ s
        → ((d : List Statement) (a : State) → Reached b (before ++ t ∷ []) d a
        → run_in MAX_OPEN d a (ts ++ last ∷ []) ≡ read_ok p → NoneRefused b ((before ++ t ∷ []) ++ ts))
        → NoneRefused b (before ++ t ∷ ts)
    go (Go a) s again =
        reshape (again done a (reached-go b before done at r t (good-no_end t.token c.0) a s) (read (Go a) s))
    go (Emit x) s again =
        reshape (again (done ++ x ∷ []) Top (reached-emit b before done at r t (good-no_end t.token c.0) x s)
        (read (Emit x) s))
    go (Refuse kind) s again = absurd (err-no_ok (record { kind = kind; place = t.place }) p (read (Refuse kind) s))
    go Finish s again = absurd (good-no_end t.token c.0 (added Finish s).1)
    go (Ends x) s again = absurd (good-no_end t.token c.0 (added (Ends x) s).1)

whole-none : (b : Text) (ts : List Placed) → AreGood ts → IsWhole b ts → NoneRefused b ts
whole-none b ts c w =
    let last = end_at first_place in
    let ok = whole-read MAX_OPEN b w.0 ts last w.1 w.2 refl in
    passes b ts [] [] (start b) last ok.0 (reached-start b) c ok.1

no_fault-at : (b : Text) (bytes : List ℕ) (ts : List Placed) (kind : FaultKind) (place : Place) → AreTokensOf bytes ts
    → IsWhole b ts → IsFaultAt b bytes kind place → ⊥
no_fault-at b bytes ts BadByte place are w h = let e = sym (good-first bytes ts are)
    ∙ met b bytes BadByte place h in absurd cc
no_fault-at b bytes ts TooMany place are w h = let e = sym (good-first bytes ts are)
    ∙ met b bytes TooMany place h in absurd cc
no_fault-at b bytes ts TooDeep place are w h =
    refused-not_none b ts TooDeep place
    (subst (λ l. FirstRefused b l TooDeep place) (tokens-unique bytes first_place h.0 ts h.1.0 are.0) h.2)
    (whole-none b ts (short-good ts (tokens-are ts bytes first_place are.0) are.1) w)
no_fault-at b bytes ts Syntax place are w h = go h.2
  where
    same : h.0 ≡ ts
    same = tokens-unique bytes first_place h.0 ts h.1.0 are.0

    go : FirstRefused b h.0 Syntax place ⊎ EndsEarly b bytes h.0 place → ⊥
    go (inl r) =
        refused-not_none b ts Syntax place (subst (λ l. FirstRefused b l Syntax place) same r)
        (whole-none b ts (short-good ts (tokens-are ts bytes first_place are.0) are.1) w)
    go (inr n) = n.1 (subst (IsWhole b) (sym same) w)

-- bytes whose tokens are a text have no first fault
pub whole-no_fault : (b : Text) (bytes : List ℕ) (ts : List Placed) (f : Fault) → Tokens bytes first_place ts
    → IsWhole b ts → IsFirstFault b bytes f → ⊥
whole-no_fault b bytes ts f lie w = no_fault-at b bytes ts f.kind f.place (whole-are b bytes ts lie w) w

-- ---- the sort of what is read

pub run-parsed : (limit : ℕ) (b : Text) (ts : List Placed) (done : List Statement) (at : State) (p : Parsed)
    → Holds b at → IsBefore b done → run_in limit done at ts ≡ read_ok p → IsParsed b p
run-parsed limit b [] done at p holds first e = absurd cc
run-parsed limit b (t ∷ ts) done at p holds first e =
    go (step_in limit at t) (step-holds limit b at t holds) e (run-parsed limit b ts)
  where
    more : (s : Statement) (b : Text) → IsFile b → IsBefore b (done ++ s ∷ [])
    more s OfFile f = tt
    more s OfExpr f = absurd f
    more s OfCondition f = absurd f

    file : (b : Text) → IsFile b → IsParsed b (parsed done None)
    file OfFile f = refl
    file OfExpr f = absurd f
    file OfCondition f = absurd f

    alone : (b : Text) (x : Single) → IsBefore b done → IsAlone b x → IsParsed b (parsed done (Some x))
    alone OfExpr (SingleExpr u) first h = (first, u, refl)
    alone OfCondition (SingleCondition c) first h = (first, c, refl)
    alone _ _ first h = absurd h

    go : (s : Step) → StepHolds b s → after_step done t.place (λ d a. run_in limit d a ts) s ≡ read_ok p
        → ((done : List Statement) (at : State) (p : Parsed) → Holds b at → IsBefore b done
        → run_in limit done at ts ≡ read_ok p → IsParsed b p) → IsParsed b p
    go (Go a) h e again = again done a p h first e
    go (Emit s) h e again = again (done ++ s ∷ []) Top p h (more s b h) e
    go (Refuse kind) h e again = absurd cc
    go Finish h e again = subst (IsParsed b) (ok-is (parsed done None) p e) (file b h)
    go (Ends x) h e again = subst (IsParsed b) (ok-is (parsed done (Some x)) p e) (alone b x first h)
