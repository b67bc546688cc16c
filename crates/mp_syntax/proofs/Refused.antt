-- The machine stops at the first refused token.
use Rattle.std.proofs.Common.{inl, inr, ◌≡◌, ℕ, zero, suc, ◌+◌, ◌-◌, ◌<◌, ◌≤◌, List, [], ◌∷◌, ◌++◌, Some, None}
use Rattle.std.proofs.Common.{Result, Err, refl, sym, ap, subst, ◌∙◌, arith, append_assoc, append-nil}
use Rattle.std.specs.Prelude.{◌⊎◌, ◌≢◌}
use Rattle.mp_parser.specs.declared.limits.TheConstants.{MAX_OPEN}
use Rattle.mp_parser.specs.declared.place.Place.{Place}
use Rattle.mp_parser.specs.declared.fault.Fault.{Fault}
use Rattle.mp_parser.specs.declared.fault.FaultKind.{FaultKind}
use Rattle.mp_parser.specs.declared.fault.FaultKind.TheVariants.{Syntax, TooDeep, BadByte, TooMany}
use Rattle.mp_parser.specs.declared.token.Punct.TheVariants.{Open, OpenSquare}
use Rattle.mp_parser.specs.Tokens.{Token, Punctuation, Long, Bad, End, Placed}
use Rattle.mp_syntax.specs.Begins.{Text, OfFile, OfExpr, OfCondition, IsSpelling, MatchFront, Begins, IsWhole}
use Rattle.mp_syntax.specs.FirstFault.{Opens, open_behind, open_after, Refuses, NoneRefused, FirstRefused}
use Rattle.mp_parser.specs.Syntax.{Tree, Condition, Statement, Expected, Said, Stands, Matches, AllMatch, spell_file}
use Rattle.mp_parser.specs.Syntax.{FitsAtom, Test, Symbol, Wild, condition, Root, Path}
use Rattle.mp_parser.specs.Machine.{Listing, InTemplate, InChange, AfterBrace, AfterCount, BeforeBrace, AfterEdit}
use Rattle.mp_parser.specs.Machine.{AfterSubject, BeforeChange, AfterPosition, BeforeIndex, AfterArrow, AfterSquare}
use Rattle.mp_parser.specs.Machine.{AfterChange, step_listed, Frame, Arguments, Bracket, Operands, Default, Operand}
use Rattle.mp_parser.specs.Machine.{Second, Square, open_count, Alone, ConditionAlone, Within, State, Top, AfterOp}
use Rattle.mp_parser.specs.Machine.{AfterOpName, AfterLeast, AfterFlags, AfterInfix, AfterKind, AfterKindName}
use Rattle.mp_parser.specs.Machine.{BeforeMember, AfterMember, AfterRole, AfterName, BeforeExpr, AfterWord, AfterOpen}
use Rattle.mp_parser.specs.Machine.{AfterWildcard, AfterExpr, AfterDollar, BeforeLiteral, BeforeBody, BeforeOperand}
use Rattle.mp_parser.specs.Machine.{BeforeName, BehindName, AfterAmount, AfterSense, AfterLiteral, SingleExpr}
use Rattle.mp_parser.specs.Machine.{SingleCondition, Step, Go, Emit, Refuse, Finish, Ends, Parsed, parsed, Role}
use Rattle.mp_parser.specs.Machine.{OfRule, OfSubject, OfMeasure, OfRelation, OfProperty, InStatement, InCondition}
use Rattle.mp_parser.specs.Machine.{with_default, all_alternatives, step_role, step_behind, step_whole, step_in}
use Rattle.mp_parser.specs.Machine.{after_step, run_in}
use Rattle.mp_parser.specs.Partial.{so_far}
use Rattle.mp_syntax.specs.Reading.{start}
use Rattle.mp_parser.proofs.Found.{read_ok, run-found, spell_parsed, spell_alone}
use Rattle.mp_parser.proofs.Fit.{FitsAlone, StateFits, StepFits, FramesFit, ParsedFits, step-fits, run-fits}
use Rattle.mp_parser.proofs.StatementAgain.{file-again, alone-again, alone_condition-again}
use Rattle.mp_parser.proofs.TokensLaw.{head-is, tail-is}
use Rattle.mp_parser.proofs.Adds.{IsGood, AreGood}
use Rattle.mp_syntax.proofs.Holds.{Holds, StepHolds, IsFile, step-holds}
use Rattle.mp_syntax.proofs.GoesOn.{count, here, IsBefore, IsParsed, goes_on}
use Rattle.mp_syntax.proofs.Counts.{Counts, step-counts}
use Rattle.mp_syntax.proofs.Larger.{Beside, step-beside}

-- ---- lists

-- no token is the end
abbrev pub NoEnd : List Placed → Type 0
NoEnd [] = Unit {0}
NoEnd (t ∷ ts) = (t.token ≢ End) × NoEnd ts

NoEnd-push : (ts : List Placed) (t : Placed) → NoEnd ts → t.token ≢ End → NoEnd (ts ++ t ∷ [])
NoEnd-push [] t h k = (k, tt)
NoEnd-push (u ∷ ts) t h k = (h.0, NoEnd-push ts t h.1 k)

-- what matches up to the end matches what stands before the end
front-matches : (before rest front back : List Placed) (last : Placed) (ms : List Expected) → NoEnd before
    → before ++ rest ≡ front ++ last ∷ back → last.token ≡ End → AllMatch front ms → MatchFront before ms
front-matches [] rest front back last ms n e ends h = tt
front-matches (t ∷ before) rest [] back last ms n e ends h =
    absurd (n.0 (ap (λ u. u.token) (head-is t last _ _ e) ∙ ends))
front-matches (t ∷ before) rest (u ∷ front) back last [] n e ends h = absurd h
front-matches (t ∷ before) rest (u ∷ front) back last (m ∷ ms) n e ends h = (
  subst (λ v. Matches v m) (sym (head-is t u _ _ e)) h.0,
  front-matches before rest front back last ms n.1
      (tail-is t u _ _ e) ends h.1,
)

-- tokens that match these
completes : (ts : List Placed) (ms : List Expected) → MatchFront ts ms → (more : List Placed) × AllMatch (ts ++ more) ms
completes [] [] h = ([], tt)
completes [] (Said k ∷ ms) h = let r = completes [] ms tt in (record { token = k; place = here } ∷ r.0, (refl, r.1))
completes [] (Stands k place ∷ ms) h = let r =
    completes [] ms tt in (record { token = k; place = place } ∷ r.0, ((refl, refl), r.1))
completes (t ∷ ts) [] h = absurd h
completes (t ∷ ts) (m ∷ ms) h = let r = completes ts ms h.1 in (r.0, (h.0, r.1))

-- a token among others and one more is that one, or among the others
split-last : (before front back : List Placed) (t u : Placed) → before ++ t ∷ [] ≡ front ++ u ∷ back
    → ((front ≡ before) × (u ≡ t)) ⊎ ((others : List Placed) × (before ≡ front ++ u ∷ others))
split-last [] [] back t u e = inl (refl, sym (head-is t u _ _ e))
split-last [] (f ∷ []) back t u e = absurd cc
split-last [] (f ∷ g ∷ front) back t u e = absurd cc
split-last (b ∷ before) [] back t u e = inr (before, ap (λ v. v ∷ before) (head-is b u _ _ e))
split-last (b ∷ before) (f ∷ front) back t u e = go (split-last before front back t u (tail-is b f _ _ e))
  where
    go : ((front ≡ before) × (u ≡ t)) ⊎ ((others : List Placed) × (before ≡ front ++ u ∷ others))
        → ((f ∷ front ≡ b ∷ before) × (u ≡ t)) ⊎ ((others : List Placed) × (b ∷ before ≡ f ∷ front ++ u ∷ others))
    go (inl h) = inl (ap (λ v. v ∷ front) (sym (head-is b f _ _ e)) ∙ ap (λ l. b ∷ l) h.0, h.1)
    go (inr h) = inr (h.0, ap (λ v. v ∷ before) (head-is b f _ _ e) ∙ ap (λ l. f ∷ l) h.1)

open_after-push : (n : ℕ) (ts : List Placed) (t : Placed)
    → open_after n (ts ++ t ∷ []) ≡ open_behind (open_after n ts) t.token
open_after-push n [] t = refl
open_after-push n (u ∷ ts) t = open_after-push (open_behind n u.token) ts t

-- ---- limits

pub err-no_ok : (f : Fault) (p : Parsed) → Err f ≡ read_ok p → ⊥
err-no_ok f p e = absurd cc

-- what is read at a limit is read at a larger one
run-larger : (ts : List Placed) (low high : ℕ) (done : List Statement) (at : State) (p : Parsed) → low ≤ high
    → run_in low done at ts ≡ read_ok p → run_in high done at ts ≡ read_ok p
run-larger [] low high done at p le e = absurd cc
run-larger (t ∷ ts) low high done at p le e = go (run-larger ts low high) (step-beside at t low)
  where
    step : ((done : List Statement) (at : State) (p : Parsed) → low ≤ high → run_in low done at ts ≡ read_ok p
        → run_in high done at ts ≡ read_ok p) → (s : Step)
        → after_step done t.place (λ d a. run_in low d a ts) s ≡ read_ok p
        → after_step done t.place (λ d a. run_in high d a ts) s ≡ read_ok p
    step again (Go a) e = again done a p le e
    step again (Emit s) e = again (done ++ s ∷ []) Top p le e
    step again (Refuse kind) e = absurd cc
    step again Finish e = e
    step again (Ends s) e = e

    go : ((done : List Statement) (at : State) (p : Parsed) → low ≤ high → run_in low done at ts ≡ read_ok p
        → run_in high done at ts ≡ read_ok p) → Beside (λ limit. step_in limit at t) (count at) low
        → run_in high done at (t ∷ ts) ≡ read_ok p
    go again (inl h) = ap (after_step done t.place (λ d a. run_in high d a ts)) (h high le)
        ∙ step again (step_in low at t) e
    go again (inr h) =
        absurd (err-no_ok (record { kind = TooDeep; place = t.place }) p
        (sym (ap (after_step done t.place (λ d a. run_in low d a ts)) h.0) ∙ e))

-- ---- beginnings

start-so_far : (b : Text) → so_far (start b) ≡ []
start-so_far OfFile = refl
start-so_far OfExpr = refl
start-so_far OfCondition = refl

start-fits : (limit : ℕ) (b : Text) → StateFits limit (start b)
start-fits limit OfFile = tt
start-fits limit OfExpr = tt
start-fits limit OfCondition = (tt, (tt, tt))

pub start-holds : (b : Text) → Holds b (start b)
start-holds OfFile = tt
start-holds OfExpr = tt
start-holds OfCondition = tt

pub start-first : (b : Text) → IsBefore b []
start-first OfFile = tt
start-first OfExpr = refl
start-first OfCondition = refl

-- what is read of a text of this sort is one
parsed-spelling : (limit : ℕ) (b : Text) (p : Parsed) → IsParsed b p → ParsedFits limit p
    → IsSpelling b limit (spell_parsed p)
parsed-spelling limit OfFile p sort fits =
    (p.statements, fits.0, ap (λ o. spell_file p.statements ++ spell_alone o) sort ∙ append-nil _)
parsed-spelling limit OfExpr p sort fits = (
  sort.1,
  subst (FitsAlone limit) sort.2 fits.1,
  ap (λ ss. spell_file ss ++ spell_alone p.single) sort.0
      ∙ ap spell_alone sort.2,
)
parsed-spelling limit OfCondition p sort fits = (
  sort.1,
  subst (FitsAlone limit) sort.2 fits.1,
  ap (λ ss. spell_file ss ++ spell_alone p.single) sort.0
      ∙ ap spell_alone sort.2,
)

-- what leads to a state in which things stand where they may is a beginning
begins-from : (limit : ℕ) (b : Text) (before : List Placed) (done : List Statement) (at : State)
    → ((rest : List Placed) → run_in limit [] (start b) (before ++ rest) ≡ run_in limit done at rest) → Holds b at
    → count at < limit → IsBefore b done → NoEnd before → Begins b before
begins-from limit b before done at leads holds lt first n =
    let c = goes_on limit b done first at holds lt in
    let read : run_in limit [] (start b) (before ++ c.token ∷ c.others) ≡ read_ok c.what = leads (c.token ∷ c.others)
    ∙ c.read in
    let r = run-found limit (before ++ c.token ∷ c.others) [] (start b) c.what read in
    let whole : spell_parsed c.what ≡ r.others = r.spelled ∙ ap (λ l. l ++ r.others) (start-so_far b) in
    record {
      room = limit;
      whole = spell_parsed c.what;
      is = parsed-spelling limit b c.what c.sort
          (run-fits limit (before ++ c.token ∷ c.others) [] (start b) c.what tt (start-fits limit b) read);
      front = front-matches before (c.token ∷ c.others) r.front r.back r.last (spell_parsed c.what) n r.parts r.ends
          (subst (AllMatch r.front) (sym whole) r.match);
    }

-- a text is read
pub whole-read : (room : ℕ) (b : Text) (ms : List Expected) (ts : List Placed) (last : Placed) → IsSpelling b room ms
    → AllMatch ts ms → last.token ≡ End → (p : Parsed) × (run_in room [] (start b) (ts ++ last ∷ []) ≡ read_ok p)
whole-read room OfFile ms ts last is h ends = (
  parsed is.0 None,
  file-again room is.0 [] ts (last ∷ []) (subst (AllMatch ts) is.2 h) is.1
      ∙ ap (λ k. after_step is.0 last.place (λ d a. run_in room d a [])
      (step_in room Top (record { token = k; place = last.place }))) ends,
)
whole-read room OfExpr ms ts last is h ends =
    (parsed [] (Some (SingleExpr is.0)), alone-again room is.0 ts last (subst (AllMatch ts) is.2 h) is.1 ends)
whole-read room OfCondition ms ts last is h ends = (
  parsed [] (Some (SingleCondition is.0)),
  alone_condition-again room is.0 ts last
      (subst (AllMatch ts) is.2 h) is.1 ends,
)

-- ---- what is known of a state at the limit MAX_OPEN

frames-shallow : (x : Within) (k : List Frame) → FramesFit MAX_OPEN x k → open_count k ≤ MAX_OPEN
frames-shallow x [] h = omega arith
frames-shallow x (Default w ∷ k) h = frames-shallow x k h.1
frames-shallow x (Arguments name args ∷ k) h = let lt = h.0 in omega (arith, lt)
frames-shallow x (Bracket place ∷ k) h = let lt = h.0 in omega (arith, lt)
frames-shallow x (Operands place sign first others ∷ k) h = let lt = h.0 in omega (arith, lt)
frames-shallow x (Operand s lead ∷ k) h = let lt = h.0 in omega (arith, lt)
frames-shallow x (Second s r e ∷ k) h = let lt = h.0 in omega (arith, lt)
frames-shallow x (Square s ∷ k) h = let lt = h.0 in omega (arith, lt)
frames-shallow x (Listing es ∷ k) h = let lt = h.0 in omega (arith, lt)

-- at most MAX_OPEN brackets stand open
shallow : (at : State) → StateFits MAX_OPEN at → count at ≤ MAX_OPEN
shallow (BeforeExpr x k) h = frames-shallow x k h
shallow (AfterWord x k w) h = frames-shallow x k h
shallow (AfterOpen x k w) h = let lt = h.0 in omega (arith, lt)
shallow (AfterWildcard x k w) h = frames-shallow x k h
shallow (AfterExpr x k e) h = frames-shallow x k h.0
shallow (AfterDollar x k place) h = frames-shallow x k h
shallow (BeforeLiteral x k v) h = frames-shallow x k h.0
shallow (BeforeBody x k s) h = frames-shallow x k h.0
shallow (BeforeOperand x k s lead) h = frames-shallow x k h.0
shallow (BeforeName x k s p e) h = let lt = h.2 in omega (arith, lt)
shallow (BehindName x k s p e w) h = go (MAX_OPEN - open_count k) refl h.2
  where
    go : (room : ℕ) → MAX_OPEN - open_count k ≡ room → FitsAtom room (Test p e w) → suc (open_count k) ≤ MAX_OPEN
    go zero r f = absurd f
    go (suc room) r f = omega (arith, r)
shallow (AfterAmount x k s a) h = frames-shallow x k h.0
shallow (AfterSense x k s a sense) h = frames-shallow x k h.0
shallow (AfterLiteral x k v l) h = frames-shallow x k h.0
shallow (AfterBrace x k w) h = frames-shallow x k h.0
shallow (AfterCount x k w n) h = frames-shallow x k h.0
shallow (BeforeBrace x k w n more) h = frames-shallow x k h.0
shallow (AfterSquare d p) h = let lt = h.0 in omega (arith, lt)
shallow _ h = omega arith

-- a state that the machine reaches behind tokens
pub record Reached (b : Text) (before : List Placed) (done : List Statement) (at : State) : Type 0 where
  pub leads : (high : ℕ) → MAX_OPEN ≤ high → (rest : List Placed)
      → run_in high [] (start b) (before ++ rest) ≡ run_in high done at rest
  pub holds : Holds b at
  pub first : IsBefore b done
  pub fits : StateFits MAX_OPEN at
  pub counted : count at ≡ open_after 0 before
  pub no_end : NoEnd before
  pub none : NoneRefused b before

-- nothing is read
pub reached-start : (b : Text) → Reached b [] [] (start b)
reached-start b =
    record {
      leads = λ high le rest. refl;
      holds = start-holds b;
      first = start-first b;
      fits =
          start-fits MAX_OPEN b;
      counted = counted b;
      no_end = tt;
      none =
          λ front back u kind e r. nothing-split front back u e;
    }
  where
    counted : (b : Text) → count (start b) ≡ 0
    counted OfFile = refl
    counted OfExpr = refl
    counted OfCondition = refl

    nothing-split : (front back : List Placed) (u : Placed) → [] ≡ front ++ u ∷ back → ⊥
    nothing-split [] back u e = absurd cc
    nothing-split (f ∷ front) back u e = absurd cc

reached-begins : (b : Text) (before : List Placed) (done : List Statement) (at : State) → Reached b before done at
    → Begins b before
reached-begins b before done at r = let le =
    shallow at r.fits in begins-from (MAX_OPEN + 1) b before done at (r.leads (MAX_OPEN + 1) (omega arith)) r.holds
    (omega (arith, le)) r.first r.no_end

-- a step over one token more, by which nothing is refused
module _ (b : Text) (before : List Placed) (done : List Statement) (at : State) (r : Reached b before done at)
    (t : Placed) (n : t.token ≢ End) where
  -- at each larger limit a step that leads on does so
  step-high : (s : Step) → step_in MAX_OPEN at t ≡ s → (s ≡ Refuse TooDeep → ⊥) → (high : ℕ) → MAX_OPEN ≤ high
      → step_in high at t ≡ s
  step-high s e deep high le = go (step-beside at t MAX_OPEN)
    where
      go : Beside (λ limit. step_in limit at t) (count at) MAX_OPEN → step_in high at t ≡ s
      go (inl h) = h high le ∙ e
      go (inr h) = absurd (deep (sym e ∙ h.0))

  leads-on : (high : ℕ) (s : Step) → step_in high at t ≡ s → MAX_OPEN ≤ high → (rest : List Placed)
      → run_in high [] (start b) ((before ++ t ∷ []) ++ rest) ≡ after_step done t.place (λ d a. run_in high d a rest) s
  leads-on high s e le rest = ap (run_in high [] (start b)) (append_assoc before (t ∷ []) rest)
      ∙ r.leads high le (t ∷ rest) ∙ ap (after_step done t.place (λ d a. run_in high d a rest)) e

  opens-more : (c : ℕ) (k : Token) → Opens k → open_behind c k ≡ suc c
  opens-more c (Punctuation Open) h = refl
  opens-more c (Punctuation OpenSquare) h = refl
  opens-more c _ h = absurd h

  -- the token isn't refused where what is read with it is a beginning with at most MAX_OPEN brackets open
  none-more : Begins b (before ++ t ∷ []) → open_behind (open_after 0 before) t.token ≤ MAX_OPEN
      → NoneRefused b (before ++ t ∷ [])
  none-more begins le front back u kind e refuses = go (split-last before front back t u e)
    where
      here-none : (kind : FaultKind) → Refuses b before t kind → ⊥
      here-none Syntax h = h begins
      here-none TooDeep h = let more : open_behind (open_after 0 before) t.token ≡ suc (open_after 0 before) =
          opens-more (open_after 0 before) t.token h.1 in let full = h.2 in omega (arith, more, full, le)
      here-none BadByte h = absurd h
      here-none TooMany h = absurd h

      go : ((front ≡ before) × (u ≡ t)) ⊎ ((others : List Placed) × (before ≡ front ++ u ∷ others)) → ⊥
      go (inl h) =
          here-none kind (subst (λ v. Refuses b before v kind) h.1 (subst (λ l. Refuses b l u kind) h.0 refuses))
      go (inr h) = r.none front h.0 u kind h.1 refuses

  reached-by : (d : List Statement) (a : State)
      → ((high : ℕ) → MAX_OPEN ≤ high → (rest : List Placed)
      → run_in high [] (start b) ((before ++ t ∷ []) ++ rest) ≡ run_in high d a rest) → Holds b a → IsBefore b d
      → StateFits MAX_OPEN a → count a ≡ open_behind (count at) t.token → Reached b (before ++ t ∷ []) d a
  reached-by d a leads holds first fits counted =
      let le = shallow a fits in
      let more : count a ≡ open_behind (open_after 0 before) t.token = counted
      ∙ ap (λ c. open_behind c t.token) r.counted in
      let no_end = NoEnd-push before t r.no_end n in
      record {
        leads = leads;
        holds = holds;
        first = first;
        fits = fits;
        counted = more ∙ sym (open_after-push 0 before t);
        no_end = no_end;
        none = none-more
            (begins-from (MAX_OPEN + 1) b (before ++ t ∷ []) d a (leads (MAX_OPEN + 1) (omega arith)) holds
            (omega (arith, le)) first no_end) (omega (arith, le, more));
      }

  pub reached-go : (a : State) → step_in MAX_OPEN at t ≡ Go a → Reached b (before ++ t ∷ []) done a
  reached-go a e =
      reached-by done a (λ high le rest. leads-on high (Go a) (step-high (Go a) e (λ f. absurd cc) high le) le rest)
      (subst (StepHolds b) e (step-holds MAX_OPEN b at t r.holds)) r.first
      (subst (StepFits MAX_OPEN) e (step-fits MAX_OPEN at t r.fits))
      (subst (Counts MAX_OPEN (count at) t.token) e (step-counts MAX_OPEN at t))

  pub reached-emit : (s : Statement) → step_in MAX_OPEN at t ≡ Emit s
      → Reached b (before ++ t ∷ []) (done ++ s ∷ []) Top
  reached-emit s e =
      let file : IsFile b = subst (StepHolds b) e (step-holds MAX_OPEN b at t r.holds) in
      reached-by (done ++ s ∷ []) Top
      (λ high le rest. leads-on high (Emit s) (step-high (Emit s) e (λ f. absurd cc) high le) le rest) file
      (first b file) tt (subst (Counts MAX_OPEN (count at) t.token) e (step-counts MAX_OPEN at t))
    where
      first : (b : Text) → IsFile b → IsBefore b (done ++ s ∷ [])
      first OfFile f = tt
      first OfExpr f = absurd f
      first OfCondition f = absurd f

-- ---- the token that is refused

-- the end leads nowhere
abbrev EndsHere : Step → Type 0
EndsHere (Go a) = ⊥
EndsHere (Emit s) = ⊥
EndsHere _ = Unit {0}

abbrev end_token : Token
end_token = End

-- the end
abbrev the_end : Place → Placed
the_end place = record { token = End; place = place }

end-behind : (x : Within) (k : List Frame) (e : Tree) (place : Place) → EndsHere (step_behind x k e (the_end place))
end-behind (InStatement h) [] e place = at h.role
  where
    at : (role : Role) → EndsHere (step_role role h.name e End)
    at OfRule = tt
    at OfSubject = tt
end-behind Alone [] e place = tt
end-behind (InTemplate name pattern) [] e place = tt
end-behind (InCondition name pattern template) [] e place = tt
end-behind (InChange d p) [] e place = tt
end-behind ConditionAlone [] e place = tt
end-behind x (Arguments name args ∷ k) e place = tt
end-behind x (Bracket opened ∷ k) e place = tt
end-behind x (Operands opened sign first others ∷ k) e place = tt
end-behind x (Default w ∷ k) e place = end-behind x k (with_default w e) place
end-behind x (Operand s (OfMeasure side m) ∷ k) e place = tt
end-behind x (Operand s (OfRelation r) ∷ k) e place = tt
end-behind x (Operand s (OfProperty p) ∷ k) e place = tt
end-behind x (Second s r d ∷ k) e place = tt
end-behind x (Square s ∷ k) e place = tt
end-behind x (Listing es ∷ k) e place = listed x k
  where
    listed : (x : Within) (k : List Frame) → EndsHere (step_listed x k (es ++ e ∷ []) End)
    listed (InChange d p) [] = tt
    listed (InChange d p) (f ∷ k) = tt
    listed _ k = tt

end-whole : (x : Within) (k : List Frame) (c : Condition) (place : Place) → EndsHere (step_whole x k c (the_end place))
end-whole (InStatement h) [] c place = tt
end-whole Alone [] c place = tt
end-whole (InTemplate name pattern) [] c place = tt
end-whole (InCondition name pattern template) [] c place = tt
end-whole (InChange d p) [] c place = tt
end-whole ConditionAlone [] c place = tt
end-whole x (Arguments name args ∷ k) c place = tt
end-whole x (Bracket opened ∷ k) c place = tt
end-whole x (Operands opened sign first others ∷ k) c place = tt
end-whole x (Default w ∷ k) c place = tt
end-whole x (Operand s lead ∷ k) c place = tt
end-whole x (Second s r d ∷ k) c place = tt
end-whole x (Square s ∷ k) c place = tt
end-whole x (Listing es ∷ k) c place = tt

end-step : (at : State) (place : Place) → EndsHere (step_in MAX_OPEN at (the_end place))
end-step Top place = tt
end-step AfterOp place = tt
end-step (AfterOpName name) place = tt
end-step (AfterLeast name least) place = tt
end-step (AfterFlags d) place = tt
end-step (AfterInfix d) place = tt
end-step AfterKind place = tt
end-step (AfterKindName name) place = tt
end-step (BeforeMember name members) place = tt
end-step (AfterMember name members) place = tt
end-step (AfterRole role) place = tt
end-step (AfterName h) place = tt
end-step (BeforeExpr x k) place = tt
end-step (AfterWord x k w) place = end-behind x k (Symbol w) place
end-step (AfterOpen x k w) place = tt
end-step (AfterWildcard x k w) place = end-behind x k (Wild w) place
end-step (AfterExpr x k e) place = end-behind x k e place
end-step (AfterDollar x k opened) place = tt
end-step (BeforeLiteral x k v) place = tt
end-step (BeforeBody x k s) place = tt
end-step (BeforeOperand x k s lead) place = tt
end-step (BeforeName x k s p e) place = tt
end-step (BehindName x k s p e w) place = tt
end-step (AfterAmount x k s a) place = tt
end-step (AfterSense x k s a sense) place = tt
end-step (AfterLiteral x k v l) place = end-whole x k (condition (all_alternatives v l)) place
end-step (AfterBrace x k w) place = tt
end-step (AfterCount x k w n) place = tt
end-step (BeforeBrace x k w n more) place = tt
end-step AfterEdit place = tt
end-step (AfterSubject subject) place = tt
end-step (BeforeChange d) place = tt
end-step (AfterPosition d (Root opened)) place = tt
end-step (AfterPosition d (Path first others)) place = tt
end-step (BeforeIndex d first others) place = tt
end-step (AfterArrow d p) place = tt
end-step (AfterSquare d p) place = tt
end-step (AfterChange d c) place = tt

-- a token that a text has is not the end
pub good-no_end : (k : Token) → IsGood k → k ≢ End
good-no_end k good e = subst IsGood e good

pub good-no_long : (k : Token) → IsGood k → k ≢ Long
good-no_long k good e = subst IsGood e good

good-no_bad : (k : Token) → IsGood k → k ≢ Bad
good-no_bad k good e = subst IsGood e good

module _ (b : Text) (before : List Placed) (done : List Statement) (at : State) (r : Reached b before done at)
    (t : Placed) where
  -- no text goes on with a token that the machine refuses as Syntax
  pub refuses-syntax : t.token ≢ End → step_in MAX_OPEN at t ≡ Refuse Syntax → Begins b (before ++ t ∷ []) → ⊥
  refuses-syntax n e g =
      let m = completes (before ++ t ∷ []) g.whole g.front in
      let w = whole-read g.room b g.whole ((before ++ t ∷ []) ++ m.0) (the_end here) g.is m.1 refl in
      let high : ℕ = g.room + MAX_OPEN in
      let read : run_in high [] (start b) (((before ++ t ∷ []) ++ m.0) ++ the_end here ∷ []) ≡ read_ok w.0 =
      run-larger (((before ++ t ∷ []) ++ m.0) ++ the_end here ∷ []) g.room high [] (start b) w.0 (omega arith) w.1 in
      let s : step_in high at t ≡ Refuse Syntax =
      step-high b before done at r t n (Refuse Syntax) e (λ f. absurd cc) high (omega arith) in
      err-no_ok (record { kind = Syntax; place = t.place }) w.0
      (sym (leads-on b before done at r t n high (Refuse Syntax) s (omega arith) (m.0 ++ the_end here ∷ []))
      ∙ ap (run_in high [] (start b)) (sym (append_assoc (before ++ t ∷ []) m.0 (the_end here ∷ [])))
      ∙ read)

  -- texts go on with a bracket that the machine refuses as TooDeep, and MAX_OPEN are open
  pub refuses-deep : t.token ≢ End → step_in MAX_OPEN at t ≡ Refuse TooDeep → Refuses b before t TooDeep
  refuses-deep n e = go (step-beside at t MAX_OPEN)
    where
      full : Opens t.token × (MAX_OPEN ≤ count at)
      full = subst (Counts MAX_OPEN (count at) t.token) e (step-counts MAX_OPEN at t)

      go : Beside (λ limit. step_in limit at t) (count at) MAX_OPEN → Refuses b before t TooDeep
      go (inl h) =
          let some = full.1 in
          let deep : Opens t.token × (suc (count at) ≤ count at) =
          subst (Counts (suc (count at)) (count at) t.token) (h (suc (count at)) (omega (arith, some)) ∙ e)
          (step-counts (suc (count at)) at t) in
          let le = deep.1 in
          absurd (no le)
        where
          no : suc (count at) ≤ count at → ⊥
          no le = omega (arith, le)
      go (inr h) =
          let some = full.1 in
          let most = shallow at r.fits in
          let count_is = r.counted in
          let s : step_in (MAX_OPEN + 2) at t ≡ Go h.1 = h.2 (MAX_OPEN + 2) (omega (arith, most)) in
          let behind : count h.1 ≡ open_behind (count at) t.token =
          subst (Counts (MAX_OPEN + 2) (count at) t.token) s (step-counts (MAX_OPEN + 2) at t) in
          let more : open_behind (count at) t.token ≡ suc (count at) =
          opens-more b before done at r t n (count at) t.token full.0 in (
            begins-from (MAX_OPEN + 2) b (before ++ t ∷ []) done h.1
                (leads-on b before done at r t n (MAX_OPEN + 2) (Go h.1) s (omega arith))
                (subst (StepHolds b) s (step-holds (MAX_OPEN + 2) b at t r.holds))
                (omega (arith, behind, more, most)) r.first
                (NoEnd-push before t r.no_end n),
            full.0,
            omega (arith, some, most, count_is),
          )

end-no_bad : end_token ≡ Bad → ⊥
end-no_bad e = absurd cc

end-no_long : end_token ≡ Long → ⊥
end-no_long e = absurd cc

-- what a fault of the machine is: the first refused token, or the end where none is and the tokens are no text
abbrev pub Verdict : Text → List Placed → Placed → Fault → Type 0
Verdict b ts last f =
    FirstRefused b ts f.kind f.place
    ⊎ (NoneRefused b ts × (IsWhole b ts → ⊥) × (f.kind ≡ Syntax) × (f.place ≡ last.place))

abbrev pub err_of : Fault → Result Parsed Fault
err_of f = Err f

pub err-is : (f g : Fault) → err_of f ≡ err_of g → f ≡ g
err-is f g e = cc

-- a fault of the machine behind what it has reached
pub stops : (b : Text) (ts before : List Placed) (done : List Statement) (at : State) (last : Placed) (f : Fault)
    → Reached b before done at → AreGood ts → last.token ≡ End → run_in MAX_OPEN done at (ts ++ last ∷ []) ≡ err_of f
    → Verdict b (before ++ ts) last f
stops b [] before done at last f r good ends e =
    subst (λ l. Verdict b l last f) (sym (append-nil before))
    (go (step_in MAX_OPEN at last) refl
    (subst EndsHere (ap (λ k. step_in MAX_OPEN at (record { token = k; place = last.place })) (sym ends))
    (end-step at last.place)))
  where
    no_whole : IsWhole b before → ⊥
    no_whole w =
        let ok = whole-read MAX_OPEN b w.0 before last w.1 w.2 ends in
        err-no_ok f ok.0 (sym e ∙ sym (r.leads MAX_OPEN (omega arith) (last ∷ [])) ∙ ok.1)

    why : (kind : FaultKind) → step_in MAX_OPEN at last ≡ Refuse kind → kind ≡ Syntax
    why kind s = at-end kind (subst (Counts MAX_OPEN (count at) last.token) s (step-counts MAX_OPEN at last))
      where
        no-opens : (k : Token) → k ≡ End → Opens k → ⊥
        no-opens k h o = subst Opens h o

        at-end : (kind : FaultKind) → Counts MAX_OPEN (count at) last.token (Refuse kind) → kind ≡ Syntax
        at-end Syntax h = refl
        at-end TooDeep h = absurd (no-opens last.token ends h.0)
        at-end BadByte h = absurd (end-no_bad (sym ends ∙ h))
        at-end TooMany h = absurd (end-no_long (sym ends ∙ h))

    go : (s : Step) → step_in MAX_OPEN at last ≡ s → EndsHere s → Verdict b before last f
    go (Go a) s h = absurd h
    go (Emit x) s h = absurd h
    go (Refuse kind) s h =
        let is : record { kind = kind; place = last.place } ≡ f =
        err-is (record { kind = kind; place = last.place }) f
        (sym (ap (after_step done last.place (λ d a. run_in MAX_OPEN d a [])) s) ∙ e) in
        inr (r.none, no_whole, ap (λ g. g.kind) (sym is) ∙ why kind s, ap (λ g. g.place) (sym is))
    go Finish s h =
        absurd (err-no_ok f (parsed done None)
        (sym e ∙ ap (after_step done last.place (λ d a. run_in MAX_OPEN d a [])) s))
    go (Ends x) s h =
        absurd (err-no_ok f (parsed done (Some x))
        (sym e ∙ ap (after_step done last.place (λ d a. run_in MAX_OPEN d a [])) s))
stops b (t ∷ ts) before done at last f r good ends e =
    go (step_in MAX_OPEN at t) refl (λ d a r. stops b ts (before ++ t ∷ []) d a last f r good.1 ends)
  where
    read : (s : Step) → step_in MAX_OPEN at t ≡ s
        → after_step done t.place (λ d a. run_in MAX_OPEN d a (ts ++ last ∷ [])) s ≡ err_of f
    read s h = sym (ap (after_step done t.place (λ d a. run_in MAX_OPEN d a (ts ++ last ∷ []))) h) ∙ e

    reshape : Verdict b ((before ++ t ∷ []) ++ ts) last f → Verdict b (before ++ t ∷ ts) last f
    reshape v = subst (λ l. Verdict b l last f) (append_assoc before (t ∷ []) ts) v

    refused : (kind : FaultKind) → step_in MAX_OPEN at t ≡ Refuse kind → Refuses b before t kind
    refused Syntax s = refuses-syntax b before done at r t (good-no_end t.token good.0) s
    refused TooDeep s = refuses-deep b before done at r t (good-no_end t.token good.0) s
    refused BadByte s =
        absurd (good-no_bad t.token good.0 (subst (Counts MAX_OPEN (count at) t.token) s (step-counts MAX_OPEN at t)))
    refused TooMany s =
        absurd (good-no_long t.token good.0 (subst (Counts MAX_OPEN (count at) t.token) s (step-counts MAX_OPEN at t)))

    go : (s : Step) → step_in MAX_OPEN at t ≡ s
        → ((d : List Statement) (a : State) → Reached b (before ++ t ∷ []) d a
        → run_in MAX_OPEN d a (ts ++ last ∷ []) ≡ err_of f → Verdict b ((before ++ t ∷ []) ++ ts) last f)
        → Verdict b (before ++ t ∷ ts) last f
    go (Go a) s again =
        reshape (again done a (reached-go b before done at r t (good-no_end t.token good.0) a s) (read (Go a) s))
    go (Emit x) s again =
        reshape (again (done ++ x ∷ []) Top (reached-emit b before done at r t (good-no_end t.token good.0) x s)
        (read (Emit x) s))
    go (Refuse kind) s again =
        let is : record { kind = kind; place = t.place } ≡ f =
        err-is (record { kind = kind; place = t.place }) f (read (Refuse kind) s) in
        inl (record {
          before = before;
          token = t;
          after = ts;
          parts = refl;
          refused =
              subst (Refuses b before t) (ap (λ g. g.kind) is) (refused kind s);
          first = r.none;
          stands =
              ap (λ g. g.place) (sym is);
        })
    go Finish s again = absurd (err-no_ok f (parsed done None) (sym (read Finish s)))
    go (Ends x) s again = absurd (err-no_ok f (parsed done (Some x)) (sym (read (Ends x) s)))

-- ---- whole token lists

-- a fault of the machine is that of the first refused token, or the end
pub run-first : (b : Text) (ts : List Placed) (last : Placed) (f : Fault) → AreGood ts → last.token ≡ End
    → run_in MAX_OPEN [] (start b) (ts ++ last ∷ []) ≡ err_of f → Verdict b ts last f
run-first b ts last f good ends e = stops b ts [] [] (start b) last f (reached-start b) good ends e
