-- What is read is what the bytes are, and the bytes are what is read.
use Rattle.std.proofs.Common.{◌≡◌, ℕ, List, [], ◌∷◌, ◌++◌, Option, Some, None, Result, Ok, Err, append-nil, refl, sym}
use Rattle.std.proofs.Common.{ap, subst, ◌∙◌, inl, inr}
use Rattle.std.specs.Prelude.{◌↔◌, ◌⊎◌, IfOk, IfErr}
use Rattle.mp_parser.specs.declared.limits.TheConstants.{MAX_OPEN}
use Rattle.mp_parser.specs.declared.place.Place.{Place}
use Rattle.mp_parser.specs.declared.fault.Fault.{Fault}
use Rattle.mp_parser.specs.declared.fault.SyntaxError.{SyntaxError}
use Rattle.mp_parser.specs.declared.fault.SyntaxError.TheVariants as errors
use Rattle.mp_parser.specs.Tokens.{End, Placed, Tokens, first_place}
use Rattle.mp_parser.specs.Lexing.{lexemes, token_at, behind}
use Rattle.mp_parser.specs.Syntax.{Tree, Condition, Statement, Expected, AllMatch, spell, spell_condition, spell_file}
use Rattle.mp_parser.specs.Syntax.{IsExprOf, IsConditionOf, IsSyntaxOf, HasNames, ConditionHasNames}
use Rattle.mp_parser.specs.Syntax.{StatementsHaveNames}
use Rattle.mp_parser.specs.Machine.{State, Top, BeforeExpr, BeforeLiteral, Alone, ConditionAlone, no_level, Single}
use Rattle.mp_parser.specs.Machine.{SingleExpr, SingleCondition, Parsed, parsed, run}
use Rattle.mp_parser.specs.Partial.{so_far}
use Rattle.mp_syntax.specs.StatementParsing.{Gives}
use Rattle.mp_syntax.specs.Begins.{Text, OfFile, OfExpr, OfCondition, IsWhole}
use Rattle.mp_syntax.specs.FirstFault.{IsFirstFault}
use Rattle.mp_syntax.specs.Reading.{start, first_bad, checked, text_reading, Pick, statements_alone, expr_alone}
use Rattle.mp_syntax.specs.Reading.{condition_alone, or_no_fault, read_by, reading, expr_reading, condition_reading}
use Rattle.mp_syntax.specs.Reading.{read_value, syntax_of, IfFault, IsAnswerOrMemory}
use Rattle.mp_parser.proofs.ListLaws.{some-is}
use Rattle.mp_parser.proofs.Longest.{IsToken}
use Rattle.mp_parser.proofs.Fuel.{lexemes-step}
use Rattle.mp_parser.proofs.TokensLaw.{AreTokens, behind-token, end_at, head-is, tail-is, tokens-lexemes}
use Rattle.mp_parser.proofs.TokensLaw.{lexemes-tokens}
use Rattle.mp_parser.proofs.Found.{spell_parsed, run-found, read_ok, ok-is}
use Rattle.mp_parser.proofs.Fit.{run-fits}
use Rattle.mp_syntax.proofs.GoesOn.{IsParsed}
use Rattle.mp_syntax.proofs.Refused.{start-holds, start-first}
use Rattle.mp_syntax.proofs.TokensFault.{good-first}
use Rattle.mp_syntax.proofs.InOrder.{text_reading-first}
use Rattle.mp_syntax.proofs.OneFault.{one-fault}
use Rattle.mp_syntax.proofs.NoFault.{good-are, whole-are, whole-no_fault, run-parsed}
use Rattle.mp_parser.proofs.StatementAgain.{file-again, alone-again, alone_condition-again}
use Rattle.mp_parser.proofs.Names.{tokens-texts, match-texts, tree-names, condition-names, file-names}

-- ---- where the end stands

-- nothing stands behind the end
lexemes-end : (front : List Placed) (bytes : List ℕ) (place : Place) (last : Placed) (back : List Placed)
    → AreTokens front → last.token ≡ End → lexemes bytes place ≡ front ++ last ∷ back
    → lexemes bytes place ≡ front ++ end_at last.place ∷ []
lexemes-end [] bytes place last back h ends e =
    let next = token_at bytes place in
    let is : next.0 ≡ last = head-is _ _ _ _ (sym (lexemes-step bytes place) ∙ e) in
    lexemes-step bytes place
    ∙ ap (λ (t : Placed). t ∷ behind t.token (lexemes next.1.0 next.1.1)) is
    ∙ ap (λ k. let t : Placed = record { token = k; place = last.place } in t ∷ behind k (lexemes next.1.0 next.1.1))
    ends
lexemes-end (x ∷ front) bytes place last back h ends e =
    let next = token_at bytes place in
    let step = sym (lexemes-step bytes place) ∙ e in
    let is : next.0 ≡ x = head-is _ _ _ _ step in
    let token : IsToken next.0.token = subst (λ (t : Placed). IsToken t.token) (sym is) h.0 in
    let same = behind-token next.0.token (lexemes next.1.0 next.1.1) token in
    let ih = lexemes-end front next.1.0 next.1.1 last back h.1 ends (sym same ∙ tail-is _ _ _ _ step) in
    lexemes-step bytes place ∙ (λ i. is i ∷ (same ∙ ih) i)

-- ---- both directions

-- the tokens of what is read
record Lies (bytes : List ℕ) (ms : List Expected) : Type 0 where
  tokens : List Placed
  lie : Tokens bytes first_place tokens
  match : AllMatch tokens ms

-- what is read of the bytes from a state without tokens before it
lies-read : (bytes : List ℕ) (at : State) (p : Parsed) (ms : List Expected)
    → run [] at (lexemes bytes first_place) ≡ Ok p → so_far at ≡ []
    → spell_parsed p ≡ ms → Lies bytes ms
lies-read bytes at p ms e none is =
    let r = run-found MAX_OPEN (lexemes bytes first_place) [] at p e in
    record {
      tokens = r.front;
      lie = lexemes-tokens r.front bytes first_place r.last.place (good-are r.front r.good)
          (lexemes-end r.front bytes first_place r.last r.back (good-are r.front r.good) r.ends r.parts);
      match = subst (AllMatch r.front) (ap (λ l. l ++ r.others) (sym none) ∙ sym r.spelled ∙ is) r.match;
    }

abbrev ok : {A : Type 0} → A → Result A Fault
ok v = Ok v

-- what is read of a text is what the machine reads
machine-read : (sort : Text) (bytes : List ℕ) (p : Parsed) → text_reading sort bytes ≡ read_ok p
    → run [] (start sort) (lexemes bytes first_place) ≡ read_ok p
machine-read sort bytes p e = go (first_bad (lexemes bytes first_place)) e
  where
    go : (o : Option Fault) → checked o (run [] (start sort) (lexemes bytes first_place)) ≡ read_ok p
        → run [] (start sort) (lexemes bytes first_place) ≡ read_ok p
    go None e = e
    go (Some f) e = absurd cc

-- values of texts of this sort, picked of what is read, which stand in it so
pub record AreRead {A : Type 0} (sort : Text) (pick : Pick A) (whole : A → Parsed)
    (Is : List ℕ → A → Type 0) : Type 0 where
  pub picked : (p : Parsed) (v : A) → pick p.statements p.single ≡ Some v → read_ok p ≡ read_ok (whole v)
  pub picks : (v : A) → pick (whole v).statements (whole v).single ≡ Some v
  pub some : (p : Parsed) → IsParsed sort p → (v : A) × (pick p.statements p.single ≡ Some v)
  pub found : (bytes : List ℕ) (v : A) → run [] (start sort) (lexemes bytes first_place) ≡ read_ok (whole v)
      → Is bytes v
  pub tokens : (bytes : List ℕ) (v : A) → Is bytes v
      → (ts : List Placed) × Tokens bytes first_place ts × IsWhole sort ts
  pub only : (bytes : List ℕ) (v : A) → Is bytes v
      → run [] (start sort) (lexemes bytes first_place) ≡ read_ok (whole v)

-- the statements of a file
pub file_is_read : AreRead OfFile statements_alone (λ ss. parsed ss None) IsSyntaxOf
file_is_read = record {
  picked = λ p file e. go p.statements p.single file e;
  picks = λ file. refl;
  some = λ p h. (p.statements, ap (statements_alone p.statements) h);
  found = λ bytes file e.
      let r = lies-read bytes Top (parsed file None) (spell_file file) e refl (append-nil (spell_file file)) in
      record {
        tokens = r.tokens;
        lie = r.lie;
        spelled = r.match;
        fits = (run-fits MAX_OPEN (lexemes bytes first_place) [] Top (parsed file None) tt tt e).0;
      };
  tokens = λ bytes file f. (f.tokens, f.lie, (spell_file file, (file, f.fits, refl), f.spelled));
  only = λ bytes file f.
      let k = tokens-lexemes f.tokens bytes first_place f.lie in
      ap (run [] Top) k.1 ∙ file-again MAX_OPEN file [] f.tokens (end_at k.0 ∷ []) f.spelled f.fits;
}
  where
    go : (ss : List Statement) (o : Option Single) (file : List Statement) → statements_alone ss o ≡ Some file
        → read_ok (parsed ss o) ≡ read_ok (parsed file None)
    go ss None file e = ap (λ l. read_ok (parsed l None)) (some-is ss file e)
    go ss (Some t) file e = absurd cc

-- an expression alone
pub expr_is_read : AreRead OfExpr expr_alone (λ t. parsed [] (Some (SingleExpr t))) IsExprOf
expr_is_read = record {
  picked = λ p t e. go p.statements p.single t e;
  picks = λ t. refl;
  some = λ p h. (h.1, ap (λ ss. expr_alone ss p.single) h.0 ∙ ap (expr_alone []) h.2);
  found = λ bytes t e.
      let p = parsed [] (Some (SingleExpr t)) in
      let r = lies-read bytes (BeforeExpr Alone []) p (spell t) e refl refl in
      record {
        tokens = r.tokens;
        lie = r.lie;
        spelled = r.match;
        fits = (run-fits MAX_OPEN (lexemes bytes first_place) [] (BeforeExpr Alone []) p tt tt e).1;
      };
  tokens = λ bytes t f. (f.tokens, f.lie, (spell t, (t, f.fits, refl), f.spelled));
  only = λ bytes t f.
      let k = tokens-lexemes f.tokens bytes first_place f.lie in
      ap (run [] (BeforeExpr Alone [])) k.1 ∙ alone-again MAX_OPEN t f.tokens (end_at k.0) f.spelled f.fits refl;
}
  where
    go : (ss : List Statement) (o : Option Single) (t : Tree) → expr_alone ss o ≡ Some t
        → read_ok (parsed ss o) ≡ read_ok (parsed [] (Some (SingleExpr t)))
    go [] (Some (SingleExpr u)) t e = ap (λ l. read_ok (parsed [] (Some (SingleExpr l)))) (some-is u t e)
    go [] (Some (SingleCondition c)) t e = absurd cc
    go [] None t e = absurd cc
    go (s ∷ ss) o t e = absurd cc

-- a condition alone
pub condition_is_read : AreRead OfCondition condition_alone (λ c. parsed [] (Some (SingleCondition c))) IsConditionOf
condition_is_read = record {
  picked = λ p c e. go p.statements p.single c e;
  picks = λ c. refl;
  some = λ p h. (h.1, ap (λ ss. condition_alone ss p.single) h.0 ∙ ap (condition_alone []) h.2);
  found = λ bytes c e.
      let p = parsed [] (Some (SingleCondition c)) in
      let r = lies-read bytes (BeforeLiteral ConditionAlone [] no_level) p (spell_condition c) e refl refl in
      record {
        tokens = r.tokens;
        lie = r.lie;
        spelled = r.match;
        fits = (run-fits MAX_OPEN (lexemes bytes first_place) [] (BeforeLiteral ConditionAlone [] no_level) p tt
            (tt, (tt, tt)) e).1;
      };
  tokens = λ bytes c f. (f.tokens, f.lie, (spell_condition c, (c, f.fits, refl), f.spelled));
  only = λ bytes c f.
      let k = tokens-lexemes f.tokens bytes first_place f.lie in
      ap (run [] (BeforeLiteral ConditionAlone [] no_level)) k.1
      ∙ alone_condition-again MAX_OPEN c f.tokens (end_at k.0) f.spelled f.fits refl;
}
  where
    go : (ss : List Statement) (o : Option Single) (c : Condition) → condition_alone ss o ≡ Some c
        → read_ok (parsed ss o) ≡ read_ok (parsed [] (Some (SingleCondition c)))
    go [] (Some (SingleCondition d)) c e = ap (λ l. read_ok (parsed [] (Some (SingleCondition l)))) (some-is d c e)
    go [] (Some (SingleExpr t)) c e = absurd cc
    go [] None c e = absurd cc
    go (s ∷ ss) o c e = absurd cc

module _ {A : Type 0} {sort : Text} {pick : Pick A} {whole : A → Parsed} {Is : List ℕ → A → Type 0}
    (k : AreRead sort pick whole Is) where
  -- no token of what the bytes are is bad
  only-good : (bytes : List ℕ) (v : A) → Is bytes v → text_reading sort bytes ≡ read_ok (whole v)
  only-good bytes v f =
      let t = k.tokens bytes v f in
      ap (λ o. checked o (run [] (start sort) (lexemes bytes first_place)))
      (good-first bytes t.0 (whole-are sort bytes t.0 t.1 t.2))
      ∙ k.only bytes v f

  -- nor is one of what the machine reads
  pub machine-good : (bytes : List ℕ) (v : A) → run [] (start sort) (lexemes bytes first_place) ≡ read_ok (whole v)
      → text_reading sort bytes ≡ read_ok (whole v)
  machine-good bytes v e = only-good bytes v (k.found bytes v e)

  found-good : (bytes : List ℕ) (v : A) → text_reading sort bytes ≡ read_ok (whole v) → Is bytes v
  found-good bytes v e = k.found bytes v (machine-read sort bytes (whole v) e)

  -- what is read is what the bytes are
  pub read-found : (bytes : List ℕ) (v : A) → read_by pick (text_reading sort bytes) ≡ Ok v → Is bytes v
  read-found bytes v e = go (text_reading sort bytes) refl e
    where
      some : (o : Option A) → or_no_fault o ≡ ok v → o ≡ Some v
      some (Some w) e = cc
      some None e = absurd cc

      go : (r : Result Parsed Fault) → text_reading sort bytes ≡ r → read_by pick r ≡ ok v → Is bytes v
      go (Ok p) is e = found-good bytes v (is ∙ k.picked p v (some (pick p.statements p.single) e))
      go (Err f) is e = absurd cc

  -- what the bytes are is read
  pub read-only : (bytes : List ℕ) (v : A) → Is bytes v → read_by pick (text_reading sort bytes) ≡ Ok v
  read-only bytes v f = ap (read_by pick) (only-good bytes v f) ∙ ap or_no_fault (k.picks v)

  -- what bytes are is a function of them
  pub read-exact : (bytes : List ℕ) (v : A)
      → Is bytes v ↔ (read_value (read_by pick (text_reading sort bytes)) ≡ Some v)
  read-exact bytes v = (
    λ f. ap read_value (read-only bytes v f),
    λ e.
        read-found bytes v (value (read_by pick (text_reading sort bytes)) e),
  )
    where
      value : (r : Result A Fault) → read_value r ≡ Some v → r ≡ Ok v
      value (Ok a) e = ap ok (some-is a v e)
      value (Err f) e = absurd cc

  -- bytes are one value at most
  pub read-unique : (bytes : List ℕ) (v w : A) → Is bytes v → Is bytes w → v ≡ w
  read-unique bytes v w f g = some-is v w (sym ((read-exact bytes v).0 f) ∙ (read-exact bytes w).0 g)

  -- bytes that are a value have no fault
  pub read-no_fault : (bytes : List ℕ) (v : A) (f : Fault) → Is bytes v → IsFirstFault sort bytes f → ⊥
  read-no_fault bytes v f is h = let t = k.tokens bytes v is in whole-no_fault sort bytes t.0 f t.1 t.2 h

  -- bytes are a value or have a fault, which is the one that is read
  read-each : (bytes : List ℕ) → ((v : A) × Is bytes v)
      ⊎ ((f : Fault) × IsFirstFault sort bytes f × (read_by pick (text_reading sort bytes) ≡ Err f))
  read-each bytes = go (text_reading sort bytes) refl
    where
      go : (r : Result Parsed Fault) → text_reading sort bytes ≡ r
          → ((v : A) × Is bytes v)
          ⊎ ((f : Fault) × IsFirstFault sort bytes f × (read_by pick (text_reading sort bytes) ≡ Err f))
      go (Ok p) e =
          let machine = machine-read sort bytes p e in
          let v = k.some p (run-parsed MAX_OPEN sort (lexemes bytes first_place) [] (start sort) p (start-holds sort)
          (start-first sort) machine) in
          inl (v.0, k.found bytes v.0 (machine ∙ k.picked p v.0 v.1))
      go (Err f) e = inr (f, text_reading-first sort bytes f e, ap (read_by pick) e)

  -- bytes are a value or have a fault
  pub read-total : (bytes : List ℕ) → ((v : A) × Is bytes v) ⊎ ((f : Fault) × IsFirstFault sort bytes f)
  read-total bytes = go (read-each bytes)
    where
      go : ((v : A) × Is bytes v)
          ⊎ ((f : Fault) × IsFirstFault sort bytes f × (read_by pick (text_reading sort bytes) ≡ Err f))
          → ((v : A) × Is bytes v) ⊎ ((f : Fault) × IsFirstFault sort bytes f)
      go (inl h) = inl h
      go (inr h) = inr (h.0, h.1)

  abbrev a_fault : Fault → Result A Fault
  a_fault f = Err f

  -- a fault that is read is the first one
  pub read-fault : (bytes : List ℕ) (f : Fault) → read_by pick (text_reading sort bytes) ≡ Err f
      → IsFirstFault sort bytes f
  read-fault bytes f e = go (read-each bytes)
    where
      no-fault : (v : A) → ok v ≡ a_fault f → ⊥
      no-fault v e = cc

      same : (g : Fault) → a_fault g ≡ a_fault f → g ≡ f
      same g e = cc

      go : ((v : A) × Is bytes v)
          ⊎ ((f : Fault) × IsFirstFault sort bytes f × (read_by pick (text_reading sort bytes) ≡ Err f))
          → IsFirstFault sort bytes f
      go (inl x) = absurd (no-fault x.0 (sym (read-only bytes x.0 x.1) ∙ e))
      go (inr x) = subst (IsFirstFault sort bytes) (same x.0 (sym x.2 ∙ e)) x.1

  -- the first fault of bytes is read
  pub read-only_fault : (bytes : List ℕ) (f : Fault) → IsFirstFault sort bytes f
      → read_by pick (text_reading sort bytes) ≡ Err f
  read-only_fault bytes f h = go (read-each bytes)
    where
      go : ((v : A) × Is bytes v)
          ⊎ ((f : Fault) × IsFirstFault sort bytes f × (read_by pick (text_reading sort bytes) ≡ Err f))
          → read_by pick (text_reading sort bytes) ≡ Err f
      go (inl x) = absurd (read-no_fault bytes x.0 f x.1 h)
      go (inr x) = x.2 ∙ ap a_fault (one-fault sort bytes x.0 f x.1 h)

  module _ {C : Type 0} (view : C → A) (bytes : List ℕ) (r : Result C SyntaxError) where
    -- what is answered is what the bytes are, and what holds of it
    pub answer-holds : (P : A → Type 0) → ((v : A) → Is bytes v → P v)
        → Gives (λ c. whole (view c)) r (text_reading sort bytes) → IfOk r (λ c. P (view c))
    answer-holds P holds = go r
      where
        go : (r : Result C SyntaxError) → Gives (λ c. whole (view c)) r (text_reading sort bytes)
            → IfOk r (λ c. P (view c))
        go (Ok c) h = holds (view c) (found-good bytes (view c) h)
        go (Err e) h = tt

    -- what the bytes are is answered
    pub answer-only : Gives (λ c. whole (view c)) r (text_reading sort bytes) → (v : A) → Is bytes v
        → IsAnswerOrMemory view r (λ read. read ≡ v)
    answer-only h v f = go r h
      where
        refused : (x : Fault) → read_ok (whole v) ≡ Err x → ⊥
        refused x e = cc

        go : (r : Result C SyntaxError) → Gives (λ c. whole (view c)) r (text_reading sort bytes)
            → IsAnswerOrMemory view r (λ read. read ≡ v)
        go (Ok c) h =
            some-is (view c) v (sym (k.picks (view c))
            ∙ ap (λ (p : Parsed). pick p.statements p.single) (ok-is _ _ (sym h ∙ only-good bytes v f)) ∙ k.picks v)
        go (Err errors.Memory) h = tt
        go (Err (errors.Fault x)) h = refused x (sym (only-good bytes v f) ∙ h)

    -- a fault is the first one
    pub answer-fault : Gives (λ c. whole (view c)) r (text_reading sort bytes)
        → IfErr r (λ e. IfFault e (λ f. IsFirstFault sort bytes f))
    answer-fault = go r
      where
        go : (r : Result C SyntaxError) → Gives (λ c. whole (view c)) r (text_reading sort bytes)
            → IfErr r (λ e. IfFault e (λ f. IsFirstFault sort bytes f))
        go (Ok c) h = tt
        go (Err errors.Memory) h = tt
        go (Err (errors.Fault f)) h = text_reading-first sort bytes f h

-- what is read is what the bytes are, and back
pub reading-found : (bytes : List ℕ) (file : List Statement) → reading bytes ≡ Ok file → IsSyntaxOf bytes file
reading-found = read-found file_is_read

pub reading-only : (bytes : List ℕ) (file : List Statement) → IsSyntaxOf bytes file → reading bytes ≡ Ok file
reading-only = read-only file_is_read

pub reading-fault : (bytes : List ℕ) (f : Fault) → reading bytes ≡ Err f → IsFirstFault OfFile bytes f
reading-fault = read-fault file_is_read

pub reading-only_fault : (bytes : List ℕ) (f : Fault) → IsFirstFault OfFile bytes f → reading bytes ≡ Err f
reading-only_fault = read-only_fault file_is_read

pub syntax_of-exact : (bytes : List ℕ) (file : List Statement) → IsSyntaxOf bytes file ↔ (syntax_of bytes ≡ Some file)
syntax_of-exact = read-exact file_is_read

-- the same of an expression alone
pub expr_reading-found : (bytes : List ℕ) (t : Tree) → expr_reading bytes ≡ Ok t → IsExprOf bytes t
expr_reading-found = read-found expr_is_read

pub expr_reading-only : (bytes : List ℕ) (t : Tree) → IsExprOf bytes t → expr_reading bytes ≡ Ok t
expr_reading-only = read-only expr_is_read

pub expr_reading-fault : (bytes : List ℕ) (f : Fault) → expr_reading bytes ≡ Err f → IsFirstFault OfExpr bytes f
expr_reading-fault = read-fault expr_is_read

pub expr_reading-only_fault : (bytes : List ℕ) (f : Fault) → IsFirstFault OfExpr bytes f → expr_reading bytes ≡ Err f
expr_reading-only_fault = read-only_fault expr_is_read

-- the same of a condition alone
pub condition_reading-found : (bytes : List ℕ) (c : Condition) → condition_reading bytes ≡ Ok c → IsConditionOf bytes c
condition_reading-found = read-found condition_is_read

pub condition_reading-only : (bytes : List ℕ) (c : Condition) → IsConditionOf bytes c → condition_reading bytes ≡ Ok c
condition_reading-only = read-only condition_is_read

pub condition_reading-fault : (bytes : List ℕ) (f : Fault) → condition_reading bytes ≡ Err f
    → IsFirstFault OfCondition bytes f
condition_reading-fault = read-fault condition_is_read

pub condition_reading-only_fault : (bytes : List ℕ) (f : Fault) → IsFirstFault OfCondition bytes f
    → condition_reading bytes ≡ Err f
condition_reading-only_fault = read-only_fault condition_is_read

-- each word of the statements of bytes is a name
pub syntax-names : (bytes : List ℕ) (file : List Statement) → IsSyntaxOf bytes file → StatementsHaveNames file
syntax-names bytes file f = file-names MAX_OPEN file f.fits
    (match-texts f.tokens (spell_file file) f.spelled (tokens-texts f.tokens bytes first_place f.lie))

-- the same of an expression
pub expr-names : (bytes : List ℕ) (t : Tree) → IsExprOf bytes t → HasNames t
expr-names bytes t f = tree-names t MAX_OPEN f.fits
    (match-texts f.tokens (spell t) f.spelled (tokens-texts f.tokens bytes first_place f.lie))

-- the same of a condition
pub condition_bytes-names : (bytes : List ℕ) (c : Condition) → IsConditionOf bytes c → ConditionHasNames c
condition_bytes-names bytes c f = condition-names MAX_OPEN c f.fits
    (match-texts f.tokens (spell_condition c) f.spelled (tokens-texts f.tokens bytes first_place f.lie))
