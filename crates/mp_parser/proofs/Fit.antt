-- What the machine reads fits: the wildcards with a default, the operands, the numbers, the members of kinds and the
-- open brackets.
use Rattle.std.proofs.Common.{◌≡◌, ℕ, zero, suc, ◌-◌, ◌<◌, Bool, true, false, cond, List, [], ◌∷◌, ◌++◌, Option, Some}
use Rattle.std.proofs.Common.{None, Ok, refl, subst, arith, leb}
use Rattle.std.specs.Prelude.{◌≢◌, ◌&&◌, codes}
use Rattle.std.specs.Str.{bytes_eq}
use Rattle.std.proofs.lemmas.Bool.{leb-false}
use Rattle.mp_parser.specs.declared.token.Punct.TheVariants.{Open, Close, OpenSquare, CloseSquare, Comma, Colon}
use Rattle.mp_parser.specs.declared.token.Punct.TheVariants.{Semicolon, Dollar, OpenBrace, CloseBrace, Dot}
use Rattle.mp_parser.specs.declared.fault.FaultKind.TheVariants.{Syntax, TooDeep}
use Rattle.mp_parser.specs.declared.condition_tree.Sense.{Sense}
use Rattle.mp_parser.specs.declared.condition_tree.Relation.{Relation}
use Rattle.mp_parser.specs.Tokens.{Token, Placed}
use Rattle.mp_parser.specs.Syntax.{Spot, Wildcard, Tree, Symbol, Apply, InfixOf, Wild, Variable, more_trees, trees}
use Rattle.mp_parser.specs.Syntax.{Infixed, KindOf, OpOf, RuleOf, SubjectOf, Statement, Amount, Number, Measured}
use Rattle.mp_parser.specs.Syntax.{Compare, Relate, Test, Literal, Bracketed, Literals, literals, Condition}
use Rattle.mp_parser.specs.Syntax.{condition, Trees, FitsAmount, FitsAtom, HasLiteral, HasAlternative, FitsLiteral}
use Rattle.mp_parser.specs.Syntax.{LiteralsFit, AlternativesFit, FitsCondition, IsDot, Fits, AreFit, AreSeveral}
use Rattle.mp_parser.specs.Syntax.{FitsStatement, AreStatements, Counted, Position, Root, Path, Listed, Change}
use Rattle.mp_parser.specs.Syntax.{EditOf, IsNumber, FitsTemplate, AreNumbers, FitsPosition, FitsListed}
use Rattle.mp_parser.specs.Syntax.{FitsReplacement, ChangesFit, no_trees}
use Rattle.mp_parser.specs.Syntax as syntax
use Rattle.mp_parser.specs.Machine.{run_in, Role, OfRule, OfSubject, Frame, Arguments, Bracket, Operands, Default}
use Rattle.mp_parser.specs.Machine.{Operand, Second, Square, Level, no_level, next_literal, next_alternative}
use Rattle.mp_parser.specs.Machine.{all_alternatives, Site, site, Side, OnLeft, OnRight, Lead, OfMeasure, OfRelation}
use Rattle.mp_parser.specs.Machine.{OfProperty, open_count, with_default, is_dot, Declared, declared, with_flag}
use Rattle.mp_parser.specs.Machine.{Within, InStatement, Alone, InCondition, ConditionAlone, State, Top, AfterOp}
use Rattle.mp_parser.specs.Machine.{AfterOpName, AfterLeast, AfterFlags, AfterInfix, AfterKind, AfterKindName}
use Rattle.mp_parser.specs.Machine.{BeforeMember, AfterMember, AfterRole, AfterName, BeforeExpr, AfterWord, AfterOpen}
use Rattle.mp_parser.specs.Machine.{AfterWildcard, AfterExpr, AfterDollar, BeforeLiteral, BeforeBody, BeforeOperand}
use Rattle.mp_parser.specs.Machine.{BeforeName, BehindName, AfterAmount, AfterSense, AfterLiteral, Single, SingleExpr}
use Rattle.mp_parser.specs.Machine.{SingleCondition, Step, Go, Emit, Refuse, Finish, Ends, Parsed, parsed, is_punct}
use Rattle.mp_parser.specs.Machine.{is_sign, is_word, is_end, is_number, measure_of, sense_of, relation_of}
use Rattle.mp_parser.specs.Machine.{property_of, word_of, sign_of, wildcard_at, keyword, spot, refuse, on_punct}
use Rattle.mp_parser.specs.Machine.{on_text, on_word, on_found, with_atom, with_amount, step_in, step_role}
use Rattle.mp_parser.specs.Machine.{step_operand, step_amount, step_atom, step_body, step_last, step_whole}
use Rattle.mp_parser.specs.Machine.{step_number, step_flag, step_flags, step_open, step_expr, step_behind}
use Rattle.mp_parser.specs.Machine.{step_wildcard, after_step, is_arrow, Listing, Edited, InTemplate, InChange}
use Rattle.mp_parser.specs.Machine.{AfterBrace, AfterCount, BeforeBrace, AfterEdit, AfterSubject, BeforeChange}
use Rattle.mp_parser.specs.Machine.{AfterPosition, BeforeIndex, AfterArrow, AfterSquare, AfterChange, on_number}
use Rattle.mp_parser.specs.Machine.{step_rule, change, with_change, step_changes, step_listed, step_brace}
use Rattle.mp_parser.specs.Machine.{step_further}
use Rattle.mp_parser.proofs.Found.{ok-is}
use Rattle.mp_parser.proofs.Trees.{is_dot-true, wild-fits, variable-fits, with_default-fits, atom-literal}
use Rattle.mp_parser.proofs.Trees.{counted-fits}

-- what is read of a condition before a literal fits, with room brackets more to open
abbrev pub LevelFits : ℕ → Level → Type 0
LevelFits room v = AlternativesFit room (condition v.alternatives) × LiteralsFit room (literals v.literals)

-- what is read of a comparison before this side of it fits
abbrev pub SideFits : ℕ → Side → Type 0
SideFits room OnLeft = Unit {0}
SideFits room (OnRight a sense) = FitsAmount room a

-- what is read of an atom before its first operand fits
abbrev pub LeadFits : ℕ → Lead → Type 0
LeadFits room (OfMeasure side m) = SideFits room side
LeadFits room (OfRelation r) = Unit {0}
LeadFits room (OfProperty p) = Unit {0}

-- what an open bracket holds fits, with so many brackets more to open around it, and room in it
abbrev pub FrameFits : ℕ → ℕ → Frame → Type 0
FrameFits around room (Arguments name args) = AreFit room (trees args)
FrameFits around room (Operands place sign first others) = Fits room first × AreFit room (trees others)
FrameFits around room (Operand s lead) = LevelFits around s.level × LeadFits around lead
FrameFits around room (Second s r e) = LevelFits around s.level × Fits room e
FrameFits around room (Square s) = LevelFits around s.level
FrameFits around room (Listing es) = AreFit room (trees es)
FrameFits around room _ = Unit {0}

AreFit-push : (room : ℕ) (args : List Tree) (e : Tree) → AreFit room (trees args) → Fits room e
    → AreFit room (trees (args ++ e ∷ []))
AreFit-push room [] e h k = (k, tt)
AreFit-push room (a ∷ args) e h k = (h.0, AreFit-push room args e h.1 k)

-- each further number is one
numbers-push : (ws : List Spot) (w : Spot) → AreNumbers ws → IsNumber w → AreNumbers (ws ++ w ∷ [])
numbers-push [] w h k = (k, tt)
numbers-push (v ∷ ws) w h k = (h.0, numbers-push ws w h.1 k)

-- changes of which c is the last
ChangesFit-push : (room : ℕ) (cs : List Change) (c : Change) → ChangesFit room cs → FitsPosition c.position
    → FitsReplacement room c.terms → ChangesFit room (cs ++ c ∷ [])
ChangesFit-push room [] c h p k = (p, k, tt)
ChangesFit-push room (d ∷ cs) c h p k = (h.0, h.1, ChangesFit-push room cs c h.2 p k)

several-push : (first : Tree) (others : List Tree) (e : Tree) → AreSeveral (more_trees first (trees (others ++ e ∷ [])))
several-push first [] e = tt
several-push first (a ∷ others) e = tt

-- ---- conditions

number-fits : (room : ℕ) (w : Spot) → is_number w.text ≡ true → FitsAmount room (Number w)
number-fits zero w h = h
number-fits (suc room) w h = h

-- literals of which l is the last
LiteralsFit-push : (room : ℕ) (ls : List Literal) (l : Literal) → LiteralsFit room (literals ls) → FitsLiteral room l
    → LiteralsFit room (literals (ls ++ l ∷ []))
LiteralsFit-push room [] l h k = (k, tt)
LiteralsFit-push room (m ∷ ls) l h k = (h.0, LiteralsFit-push room ls l h.1 k)

-- alternatives of which a is the last
AlternativesFit-push : (room : ℕ) (before : List Literals) (a : Literals) → AlternativesFit room (condition before)
    → HasLiteral a → LiteralsFit room a → AlternativesFit room (condition (before ++ a ∷ []))
AlternativesFit-push room [] a h some k = (some, k, tt)
AlternativesFit-push room (b ∷ before) a h some k = (h.0, h.1, AlternativesFit-push room before a h.2 some k)

push-literal : (ls : List Literal) (l : Literal) → HasLiteral (literals (ls ++ l ∷ []))
push-literal [] l = tt
push-literal (m ∷ ls) l = tt

push-alternative : (before : List Literals) (a : Literals) → HasAlternative (condition (before ++ a ∷ []))
push-alternative [] a = tt
push-alternative (b ∷ before) a = tt

all-fit : (room : ℕ) (v : Level) (l : Literal) → LevelFits room v → FitsLiteral room l
    → FitsCondition room (condition (all_alternatives v l))
all-fit room v l h f = (
  push-alternative v.alternatives (literals (v.literals ++ l ∷ [])),
  AlternativesFit-push room v.alternatives (literals (v.literals ++ l ∷ [])) h.0 (push-literal v.literals l)
      (LiteralsFit-push room v.literals l h.1 f),
)

-- ---- behind expressions

push-some : {A : Type 0} (members : List A) (w : A) → members ++ w ∷ [] ≢ []
push-some [] w e = absurd cc
push-some (m ∷ members) w e = absurd cc

module _ (limit : ℕ) where
  -- the changes of an edit so far fit
  abbrev pub EditFits : Edited → Type 0
  EditFits d = ChangesFit limit d.changes

  -- what stands before a template, a condition or what a change puts in its position fits
  abbrev pub WithinFits : Within → Type 0
  WithinFits (InStatement h) = Unit {0}
  WithinFits Alone = Unit {0}
  WithinFits (InTemplate name pattern) = Fits limit pattern
  WithinFits (InCondition name pattern template) = Fits limit pattern × FitsTemplate limit template
  WithinFits ConditionAlone = Unit {0}
  WithinFits (InChange d p) = EditFits d × FitsPosition p

  -- the brackets that may still be opened
  abbrev pub room_in : List Frame → ℕ
  room_in k = limit - open_count k

  -- what open brackets hold fits, the wildcards before a default have one underscore and no kind, and so does what
  -- stands before all of them
  abbrev pub FramesFit : Within → List Frame → Type 0
  FramesFit x [] = WithinFits x
  FramesFit x (Default w ∷ k) = IsDot w × FramesFit x k
  FramesFit x (f ∷ k) = (open_count k < limit) × FrameFits (room_in k) (limit - suc (open_count k)) f
      × FramesFit x k

  -- what a state has read fits
  abbrev pub StateFits : State → Type 0
  StateFits (AfterLeast name least) = is_number least.text ≡ true
  StateFits (AfterFlags d) = is_number d.least.text ≡ true
  StateFits (AfterInfix d) = is_number d.least.text ≡ true
  StateFits (AfterMember name members) = members ≢ []
  StateFits (BeforeExpr x k) = FramesFit x k
  StateFits (AfterWord x k w) = FramesFit x k
  StateFits (AfterOpen x k w) = (open_count k < limit) × FramesFit x k
  StateFits (AfterWildcard x k w) = FramesFit x k
  StateFits (AfterExpr x k e) = FramesFit x k × Fits (room_in k) e
  StateFits (AfterDollar x k place) = FramesFit x k
  StateFits (BeforeLiteral x k v) = FramesFit x k × LevelFits (room_in k) v
  StateFits (BeforeBody x k s) = FramesFit x k × LevelFits (room_in k) s.level
  StateFits (BeforeOperand x k s lead) = FramesFit x k × LevelFits (room_in k) s.level × LeadFits (room_in k) lead
  StateFits (BeforeName x k s p e) = FramesFit x k × LevelFits (room_in k) s.level × (open_count k < limit)
      × Fits (limit - suc (open_count k)) e
  StateFits (BehindName x k s p e w) = FramesFit x k × LevelFits (room_in k) s.level × FitsAtom (room_in k) (Test p e w)
  StateFits (AfterAmount x k s a) = FramesFit x k × LevelFits (room_in k) s.level × FitsAmount (room_in k) a
  StateFits (AfterSense x k s a sense) = FramesFit x k × LevelFits (room_in k) s.level × FitsAmount (room_in k) a
  StateFits (AfterLiteral x k v l) = FramesFit x k × LevelFits (room_in k) v × FitsLiteral (room_in k) l
  StateFits (AfterBrace x k w) = FramesFit x k × IsDot w
  StateFits (AfterCount x k w count) = FramesFit x k × IsDot w × IsNumber count
  StateFits (BeforeBrace x k w count more) = FramesFit x k × IsDot w × IsNumber count
  StateFits (BeforeChange d) = EditFits d
  StateFits (AfterPosition d p) = EditFits d × FitsPosition p
  StateFits (BeforeIndex d first others) = EditFits d × FitsPosition (Path first others)
  StateFits (AfterArrow d p) = EditFits d × FitsPosition p
  StateFits (AfterSquare d p) = (0 < limit) × EditFits d × FitsPosition p
  StateFits (AfterChange d c) = EditFits d × FitsPosition c.position × FitsReplacement limit c.terms
  StateFits _ = Unit {0}

  -- an expression or a condition that is the whole text fits
  abbrev pub SingleFits : Single → Type 0
  SingleFits (SingleExpr t) = Fits limit t
  SingleFits (SingleCondition c) = FitsCondition limit c

  -- what a step leads to fits
  abbrev pub StepFits : Step → Type 0
  StepFits (Go a) = StateFits a
  StepFits (Emit s) = FitsStatement limit s
  StepFits (Ends s) = SingleFits s
  StepFits _ = Unit {0}

  if-fits : (b : Bool) (x y : Step) → StepFits x → StepFits y → StepFits (cond b x y)
  if-fits true x y h k = h
  if-fits false x y h k = k

  text-fits : (t : Placed) (next : Spot → Step) (o : Option (List ℕ)) → ((w : Spot) → StepFits (next w))
      → StepFits (on_text t next o)
  text-fits t next (Some w) h = h (spot w t.place)
  text-fits t next None h = tt

  open-fits : (k : List Frame) (next : State) → (open_count k < limit → StateFits next)
      → StepFits (step_open limit k next)
  open-fits k next h = go (leb limit (open_count k)) refl
    where
      go : (b : Bool) → leb limit (open_count k) ≡ b → StepFits (cond b (Refuse TooDeep) (Go next))
      go true e = tt
      go false e = h (leb-false limit (open_count k) e)

  expr-fits : (x : Within) (k : List Frame) (t : Placed) → FramesFit x k
      → StepFits (step_expr limit x k t (word_of t.token))
  expr-fits x k t fits = go (word_of t.token)
    where
      wildcard : (o : Option Wildcard) → StepFits (step_wildcard x k t o)
      wildcard (Some w) = fits
      wildcard None = if-fits (is_punct Dollar t.token) (Go (AfterDollar x k t.place)) (refuse t.token) fits tt

      go : (o : Option (List ℕ)) → StepFits (step_expr limit x k t o)
      go (Some w) = fits
      go None = if-fits (is_punct Open t.token) _ _
          (open-fits k (BeforeExpr x (Bracket t.place ∷ k)) (λ lt. (lt, tt, fits)))
          (wildcard (wildcard_at t.token t.place))

  -- ---- conditions

  -- the room in a bracket, and the bracket
  suc-room : (k : List Frame) → open_count k < limit → suc (limit - suc (open_count k)) ≡ room_in k
  suc-room k lt = omega arith

  found-fits : {A : Type 0} (next : A → Step) (other : Step) (o : Option A) → ((a : A) → StepFits (next a))
      → StepFits other → StepFits (on_found next other o)
  found-fits next other (Some a) h k = h a
  found-fits next other None h k = k

  -- an amount of this side leads to what fits
  with_amount-fits : (x : Within) (k : List Frame) (s : Site) (side : Side) (a : Amount) → FramesFit x k
      → LevelFits (room_in k) s.level → SideFits (room_in k) side → FitsAmount (room_in k) a
      → StateFits (with_amount x k s side a)
  with_amount-fits x k s OnLeft a fits v h f = (fits, v, f)
  with_amount-fits x k s (OnRight b sense) a fits v h f =
      (fits, v, atom-literal (room_in k) s.negated (Compare b sense a) (compare b sense a (room_in k) h f))
    where
      compare : (b : Amount) (sense : Sense) (a : Amount) (room : ℕ) → FitsAmount room b → FitsAmount room a
          → FitsAtom room (Compare b sense a)
      compare b sense a zero h f = (h, f)
      compare b sense a (suc room) h f = (h, f)

  amount-fits : (x : Within) (k : List Frame) (s : Site) (side : Side) (w : Spot) → FramesFit x k
      → LevelFits (room_in k) s.level → SideFits (room_in k) side → StepFits (step_amount x k s side w)
  amount-fits x k s side w fits v h = go (is_number w.text) refl
    where
      go : (b : Bool) → is_number w.text ≡ b
          → StepFits
          (cond b (Go (with_amount x k s side (Number w)))
          (on_found (λ m. Go (BeforeOperand x k s (OfMeasure side m))) (Refuse Syntax) (measure_of w.text)))
      go true e = with_amount-fits x k s side (Number w) fits v h (number-fits (room_in k) w e)
      go false e = found-fits _ (Refuse Syntax) (measure_of w.text) (λ m. (fits, v, h)) tt

  body-fits : (x : Within) (k : List Frame) (s : Site) (t : Placed) → FramesFit x k → LevelFits (room_in k) s.level
      → StepFits (step_body limit x k s t)
  body-fits x k s t fits v =
      if-fits (is_punct OpenSquare t.token) _ _
      (open-fits k (BeforeLiteral x (Square s ∷ k) no_level) (λ lt. ((lt, v, fits), (tt, tt))))
      (text-fits t (λ w. step_atom x k s w) (word_of t.token)
      (λ w. found-fits _ _ (relation_of w.text) (λ r. (fits, v, tt))
      (found-fits _ _ (property_of w.text) (λ p. (fits, v, tt)) (amount-fits x k s OnLeft w fits v tt))))

  bracket-fits : (x : Within) (k : List Frame) (s : Site) (lead : Lead) → open_count k < limit
      → StateFits (BeforeOperand x k s lead) → FramesFit x (Operand s lead ∷ k)
  bracket-fits x k s lead lt h = (lt, (h.1, h.2), h.0)

  operand-fits : (x : Within) (k : List Frame) (s : Site) (lead : Lead) (e : Tree) (t : Token)
      → FramesFit x (Operand s lead ∷ k) → Fits (room_in (Operand s lead ∷ k)) e
      → StepFits (step_operand x k s lead e t)
  operand-fits x k s (OfMeasure side m) e t fits e-fits =
      if-fits (is_punct Close t) _ (refuse t)
      (with_amount-fits x k s side (Measured m e) fits.2 fits.1.0 fits.1.1
      (subst (λ n. FitsAmount n (Measured m e)) (suc-room k fits.0) e-fits)) tt
  operand-fits x k s (OfRelation r) e t fits e-fits =
      if-fits (is_punct Comma t) (Go (BeforeExpr x (Second s r e ∷ k))) (refuse t)
      (fits.0, (fits.1.0, e-fits), fits.2) tt
  operand-fits x k s (OfProperty p) e t fits e-fits =
      if-fits (is_punct Comma t) (Go (BeforeName x k s p e)) (refuse t) (fits.2, fits.1.0, fits.0, e-fits) tt

  second-fits : (x : Within) (k : List Frame) (s : Site) (r : Relation) (d e : Tree) (t : Token)
      → FramesFit x (Second s r d ∷ k) → Fits (room_in (Second s r d ∷ k)) e
      → StepFits (on_punct Close t (Go (with_atom x k s (Relate r d e))))
  second-fits x k s r d e t fits e-fits =
      if-fits (is_punct Close t) (Go (with_atom x k s (Relate r d e))) (refuse t) (
        fits.2,
        fits.1.0,
        atom-literal (room_in k) s.negated (Relate r d e)
            (subst (λ n. FitsAtom n (Relate r d e)) (suc-room k fits.0) (fits.1.1, e-fits)),
      ) tt

  last-fits : (x : Within) (c : Condition) (t : Placed) → WithinFits x → FitsCondition limit c
      → StepFits (step_last x c t)
  last-fits (InCondition name pattern template) c t fits c-fits =
      if-fits (is_punct Semicolon t.token) (Emit (RuleOf name pattern template (Some c))) (refuse t.token)
      (fits.0, fits.1, c-fits) tt
  last-fits ConditionAlone c t fits c-fits =
      if-fits (is_end t.token) (Ends (SingleCondition c)) (refuse t.token) c-fits tt
  last-fits _ c t fits c-fits = tt

  whole-fits : (x : Within) (k : List Frame) (c : Condition) (t : Placed) → FramesFit x k → FitsCondition (room_in k) c
      → StepFits (step_whole x k c t)
  whole-fits x [] c t fits c-fits = last-fits x c t fits (subst (λ n. FitsCondition n c) (omega arith) c-fits)
  whole-fits x (Square s ∷ k) c t fits c-fits =
      if-fits (is_punct CloseSquare t.token) (Go (AfterLiteral x k s.level (Bracketed s.negated c))) (refuse t.token)
      (fits.2, fits.1, subst (λ n. FitsLiteral n (Bracketed s.negated c)) (suc-room k fits.0) c-fits) tt
  whole-fits x (_ ∷ k) c t fits c-fits = tt

  literal-fits : (x : Within) (k : List Frame) (v : Level) (l : Literal) (t : Placed) → FramesFit x k
      → LevelFits (room_in k) v → FitsLiteral (room_in k) l → StepFits (step_in limit (AfterLiteral x k v l) t)
  literal-fits x k v l t fits h f =
      if-fits (is_word (codes "and") t.token) (Go (BeforeLiteral x k (next_literal v l))) _
      (fits, (h.0, LiteralsFit-push (room_in k) v.literals l h.1 f))
      (if-fits (is_word (codes "or") t.token) (Go (BeforeLiteral x k (next_alternative v l))) _
      (fits, ((all-fit (room_in k) v l h f).1, tt))
      (whole-fits x k (condition (all_alternatives v l)) t fits (all-fit (room_in k) v l h f)))

  -- ---- behind expressions

  -- behind the pattern of a rule, or behind its template
  rule-fits : (name : Spot) (e : Tree) (template : Option Tree) (t : Token) → Fits limit e → FitsTemplate limit template
      → StepFits (step_rule name e template t)
  rule-fits name e template t h k =
      if-fits (is_punct Semicolon t) (Emit (RuleOf name e template None)) _ (h, k, tt)
      (if-fits (is_word (codes "if") t) (Go (BeforeLiteral (InCondition name e template) [] no_level)) (refuse t)
      ((h, k), (tt, tt)) tt)

  -- behind a change
  changes-fit : (d : Edited) (c : Change) (t : Token) → EditFits d → FitsPosition c.position
      → FitsReplacement limit c.terms → StepFits (step_changes d c t)
  changes-fit d c t h p k =
      let all = ChangesFit-push limit d.changes c h p k in
      if-fits (is_punct Comma t) (Go (BeforeChange (with_change d c))) _ all
      (if-fits (is_punct Semicolon t) (Emit (EditOf d.subject (d.changes ++ c ∷ []))) (refuse t)
      (push-some d.changes c, all) tt)

  -- expressions of a list, where a bracket may be opened, fit as a list
  listed-fits : (room : ℕ) → 0 < room → (ts : Trees) → AreFit (room - 1) ts → FitsListed room ts
  listed-fits zero lt ts h = absurd (omega arith)
  listed-fits (suc room) lt ts h = subst (λ n. AreFit n ts) (omega arith) h

  -- behind the last expression of a list
  listing-fits : (x : Within) (k : List Frame) (es : List Tree) (t : Token) → FramesFit x k → open_count k < limit
      → AreFit (limit - suc (open_count k)) (trees es) → StepFits (step_listed x k es t)
  listing-fits (InChange d p) [] es t fits lt h =
      if-fits (is_punct CloseSquare t) (Go (AfterChange d (change p (Listed (trees es))))) (refuse t)
      (fits.0, fits.1, listed-fits limit lt (trees es) h) tt
  listing-fits (InChange d p) (_ ∷ k) es t fits lt h = tt
  listing-fits _ k es t fits lt h = tt

  behind-fits : (x : Within) (k : List Frame) (e : Tree) (t : Placed) → FramesFit x k → Fits (room_in k) e
      → StepFits (step_behind x k e t)
  behind-fits (InStatement h) [] e t fits inner = at h.role
    where
      e-fits : Fits limit e
      e-fits = subst (λ n. Fits n e) (omega arith) inner

      at : (role : Role) → StepFits (step_role role h.name e t.token)
      at OfRule = if-fits (is_arrow t.token) (Go (BeforeExpr (InTemplate h.name e) [])) _ e-fits
          (rule-fits h.name e None t.token e-fits tt)
      at OfSubject = if-fits (is_punct Semicolon t.token) (Emit (SubjectOf h.name e)) (refuse t.token) e-fits tt
  behind-fits Alone [] e t fits e-fits = if-fits (is_end t.token) (Ends (SingleExpr e)) (refuse t.token)
      (subst (λ n. Fits n e) (omega arith) e-fits) tt
  behind-fits (InTemplate name pattern) [] e t fits inner =
      rule-fits name pattern (Some e) t.token fits (subst (λ n. Fits n e) (omega arith) inner)
  behind-fits (InCondition name pattern template) [] e t fits e-fits = tt
  behind-fits ConditionAlone [] e t fits e-fits = tt
  behind-fits (InChange d p) [] e t fits inner =
      changes-fit d (change p (syntax.Single e)) t.token fits.0 fits.1 (subst (λ n. Fits n e) (omega arith) inner)
  behind-fits x (Arguments name args ∷ k) e t fits e-fits =
      let pushed = AreFit-push (limit - suc (open_count k)) args e fits.1 e-fits in
      if-fits (is_punct Comma t.token) _ _ (fits.0, pushed, fits.2)
      (if-fits (is_punct Close t.token) _ (refuse t.token)
      (fits.2, subst (λ n. Fits n (Apply name (trees (args ++ e ∷ [])))) (suc-room k fits.0) pushed) tt)
  behind-fits x (Bracket place ∷ k) e t fits e-fits =
      text-fits t (λ sign. Go (BeforeExpr x (Operands place sign e [] ∷ k))) (sign_of t.token)
      (λ sign. (fits.0, (e-fits, tt), fits.2))
  behind-fits x (Operands place sign first others ∷ k) e t fits e-fits =
      let pushed = AreFit-push (limit - suc (open_count k)) others e fits.1.1 e-fits in
      let whole = more_trees first (trees (others ++ e ∷ [])) in
      if-fits (is_sign sign.text t.token) _ _ (fits.0, (fits.1.0, pushed), fits.2)
      (if-fits (is_punct Close t.token) _ (refuse t.token) (
        fits.2,
        subst (λ n. Fits n (InfixOf place sign whole)) (suc-room k fits.0)
            (several-push first others e, (fits.1.0, pushed)),
      ) tt)
  behind-fits x (Default w ∷ k) e t fits e-fits =
      behind-fits x k (with_default w e) t fits.1 (with_default-fits (room_in k) w e fits.0 e-fits)
  behind-fits x (Operand s lead ∷ k) e t fits e-fits = operand-fits x k s lead e t.token fits e-fits
  behind-fits x (Second s r d ∷ k) e t fits e-fits = second-fits x k s r d e t.token fits e-fits
  behind-fits x (Square s ∷ k) e t fits e-fits = tt
  behind-fits x (Listing es ∷ k) e t fits e-fits =
      let pushed = AreFit-push (limit - suc (open_count k)) es e fits.1 e-fits in
      if-fits (is_punct Comma t.token) _ _ (fits.0, pushed, fits.2)
      (listing-fits x k (es ++ e ∷ []) t.token fits.2 fits.0 pushed)

  keyword-fits : (w : List ℕ) → StepFits (keyword w)
  keyword-fits w = if-fits (bytes_eq w (codes "op")) _ _ tt
      (if-fits (bytes_eq w (codes "kind")) _ _ tt
      (if-fits (bytes_eq w (codes "rule")) _ _ tt
      (if-fits (bytes_eq w (codes "subject")) _ _ tt (if-fits (bytes_eq w (codes "edit")) _ (Refuse Syntax) tt tt))))

  flag-fits : (d : Declared) (w : List ℕ) → is_number d.least.text ≡ true → StepFits (step_flag d w)
  flag-fits d w h = if-fits (bytes_eq w (codes "assoc")) _ _ h
      (if-fits (bytes_eq w (codes "comm")) _ _ h
      (if-fits (bytes_eq w (codes "one")) _ _ h (if-fits (bytes_eq w (codes "infix")) _ (Refuse Syntax) h tt)))

  flags-fit : (d : Declared) (t : Placed) → is_number d.least.text ≡ true → StepFits (step_flags d t)
  flags-fit d t h = if-fits (is_punct Semicolon t.token) (Emit (OpOf d.name d.least d.more d.flags)) _ h
      (text-fits t (λ w. step_flag d w.text) (word_of t.token) (λ w. flag-fits d w.text h))

  member-fits : (name : Spot) (members : List Spot) (t : Placed)
      → StepFits (on_word t (λ w. Go (AfterMember name (members ++ w ∷ []))))
  member-fits name members t = text-fits t (λ w. Go (AfterMember name (members ++ w ∷ []))) (word_of t.token)
      (λ w. push-some members w)

  -- a number leads to what fits
  on_number-fits : (t : Placed) (next : Spot → State) → ((w : Spot) → IsNumber w → StateFits (next w))
      → StepFits (on_number t next)
  on_number-fits t next h = text-fits t (λ w. step_number next w) (word_of t.token) (λ w. go w (is_number w.text) refl)
    where
      go : (w : Spot) (b : Bool) → is_number w.text ≡ b → StepFits (cond b (Go (next w)) (Refuse Syntax))
      go w true e = h w e
      go w false e = tt

  -- a closing brace leads to what fits
  brace-fits : (x : Within) (k : List Frame) (w : Wildcard) (count : Spot) (more : Bool) (t : Token) → FramesFit x k
      → IsDot w → IsNumber count → StepFits (step_brace x k w count more t)
  brace-fits x k w count more t fits dot number =
      if-fits (is_punct CloseBrace t) (Go (AfterExpr x k (Counted w count more))) (refuse t)
      (fits, counted-fits (room_in k) w count more dot number) tt

  -- a step from what fits leads to what fits
  pub step-fits : (at : State) (t : Placed) → StateFits at → StepFits (step_in limit at t)
  step-fits Top t h = if-fits (is_end t.token) Finish _ tt
      (text-fits t (λ w. keyword w.text) (word_of t.token) (λ w. keyword-fits w.text))
  step-fits AfterOp t h = text-fits t (λ w. Go (AfterOpName w)) (word_of t.token) (λ w. tt)
  step-fits (AfterOpName name) t h = on_number-fits t (λ w. AfterLeast name w) (λ w e. e)
  step-fits (AfterLeast name least) t h = if-fits (is_sign (codes "+") t.token)
      (Go (AfterFlags (declared name least true []))) _ h (flags-fit (declared name least false []) t h)
  step-fits (AfterFlags d) t h = flags-fit d t h
  step-fits (AfterInfix d) t h = text-fits t (λ sign. Go (AfterFlags (with_flag d (Infixed sign)))) (sign_of t.token)
      (λ sign. h)
  step-fits AfterKind t h = text-fits t (λ w. Go (AfterKindName w)) (word_of t.token) (λ w. tt)
  step-fits (AfterKindName name) t h = if-fits (is_punct Colon t.token) _ (refuse t.token) tt tt
  step-fits (BeforeMember name members) t h = member-fits name members t
  step-fits (AfterMember name members) t h =
      if-fits (is_punct Semicolon t.token) (Emit (KindOf name members)) _ h (member-fits name members t)
  step-fits (AfterRole role) t h =
      text-fits t (λ w. Go (AfterName (record { role = role; name = w }))) (word_of t.token)
      (λ w. tt)
  step-fits (AfterName x) t h = if-fits (is_punct Colon t.token) _ (refuse t.token) tt tt
  step-fits (BeforeExpr x k) t h = expr-fits x k t h
  step-fits (AfterWord x k w) t h = if-fits (is_punct Open t.token) _ _ (open-fits k (AfterOpen x k w) (λ lt. (lt, h)))
      (behind-fits x k (Symbol w) t h tt)
  step-fits (AfterOpen x k w) t h = if-fits (is_punct Close t.token) _ _
      (h.1, subst (λ n. Fits n (Apply w (trees []))) (suc-room k h.0) tt)
      (expr-fits x (Arguments w [] ∷ k) t (h.0, tt, h.1))
  step-fits (AfterWildcard x k w) t h = go (is_punct Colon t.token) (is_punct OpenBrace t.token) (is_dot w) refl
    where
      go : (v u d : Bool) → is_dot w ≡ d
          → StepFits (cond (v && d) (Go (BeforeExpr x (Default w ∷ k)))
          (cond (u && d) (Go (AfterBrace x k w)) (step_behind x k (Wild w) t)))
      go true u true e = (is_dot-true w e, h)
      go true true false e = behind-fits x k (Wild w) t h (wild-fits (room_in k) w)
      go true false false e = behind-fits x k (Wild w) t h (wild-fits (room_in k) w)
      go false true true e = (h, is_dot-true w e)
      go false true false e = behind-fits x k (Wild w) t h (wild-fits (room_in k) w)
      go false false d e = behind-fits x k (Wild w) t h (wild-fits (room_in k) w)
  step-fits (AfterExpr x k e) t h = behind-fits x k e t h.0 h.1
  step-fits (AfterDollar x k place) t h = text-fits t (λ w. Go (AfterExpr x k (Variable (spot w.text place))))
      (word_of t.token) (λ w. (h, variable-fits (room_in k) (spot w.text place)))
  step-fits (BeforeLiteral x k v) t h = if-fits (is_word (codes "not") t.token) (Go (BeforeBody x k (site v true))) _ h
      (body-fits x k (site v false) t h.0 h.1)
  step-fits (BeforeBody x k s) t h = body-fits x k s t h.0 h.1
  step-fits (BeforeOperand x k s lead) t h =
      if-fits (is_punct Open t.token) _ (refuse t.token)
      (open-fits k (BeforeExpr x (Operand s lead ∷ k)) (λ lt. bracket-fits x k s lead lt h)) tt
  step-fits (BeforeName x k s p e) t h = text-fits t (λ w. Go (BehindName x k s p e w)) (word_of t.token)
      (λ w. (h.0, h.1, subst (λ n. FitsAtom n (Test p e w)) (suc-room k h.2) h.3))
  step-fits (BehindName x k s p e w) t h = if-fits (is_punct Close t.token) (Go (with_atom x k s (Test p e w)))
      (refuse t.token) (h.0, h.1, atom-literal (room_in k) s.negated (Test p e w) h.2) tt
  step-fits (AfterAmount x k s a) t h = text-fits t
      (λ sign. on_found (λ sense. Go (AfterSense x k s a sense)) (Refuse Syntax) (sense_of sign.text)) (sign_of t.token)
      (λ sign. found-fits _ (Refuse Syntax) (sense_of sign.text) (λ sense. h) tt)
  step-fits (AfterSense x k s a sense) t h =
      text-fits t (λ w. step_amount x k s (OnRight a sense) w) (word_of t.token)
      (λ w. amount-fits x k s (OnRight a sense) w h.0 h.1 h.2)
  step-fits (AfterLiteral x k v l) t h = literal-fits x k v l t h.0 h.1 h.2
  step-fits (AfterBrace x k w) t h = on_number-fits t (λ count. AfterCount x k w count) (λ count e. (h.0, h.1, e))
  step-fits (AfterCount x k w count) t h = if-fits (is_sign (codes "+") t.token) (Go (BeforeBrace x k w count true)) _ h
      (brace-fits x k w count false t.token h.0 h.1 h.2)
  step-fits (BeforeBrace x k w count more) t h = brace-fits x k w count more t.token h.0 h.1 h.2
  step-fits AfterEdit t h = text-fits t (λ w. Go (AfterSubject w)) (word_of t.token) (λ w. tt)
  step-fits (AfterSubject subject) t h = if-fits (is_punct Colon t.token) _ (refuse t.token) tt tt
  step-fits (BeforeChange d) t h = if-fits (is_punct Dot t.token) (Go (AfterPosition d (Root t.place))) _ (h, tt)
      (on_number-fits t (λ w. AfterPosition d (Path w [])) (λ w e. (h, (e, tt))))
  step-fits (AfterPosition d p) t h = if-fits (is_arrow t.token) (Go (AfterArrow d p)) _ h (further p h)
    where
      further : (p : Position) → EditFits d × FitsPosition p → StepFits (step_further d p t.token)
      further (Root place) h = tt
      further (Path first others) h =
          if-fits (is_punct Dot t.token) (Go (BeforeIndex d first others)) (refuse t.token) h tt
  step-fits (BeforeIndex d first others) t h = on_number-fits t (λ w. AfterPosition d (Path first (others ++ w ∷ [])))
      (λ w e. (h.0, (h.1.0, numbers-push others w h.1.1 e)))
  step-fits (AfterArrow d p) t h = if-fits (is_punct OpenSquare t.token) _ _
      (open-fits [] (AfterSquare d p) (λ lt. (lt, h.0, h.1))) (expr-fits (InChange d p) [] t h)
  step-fits (AfterSquare d p) t h = if-fits (is_punct CloseSquare t.token) _ _
      (h.1, h.2, listed-fits limit h.0 no_trees tt)
      (expr-fits (InChange d p) (Listing [] ∷ []) t (h.0, tt, (h.1, h.2)))
  step-fits (AfterChange d c) t h = changes-fit d c t.token h.0 h.1 h.2

  AreStatements-push : (ss : List Statement) (s : Statement) → AreStatements limit ss → FitsStatement limit s
      → AreStatements limit (ss ++ s ∷ [])
  AreStatements-push [] s h k = (k, tt)
  AreStatements-push (x ∷ ss) s h k = (h.0, AreStatements-push ss s h.1 k)

  -- the expression or the condition fits, where there is one
  abbrev pub FitsAlone : Option Single → Type 0
  FitsAlone None = Unit {0}
  FitsAlone (Some s) = SingleFits s

  -- what is read fits
  abbrev pub ParsedFits : Parsed → Type 0
  ParsedFits p = AreStatements limit p.statements × FitsAlone p.single

  -- what is read fits
  pub run-fits : (ts : List Placed) (done : List Statement) (at : State) (p : Parsed) → AreStatements limit done
      → StateFits at → run_in limit done at ts ≡ Ok p → ParsedFits p
  run-fits [] done at p h k e = absurd cc
  run-fits (t ∷ ts) done at p h k e = go (step_in limit at t) (step-fits at t k) e (run-fits ts)
    where
      go : (s : Step) → StepFits s → after_step done t.place (λ d a. run_in limit d a ts) s ≡ Ok p
          → ((d : List Statement) (a : State) (q : Parsed) → AreStatements limit d → StateFits a
          → run_in limit d a ts ≡ Ok q
          → ParsedFits q) → ParsedFits p
      go (Go a) x e ih = ih done a p h x e
      go (Emit s) x e ih = ih (done ++ s ∷ []) Top p (AreStatements-push done s h x) tt e
      go (Refuse f) x e ih = absurd cc
      go Finish x e ih = subst ParsedFits (ok-is (parsed done None) p e) (h, tt)
      go (Ends t) x e ih = subst ParsedFits (ok-is (parsed done (Some t)) p e) (h, x)
