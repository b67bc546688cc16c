-- In each state that the machine reaches an expression stands where one may, and so does a condition.
use Rattle.std.proofs.Common.{ℕ, Bool, true, false, cond, List, [], ◌∷◌, ◌++◌, Option, Some, None, leb}
use Rattle.std.specs.Prelude.{◌&&◌, codes}
use Rattle.std.specs.Str.{bytes_eq}
use Rattle.mp_parser.specs.declared.token.Punct.TheVariants.{Open, Close, OpenSquare, CloseSquare, Comma, Colon}
use Rattle.mp_parser.specs.declared.token.Punct.TheVariants.{Semicolon, Dollar, OpenBrace, CloseBrace, Dot}
use Rattle.mp_parser.specs.declared.fault.FaultKind.TheVariants.{Syntax, TooDeep}
use Rattle.mp_parser.specs.Tokens.{Token, Placed}
use Rattle.mp_syntax.specs.Begins.{Text, OfFile, OfExpr, OfCondition}
use Rattle.mp_parser.specs.Syntax.{Spot, Wildcard, Tree, Symbol, Wild, Variable, Infixed, KindOf, OpOf, RuleOf}
use Rattle.mp_parser.specs.Syntax.{SubjectOf, Amount, Number, Measured, Relate, Test, Literal, Bracketed, Condition}
use Rattle.mp_parser.specs.Syntax.{condition, Counted, EditOf, Position, Root, Path, Change, trees}
use Rattle.mp_parser.specs.Machine.{Heading, Edited, Listing, InTemplate, InChange, AfterBrace, AfterCount}
use Rattle.mp_parser.specs.Machine.{BeforeBrace, AfterEdit, AfterSubject, BeforeChange, AfterPosition, BeforeIndex}
use Rattle.mp_parser.specs.Machine.{AfterArrow, AfterSquare, AfterChange, is_arrow, change, with_change}
use Rattle.mp_parser.specs.Machine.{on_number, step_rule, step_changes, step_listed, step_further, step_brace, Role}
use Rattle.mp_parser.specs.Machine.{OfRule, OfSubject, Frame, Arguments, Bracket, Operands, Default, Operand, Second}
use Rattle.mp_parser.specs.Machine.{Square, Level, no_level, next_literal, next_alternative, all_alternatives, Site}
use Rattle.mp_parser.specs.Machine.{site, Side, OnLeft, OnRight, Lead, OfMeasure, OfRelation, OfProperty, open_count}
use Rattle.mp_parser.specs.Machine.{with_default, is_dot, Declared, declared, with_flag, Within, InStatement, Alone}
use Rattle.mp_parser.specs.Machine.{InCondition, ConditionAlone, State, Top, AfterOp, AfterOpName, AfterLeast}
use Rattle.mp_parser.specs.Machine.{AfterFlags, AfterInfix, AfterKind, AfterKindName, BeforeMember, AfterMember}
use Rattle.mp_parser.specs.Machine.{AfterRole, AfterName, BeforeExpr, AfterWord, AfterOpen, AfterWildcard, AfterExpr}
use Rattle.mp_parser.specs.Machine.{AfterDollar, BeforeLiteral, BeforeBody, BeforeOperand, BeforeName, BehindName}
use Rattle.mp_parser.specs.Machine.{AfterAmount, AfterSense, AfterLiteral, Single, SingleExpr, SingleCondition, Step}
use Rattle.mp_parser.specs.Machine.{Go, Emit, Refuse, Finish, Ends, is_punct, is_sign, is_word, is_end, is_number}
use Rattle.mp_parser.specs.Machine.{measure_of, sense_of, relation_of, property_of, word_of, sign_of, wildcard_at}
use Rattle.mp_parser.specs.Machine.{keyword, spot, refuse, on_text, on_word, on_found, with_atom, with_amount}
use Rattle.mp_parser.specs.Machine.{step_in, step_role, step_operand, step_amount, step_atom, step_body, step_last}
use Rattle.mp_parser.specs.Machine.{step_whole, step_number, step_flag, step_flags, step_open, step_expr, step_behind}
use Rattle.mp_parser.specs.Machine.{step_wildcard}
use Rattle.mp_parser.specs.Syntax as syntax

-- an expression of a text of this sort ends in this, in no bracket
abbrev pub IsEndOfExpr : Text → Within → Type 0
IsEndOfExpr OfFile (InStatement h) = Unit {0}
IsEndOfExpr OfFile (InTemplate name pattern) = Unit {0}
IsEndOfExpr OfFile (InChange d p) = Unit {0}
IsEndOfExpr OfExpr Alone = Unit {0}
IsEndOfExpr _ _ = ⊥

-- the same of a condition
abbrev pub IsEndOfCondition : Text → Within → Type 0
IsEndOfCondition OfFile (InCondition name pattern template) = Unit {0}
IsEndOfCondition OfCondition ConditionAlone = Unit {0}
IsEndOfCondition _ _ = ⊥

-- a condition may stand here: in square brackets alone
abbrev pub HoldsCondition : Text → Within → List Frame → Type 0
HoldsCondition b x [] = IsEndOfCondition b x
HoldsCondition b x (Square s ∷ k) = HoldsCondition b x k
HoldsCondition b x (_ ∷ k) = ⊥

-- a list of an edit may stand here: in a change, in no bracket
abbrev pub HoldsList : Text → Within → List Frame → Type 0
HoldsList OfFile (InChange d p) [] = Unit {0}
HoldsList _ _ _ = ⊥

-- an expression may stand here
abbrev pub HoldsExpr : Text → Within → List Frame → Type 0
HoldsExpr b x [] = IsEndOfExpr b x
HoldsExpr b x (Arguments name args ∷ k) = HoldsExpr b x k
HoldsExpr b x (Bracket place ∷ k) = HoldsExpr b x k
HoldsExpr b x (Operands place sign first others ∷ k) = HoldsExpr b x k
HoldsExpr b x (Default w ∷ k) = HoldsExpr b x k
HoldsExpr b x (Operand s lead ∷ k) = HoldsCondition b x k
HoldsExpr b x (Second s r e ∷ k) = HoldsCondition b x k
HoldsExpr b x (Square s ∷ k) = ⊥
HoldsExpr b x (Listing es ∷ k) = HoldsList b x k

-- the text is a file
abbrev pub IsFile : Text → Type 0
IsFile OfFile = Unit {0}
IsFile _ = ⊥

-- what the state reads may stand where it stands
abbrev pub Holds : Text → State → Type 0
Holds b (BeforeExpr x k) = HoldsExpr b x k
Holds b (AfterWord x k w) = HoldsExpr b x k
Holds b (AfterOpen x k w) = HoldsExpr b x k
Holds b (AfterWildcard x k w) = HoldsExpr b x k
Holds b (AfterExpr x k e) = HoldsExpr b x k
Holds b (AfterDollar x k place) = HoldsExpr b x k
Holds b (AfterBrace x k w) = HoldsExpr b x k
Holds b (AfterCount x k w count) = HoldsExpr b x k
Holds b (BeforeBrace x k w count more) = HoldsExpr b x k
Holds b (BeforeLiteral x k v) = HoldsCondition b x k
Holds b (BeforeBody x k s) = HoldsCondition b x k
Holds b (BeforeOperand x k s lead) = HoldsCondition b x k
Holds b (BeforeName x k s p e) = HoldsCondition b x k
Holds b (BehindName x k s p e w) = HoldsCondition b x k
Holds b (AfterAmount x k s a) = HoldsCondition b x k
Holds b (AfterSense x k s a sense) = HoldsCondition b x k
Holds b (AfterLiteral x k v l) = HoldsCondition b x k
Holds b _ = IsFile b

-- it is a whole text of this sort
abbrev pub IsAlone : Text → Single → Type 0
IsAlone OfExpr (SingleExpr t) = Unit {0}
IsAlone OfCondition (SingleCondition c) = Unit {0}
IsAlone _ _ = ⊥

-- the same of what a step leads to, or ends
abbrev pub StepHolds : Text → Step → Type 0
StepHolds b (Go a) = Holds b a
StepHolds b (Emit s) = IsFile b
StepHolds b (Refuse kind) = Unit {0}
StepHolds b Finish = IsFile b
StepHolds b (Ends s) = IsAlone b s

if-holds : (b : Text) (v : Bool) (x y : Step) → StepHolds b x → StepHolds b y → StepHolds b (cond v x y)
if-holds b true x y h k = h
if-holds b false x y h k = k

text-holds : (b : Text) (t : Placed) (next : Spot → Step) (o : Option (List ℕ)) → ((w : Spot) → StepHolds b (next w))
    → StepHolds b (on_text t next o)
text-holds b t next (Some w) h = h (spot w t.place)
text-holds b t next None h = tt

found-holds : {A : Type 0} (b : Text) (next : A → Step) (other : Step) (o : Option A) → ((a : A) → StepHolds b (next a))
    → StepHolds b other → StepHolds b (on_found next other o)
found-holds b next other (Some a) h k = h a
found-holds b next other None h k = k

-- ---- statements stand in files

-- the expression or condition is one of a statement
abbrev IsInStatement : Within → Type 0
IsInStatement Alone = ⊥
IsInStatement ConditionAlone = ⊥
IsInStatement _ = Unit {0}

expr-file : (b : Text) (x : Within) → IsInStatement x → IsEndOfExpr b x → IsFile b
expr-file OfFile x s f = tt
expr-file OfExpr Alone s f = absurd s
expr-file OfExpr _ s f = absurd f
expr-file OfCondition x s f = absurd f

condition-file : (b : Text) (x : Within) → IsInStatement x → IsEndOfCondition b x → IsFile b
condition-file OfFile x s f = tt
condition-file OfExpr x s f = absurd f
condition-file OfCondition ConditionAlone s f = absurd s
condition-file OfCondition _ s f = absurd f

list-file : (b : Text) (x : Within) (k : List Frame) → HoldsList b x k → IsFile b
list-file OfFile x k f = tt
list-file OfExpr x k f = absurd f
list-file OfCondition x k f = absurd f

pub file-name : (b : Text) (h : Heading) → IsFile b → IsEndOfExpr b (InStatement h)
file-name OfFile h f = tt
file-name OfExpr h f = absurd f
file-name OfCondition h f = absurd f

file-template : (b : Text) (name : Spot) (e : Tree) → IsFile b → IsEndOfExpr b (InTemplate name e)
file-template OfFile name e f = tt
file-template OfExpr name e f = absurd f
file-template OfCondition name e f = absurd f

pub file-change : (b : Text) (d : Edited) (p : Position) → IsFile b → IsEndOfExpr b (InChange d p)
file-change OfFile d p f = tt
file-change OfExpr d p f = absurd f
file-change OfCondition d p f = absurd f

file-list : (b : Text) (d : Edited) (p : Position) → IsFile b → HoldsList b (InChange d p) []
file-list OfFile d p f = tt
file-list OfExpr d p f = absurd f
file-list OfCondition d p f = absurd f

file-condition : (b : Text) (name : Spot) (e : Tree) (template : Option Tree) → IsFile b
    → IsEndOfCondition b (InCondition name e template)
file-condition OfFile name e template f = tt
file-condition OfExpr name e template f = absurd f
file-condition OfCondition name e template f = absurd f

module _ (limit : ℕ) (b : Text) where
  open-holds : (k : List Frame) (next : State) → Holds b next → StepHolds b (step_open limit k next)
  open-holds k next h = if-holds b (leb limit (open_count k)) (Refuse TooDeep) (Go next) tt h

  expr-holds : (x : Within) (k : List Frame) (t : Placed) → HoldsExpr b x k
      → StepHolds b (step_expr limit x k t (word_of t.token))
  expr-holds x k t h = go (word_of t.token)
    where
      wildcard : (o : Option Wildcard) → StepHolds b (step_wildcard x k t o)
      wildcard (Some w) = h
      wildcard None = if-holds b (is_punct Dollar t.token) (Go (AfterDollar x k t.place)) (refuse t.token) h tt

      go : (o : Option (List ℕ)) → StepHolds b (step_expr limit x k t o)
      go (Some w) = h
      go None =
          if-holds b (is_punct Open t.token) _ _ (open-holds k (BeforeExpr x (Bracket t.place ∷ k)) h)
          (wildcard (wildcard_at t.token t.place))

  with_amount-holds : (x : Within) (k : List Frame) (s : Site) (side : Side) (a : Amount) → HoldsCondition b x k
      → Holds b (with_amount x k s side a)
  with_amount-holds x k s OnLeft a h = h
  with_amount-holds x k s (OnRight c sense) a h = h

  amount-holds : (x : Within) (k : List Frame) (s : Site) (side : Side) (w : Spot) → HoldsCondition b x k
      → StepHolds b (step_amount x k s side w)
  amount-holds x k s side w h =
      if-holds b (is_number w.text) _ _ (with_amount-holds x k s side (Number w) h)
      (found-holds b _ (Refuse Syntax) (measure_of w.text) (λ m. h) tt)

  body-holds : (x : Within) (k : List Frame) (s : Site) (t : Placed) → HoldsCondition b x k
      → StepHolds b (step_body limit x k s t)
  body-holds x k s t h =
      if-holds b (is_punct OpenSquare t.token) _ _ (open-holds k (BeforeLiteral x (Square s ∷ k) no_level) h)
      (text-holds b t (λ w. step_atom x k s w) (word_of t.token)
      (λ w. found-holds b _ _ (relation_of w.text) (λ r. h)
      (found-holds b _ _ (property_of w.text) (λ p. h) (amount-holds x k s OnLeft w h))))

  operand-holds : (x : Within) (k : List Frame) (s : Site) (lead : Lead) (e : Tree) (t : Token) → HoldsCondition b x k
      → StepHolds b (step_operand x k s lead e t)
  operand-holds x k s (OfMeasure side m) e t h =
      if-holds b (is_punct Close t) _ (refuse t) (with_amount-holds x k s side (Measured m e) h) tt
  operand-holds x k s (OfRelation r) e t h =
      if-holds b (is_punct Comma t) (Go (BeforeExpr x (Second s r e ∷ k))) (refuse t) h tt
  operand-holds x k s (OfProperty p) e t h = if-holds b (is_punct Comma t) (Go (BeforeName x k s p e)) (refuse t) h tt

  last-holds : (x : Within) (c : Condition) (t : Placed) → IsEndOfCondition b x → StepHolds b (step_last x c t)
  last-holds (InStatement h) c t f = tt
  last-holds Alone c t f = tt
  last-holds (InTemplate name pattern) c t f = tt
  last-holds (InChange d p) c t f = tt
  last-holds (InCondition name pattern template) c t f =
      if-holds b (is_punct Semicolon t.token) (Emit (RuleOf name pattern template (Some c))) (refuse t.token)
      (condition-file b (InCondition name pattern template) tt f) tt
  last-holds ConditionAlone c t f =
      if-holds b (is_end t.token) (Ends (SingleCondition c)) (refuse t.token) (alone b f) tt
    where
      alone : (b : Text) → IsEndOfCondition b ConditionAlone → IsAlone b (SingleCondition c)
      alone OfFile f = absurd f
      alone OfExpr f = absurd f
      alone OfCondition f = tt

  whole-holds : (x : Within) (k : List Frame) (c : Condition) (t : Placed) → HoldsCondition b x k
      → StepHolds b (step_whole x k c t)
  whole-holds x [] c t h = last-holds x c t h
  whole-holds x (Square s ∷ k) c t h =
      if-holds b (is_punct CloseSquare t.token) (Go (AfterLiteral x k s.level (Bracketed s.negated c)))
      (refuse t.token) h tt
  whole-holds x (Arguments name args ∷ k) c t h = tt
  whole-holds x (Bracket place ∷ k) c t h = tt
  whole-holds x (Operands place sign first others ∷ k) c t h = tt
  whole-holds x (Default w ∷ k) c t h = tt
  whole-holds x (Operand s lead ∷ k) c t h = tt
  whole-holds x (Second s r e ∷ k) c t h = tt
  whole-holds x (Listing es ∷ k) c t h = tt

  literal-holds : (x : Within) (k : List Frame) (v : Level) (l : Literal) (t : Placed) → HoldsCondition b x k
      → StepHolds b (step_in limit (AfterLiteral x k v l) t)
  literal-holds x k v l t h =
      if-holds b (is_word (codes "and") t.token) (Go (BeforeLiteral x k (next_literal v l))) _ h
      (if-holds b (is_word (codes "or") t.token) (Go (BeforeLiteral x k (next_alternative v l))) _ h
      (whole-holds x k (condition (all_alternatives v l)) t h))

  -- behind the pattern or the template of a rule
  rule-holds : (name : Spot) (e : Tree) (template : Option Tree) (t : Token) → IsFile b
      → StepHolds b (step_rule name e template t)
  rule-holds name e template t f =
      if-holds b (is_punct Semicolon t) (Emit (RuleOf name e template None)) _ f
      (if-holds b (is_word (codes "if") t) (Go (BeforeLiteral (InCondition name e template) [] no_level)) (refuse t)
      (file-condition b name e template f) tt)

  -- behind a change
  changes-hold : (d : Edited) (c : Change) (t : Token) → IsFile b → StepHolds b (step_changes d c t)
  changes-hold d c t f =
      if-holds b (is_punct Comma t) (Go (BeforeChange (with_change d c))) _ f
      (if-holds b (is_punct Semicolon t) (Emit (EditOf d.subject (d.changes ++ c ∷ []))) (refuse t) f tt)

  -- behind the last expression of a list
  listed-holds : (x : Within) (k : List Frame) (es : List Tree) (t : Token) → HoldsList b x k
      → StepHolds b (step_listed x k es t)
  listed-holds (InChange d p) [] es t h =
      if-holds b (is_punct CloseSquare t) (Go (AfterChange d (change p (syntax.Listed (trees es))))) (refuse t)
      (list-file b (InChange d p) [] h) tt
  listed-holds (InChange d p) (f ∷ k) es t h = tt
  listed-holds (InStatement n) k es t h = tt
  listed-holds Alone k es t h = tt
  listed-holds (InTemplate name pattern) k es t h = tt
  listed-holds (InCondition name pattern template) k es t h = tt
  listed-holds ConditionAlone k es t h = tt

  end-holds : (x : Within) (e : Tree) (t : Placed) → IsEndOfExpr b x → StepHolds b (step_behind x [] e t)
  end-holds (InStatement h) e t f = at h.role
    where
      file : IsFile b
      file = expr-file b (InStatement h) tt f

      at : (role : Role) → StepHolds b (step_role role h.name e t.token)
      at OfRule =
          if-holds b (is_arrow t.token) (Go (BeforeExpr (InTemplate h.name e) [])) _ (file-template b h.name e file)
          (rule-holds h.name e None t.token file)
      at OfSubject = if-holds b (is_punct Semicolon t.token) (Emit (SubjectOf h.name e)) (refuse t.token) file tt
  end-holds (InTemplate name pattern) e t f =
      rule-holds name pattern (Some e) t.token (expr-file b (InTemplate name pattern) tt f)
  end-holds (InChange d p) e t f =
      changes-hold d (change p (syntax.Single e)) t.token (expr-file b (InChange d p) tt f)
  end-holds Alone e t f = if-holds b (is_end t.token) (Ends (SingleExpr e)) (refuse t.token) (alone b f) tt
    where
      alone : (b : Text) → IsEndOfExpr b Alone → IsAlone b (SingleExpr e)
      alone OfFile f = absurd f
      alone OfExpr f = tt
      alone OfCondition f = absurd f
  end-holds (InCondition name pattern template) e t f = tt
  end-holds ConditionAlone e t f = tt

  behind-holds : (x : Within) (k : List Frame) (e : Tree) (t : Placed) → HoldsExpr b x k
      → StepHolds b (step_behind x k e t)
  behind-holds x [] e t h = end-holds x e t h
  behind-holds x (Arguments name args ∷ k) e t h =
      if-holds b (is_punct Comma t.token) _ _ h (if-holds b (is_punct Close t.token) _ (refuse t.token) h tt)
  behind-holds x (Bracket place ∷ k) e t h =
      text-holds b t (λ sign. Go (BeforeExpr x (Operands place sign e [] ∷ k))) (sign_of t.token) (λ sign. h)
  behind-holds x (Operands place sign first others ∷ k) e t h =
      if-holds b (is_sign sign.text t.token) _ _ h (if-holds b (is_punct Close t.token) _ (refuse t.token) h tt)
  behind-holds x (Default w ∷ k) e t h = behind-holds x k (with_default w e) t h
  behind-holds x (Operand s lead ∷ k) e t h = operand-holds x k s lead e t.token h
  behind-holds x (Second s r d ∷ k) e t h =
      if-holds b (is_punct Close t.token) (Go (with_atom x k s (Relate r d e))) (refuse t.token) h tt
  behind-holds x (Square s ∷ k) e t h = tt
  behind-holds x (Listing es ∷ k) e t h =
      if-holds b (is_punct Comma t.token) _ _ h (listed-holds x k (es ++ e ∷ []) t.token h)

  keyword-holds : (w : List ℕ) → IsFile b → StepHolds b (keyword w)
  keyword-holds w f =
      if-holds b (bytes_eq w (codes "op")) _ _ f
      (if-holds b (bytes_eq w (codes "kind")) _ _ f
      (if-holds b (bytes_eq w (codes "rule")) _ _ f
      (if-holds b (bytes_eq w (codes "subject")) _ _ f
      (if-holds b (bytes_eq w (codes "edit")) _ (Refuse Syntax) f tt))))

  flag-holds : (d : Declared) (w : List ℕ) → IsFile b → StepHolds b (step_flag d w)
  flag-holds d w f =
      if-holds b (bytes_eq w (codes "assoc")) _ _ f
      (if-holds b (bytes_eq w (codes "comm")) _ _ f
      (if-holds b (bytes_eq w (codes "one")) _ _ f (if-holds b (bytes_eq w (codes "infix")) _ (Refuse Syntax) f tt)))

  flags-hold : (d : Declared) (t : Placed) → IsFile b → StepHolds b (step_flags d t)
  flags-hold d t f =
      if-holds b (is_punct Semicolon t.token) (Emit (OpOf d.name d.least d.more d.flags)) _ f
      (text-holds b t (λ w. step_flag d w.text) (word_of t.token) (λ w. flag-holds d w.text f))

  member-holds : (name : Spot) (members : List Spot) (t : Placed) → IsFile b
      → StepHolds b (on_word t (λ w. Go (AfterMember name (members ++ w ∷ []))))
  member-holds name members t f =
      text-holds b t (λ w. Go (AfterMember name (members ++ w ∷ []))) (word_of t.token) (λ w. f)

  -- a number leads on
  number-holds : (t : Placed) (next : Spot → State) → ((w : Spot) → Holds b (next w)) → StepHolds b (on_number t next)
  number-holds t next h =
      text-holds b t (λ w. step_number next w) (word_of t.token)
      (λ w. if-holds b (is_number w.text) (Go (next w)) (Refuse Syntax) (h w) tt)

  further-holds : (d : Edited) (p : Position) (t : Token) → IsFile b → StepHolds b (step_further d p t)
  further-holds d (Root place) t f = tt
  further-holds d (Path first others) t f =
      if-holds b (is_punct Dot t) (Go (BeforeIndex d first others)) (refuse t) f tt

  brace-holds : (x : Within) (k : List Frame) (w : Wildcard) (n : Spot) (more : Bool) (t : Token) → HoldsExpr b x k
      → StepHolds b (step_brace x k w n more t)
  brace-holds x k w n more t h =
      if-holds b (is_punct CloseBrace t) (Go (AfterExpr x k (Counted w n more))) (refuse t) h tt

  -- a step from such a state leads to one
  pub step-holds : (at : State) (t : Placed) → Holds b at → StepHolds b (step_in limit at t)
  step-holds Top t h =
      if-holds b (is_end t.token) Finish _ h
      (text-holds b t (λ w. keyword w.text) (word_of t.token) (λ w. keyword-holds w.text h))
  step-holds AfterOp t h = text-holds b t (λ w. Go (AfterOpName w)) (word_of t.token) (λ w. h)
  step-holds (AfterOpName name) t h =
      number-holds t (λ w. AfterLeast name w) (λ w. h)
  step-holds (AfterLeast name least) t h =
      if-holds b (is_sign (codes "+") t.token) (Go (AfterFlags (declared name least true []))) _ h
      (flags-hold (declared name least false []) t h)
  step-holds (AfterFlags d) t h = flags-hold d t h
  step-holds (AfterInfix d) t h =
      text-holds b t (λ sign. Go (AfterFlags (with_flag d (Infixed sign)))) (sign_of t.token) (λ sign. h)
  step-holds AfterKind t h = text-holds b t (λ w. Go (AfterKindName w)) (word_of t.token) (λ w. h)
  step-holds (AfterKindName name) t h = if-holds b (is_punct Colon t.token) _ (refuse t.token) h tt
  step-holds (BeforeMember name members) t h = member-holds name members t h
  step-holds (AfterMember name members) t h =
      if-holds b (is_punct Semicolon t.token) (Emit (KindOf name members)) _ h (member-holds name members t h)
  step-holds (AfterRole role) t h =
      text-holds b t (λ w. Go (AfterName (record { role = role; name = w }))) (word_of t.token) (λ w. h)
  step-holds (AfterName x) t h = if-holds b (is_punct Colon t.token) _ (refuse t.token) (file-name b x h) tt
  step-holds (BeforeExpr x k) t h = expr-holds x k t h
  step-holds (AfterWord x k w) t h =
      if-holds b (is_punct Open t.token) _ _ (open-holds k (AfterOpen x k w) h) (behind-holds x k (Symbol w) t h)
  step-holds (AfterOpen x k w) t h = if-holds b (is_punct Close t.token) _ _ h (expr-holds x (Arguments w [] ∷ k) t h)
  step-holds (AfterWildcard x k w) t h =
      if-holds b (is_punct Colon t.token && is_dot w) (Go (BeforeExpr x (Default w ∷ k))) _ h
      (if-holds b (is_punct OpenBrace t.token && is_dot w) (Go (AfterBrace x k w)) _ h
      (behind-holds x k (Wild w) t h))
  step-holds (AfterExpr x k e) t h = behind-holds x k e t h
  step-holds (AfterDollar x k place) t h =
      text-holds b t (λ w. Go (AfterExpr x k (Variable (spot w.text place)))) (word_of t.token) (λ w. h)
  step-holds (BeforeLiteral x k v) t h =
      if-holds b (is_word (codes "not") t.token) (Go (BeforeBody x k (site v true))) _ h
      (body-holds x k (site v false) t h)
  step-holds (BeforeBody x k s) t h = body-holds x k s t h
  step-holds (BeforeOperand x k s lead) t h =
      if-holds b (is_punct Open t.token) _ (refuse t.token) (open-holds k (BeforeExpr x (Operand s lead ∷ k)) h) tt
  step-holds (BeforeName x k s p e) t h = text-holds b t (λ w. Go (BehindName x k s p e w)) (word_of t.token) (λ w. h)
  step-holds (BehindName x k s p e w) t h =
      if-holds b (is_punct Close t.token) (Go (with_atom x k s (Test p e w))) (refuse t.token) h tt
  step-holds (AfterAmount x k s a) t h =
      text-holds b t (λ sign. on_found (λ sense. Go (AfterSense x k s a sense)) (Refuse Syntax) (sense_of sign.text))
      (sign_of t.token) (λ sign. found-holds b _ (Refuse Syntax) (sense_of sign.text) (λ sense. h) tt)
  step-holds (AfterSense x k s a sense) t h =
      text-holds b t (λ w. step_amount x k s (OnRight a sense) w) (word_of t.token)
      (λ w. amount-holds x k s (OnRight a sense) w h)
  step-holds (AfterLiteral x k v l) t h = literal-holds x k v l t h
  step-holds (AfterBrace x k w) t h = number-holds t (λ n. AfterCount x k w n) (λ n. h)
  step-holds (AfterCount x k w n) t h =
      if-holds b (is_sign (codes "+") t.token) (Go (BeforeBrace x k w n true)) _ h
      (brace-holds x k w n false t.token h)
  step-holds (BeforeBrace x k w n more) t h = brace-holds x k w n more t.token h
  step-holds AfterEdit t h = text-holds b t (λ w. Go (AfterSubject w)) (word_of t.token) (λ w. h)
  step-holds (AfterSubject subject) t h = if-holds b (is_punct Colon t.token) _ (refuse t.token) h tt
  step-holds (BeforeChange d) t h =
      if-holds b (is_punct Dot t.token) (Go (AfterPosition d (Root t.place))) _ h
      (number-holds t (λ w. AfterPosition d (Path w [])) (λ w. h))
  step-holds (AfterPosition d p) t h =
      if-holds b (is_arrow t.token) (Go (AfterArrow d p)) _ h (further-holds d p t.token h)
  step-holds (BeforeIndex d first others) t h =
      number-holds t (λ w. AfterPosition d (Path first (others ++ w ∷ []))) (λ w. h)
  step-holds (AfterArrow d p) t h =
      if-holds b (is_punct OpenSquare t.token) _ _ (open-holds [] (AfterSquare d p) h)
      (expr-holds (InChange d p) [] t (file-change b d p h))
  step-holds (AfterSquare d p) t h =
      if-holds b (is_punct CloseSquare t.token) (Go (AfterChange d (change p (syntax.Listed (trees []))))) _ h
      (expr-holds (InChange d p) (Listing [] ∷ []) t (file-list b d p h))
  step-holds (AfterChange d c) t h = changes-hold d c t.token h
