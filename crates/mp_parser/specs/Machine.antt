-- Reading token by token: a state is what is read of a statement, and each token leads on or is refused.
use Rattle.std.specs.Prelude.{ℕ, suc, Bool, true, false, ◌&&◌, ◌==◌, List, [], ◌∷◌, ◌++◌, length, Option, Some, None}
use Rattle.std.specs.Prelude.{Result, Ok, Err, nat_le, if◌then◌else◌, codes}
use Rattle.std.specs.Str.{bytes_eq}
use Rattle.std.specs.List.{list_all}
use Rattle.std.specs.Char.{is_ascii_digit}
use Rattle.mp_parser.specs.declared.limits.TheConstants.{MAX_OPEN}
use Rattle.mp_parser.specs.declared.place.Place.{Place}
use Rattle.mp_parser.specs.declared.token.Punct.{Punct}
use Rattle.mp_parser.specs.declared.token.Punct.TheVariants.{Open, Close, OpenSquare, CloseSquare, OpenBrace}
use Rattle.mp_parser.specs.declared.token.Punct.TheVariants.{CloseBrace, Comma, Semicolon, Colon, Dot, Dollar}
use Rattle.mp_parser.specs.declared.fault.FaultKind.{FaultKind}
use Rattle.mp_parser.specs.declared.fault.FaultKind.TheVariants.{Syntax, TooDeep, BadByte, TooMany}
use Rattle.mp_parser.specs.declared.fault.Fault.{Fault}
use Rattle.mp_parser.specs.Tokens as tokens
use Rattle.mp_parser.specs.Tokens.{Token, Word, Sign, Arrow, Punctuation, Long, Bad, End, Placed}
use Rattle.mp_parser.specs.declared.condition_tree.Measure.{Measure}
use Rattle.mp_parser.specs.declared.condition_tree.Measure.TheVariants.{Count, Size}
use Rattle.mp_parser.specs.declared.condition_tree.Sense.{Sense}
use Rattle.mp_parser.specs.declared.condition_tree.Sense.TheVariants.{Lt, Le, Gt, Ge, Eq, Ne}
use Rattle.mp_parser.specs.declared.condition_tree.Relation.{Relation}
use Rattle.mp_parser.specs.declared.condition_tree.Relation.TheVariants.{Same, Less, Free}
use Rattle.mp_parser.specs.declared.condition_tree.Property.{Property}
use Rattle.mp_parser.specs.declared.condition_tree.Property.TheVariants as properties
use Rattle.mp_parser.specs.Syntax.{Spot, Wildcard, Tree, Symbol, Apply, InfixOf, Wild, Counted, Optional, Variable}
use Rattle.mp_parser.specs.Syntax.{more_trees, trees, Position, Root, Path, Replacement, Change, Amount, Number}
use Rattle.mp_parser.specs.Syntax.{Measured, Atom, Compare, Relate, Test, Literal, AtomOf, Bracketed, Literals}
use Rattle.mp_parser.specs.Syntax.{literals, Condition, condition, Flag, Assoc, Comm, One, Infixed, Statement, OpOf}
use Rattle.mp_parser.specs.Syntax.{KindOf, RuleOf, SubjectOf, EditOf, measure_word, sense_sign, relation_word}
use Rattle.mp_parser.specs.Syntax.{property_word}
use Rattle.mp_parser.specs.Syntax as syntax

-- ---- tests on tokens

-- the same punctuation character
abbrev pub same_punct : Punct → Punct → Bool
same_punct Open Open = true
same_punct Close Close = true
same_punct OpenSquare OpenSquare = true
same_punct CloseSquare CloseSquare = true
same_punct OpenBrace OpenBrace = true
same_punct CloseBrace CloseBrace = true
same_punct Comma Comma = true
same_punct Semicolon Semicolon = true
same_punct Colon Colon = true
same_punct Dot Dot = true
same_punct Dollar Dollar = true
same_punct _ _ = false

-- the token is this punctuation character
abbrev pub is_punct : Punct → Token → Bool
is_punct p (Punctuation q) = same_punct p q
is_punct p _ = false

-- the token is the arrow
abbrev pub is_arrow : Token → Bool
is_arrow Arrow = true
is_arrow _ = false

-- the token is the end
abbrev pub is_end : Token → Bool
is_end End = true
is_end _ = false

-- the text of a word
abbrev pub word_of : Token → Option (List ℕ)
word_of (Word w) = Some w
word_of _ = None

-- the text of a sign
abbrev pub sign_of : Token → Option (List ℕ)
sign_of (Sign s) = Some s
sign_of _ = None

-- the token is this sign
abbrev pub is_sign : List ℕ → Token → Bool
is_sign text (Sign s) = bytes_eq s text
is_sign text _ = false

-- the token is this word
abbrev pub is_word : List ℕ → Token → Bool
is_word text (Word w) = bytes_eq w text
is_word text _ = false

-- the wildcard that a token at this place is
abbrev pub wildcard_at : Token → Place → Option Wildcard
wildcard_at (tokens.Wildcard name marks kind) place =
    Some (record { name = name; marks = marks; kind = kind; place = place })
wildcard_at _ place = None

-- the wildcard has one underscore and no kind
abbrev pub is_dot : Wildcard → Bool
is_dot w = (w.marks == 1) && (length w.kind == 0)

-- digits alone
abbrev pub is_number : List ℕ → Bool
is_number w = list_all is_ascii_digit w

-- ---- words and signs of conditions

-- the measure of this word
abbrev pub measure_of : List ℕ → Option Measure
measure_of w =
    if bytes_eq w (measure_word Count) then Some Count
    else (if bytes_eq w (measure_word Size) then Some Size
    else None)

-- the comparison of this sign
abbrev pub sense_of : List ℕ → Option Sense
sense_of s =
    if bytes_eq s (sense_sign Lt) then Some Lt
    else (if bytes_eq s (sense_sign Le) then Some Le
    else (if bytes_eq s (sense_sign Gt) then Some Gt
    else (if bytes_eq s (sense_sign Ge) then Some Ge
    else (if bytes_eq s (sense_sign Eq) then Some Eq
    else (if bytes_eq s (sense_sign Ne) then Some Ne
    else None)))))

-- the relation of this word
abbrev pub relation_of : List ℕ → Option Relation
relation_of w =
    if bytes_eq w (relation_word Same) then Some Same
    else (if bytes_eq w (relation_word Less) then Some Less
    else (if bytes_eq w (relation_word Free) then Some Free
    else None))

-- the property of this word
abbrev pub property_of : List ℕ → Option Property
property_of w =
    if bytes_eq w (property_word properties.Kind) then Some properties.Kind
    else (if bytes_eq w (property_word properties.Head) then Some properties.Head
    else None)

-- the relation whose word the token is
abbrev pub relation_held : Token → Option Relation
relation_held (Word w) = relation_of w
relation_held _ = None

-- the property whose word the token is
abbrev pub property_held : Token → Option Property
property_held (Word w) = property_of w
property_held _ = None

-- ---- states

-- the statements that hold an expression behind a name
pub data Role : Type 0 where
  OfRule : Role
  OfSubject : Role

-- what is read of a condition before a literal: the alternatives before its own, and the literals before it in its own
pub record Level : Type 0 where
  pub alternatives : List Literals
  pub literals : List Literal

-- where an atom or a square bracket stands: what is read of its condition before it, and whether `not` stands before it
pub record Site : Type 0 where
  pub level : Level
  pub negated : Bool

-- a side of a comparison; of the second one with what stands before it
pub data Side : Type 0 where
  OnLeft : Side
  OnRight : Amount → Sense → Side

-- a word of an atom that a bracket follows: of a measure on a side of a comparison, of a relation, or of a property
pub data Lead : Type 0 where
  OfMeasure : Side → Measure → Lead
  OfRelation : Relation → Lead
  OfProperty : Property → Lead

-- what an expression or a condition stands in: an open bracket of an application, with its name and arguments so far;
-- one of an infix expression, before its first sign, or behind it with the sign, the first operand and the others so
-- far; a wildcard whose default it is, which opens no bracket; an open bracket of an atom, with the site and the word
-- of the atom, or before the second operand of a relation also with the first one; or an open square bracket, with its
-- site; or that of a list of an edit, with its expressions so far
pub data Frame : Type 0 where
  Arguments : Spot → List Tree → Frame
  Bracket : Place → Frame
  Operands : Place → Spot → Tree → List Tree → Frame
  Default : Wildcard → Frame
  Operand : Site → Lead → Frame
  Second : Site → Relation → Tree → Frame
  Square : Site → Frame
  Listing : List Tree → Frame

-- an operation: its name, its number, whether it takes more arguments, and its flags so far
pub record Declared : Type 0 where
  pub name : Spot
  pub least : Spot
  pub more : Bool
  pub flags : List Flag

-- the statement that an expression is in
pub record Heading : Type 0 where
  pub role : Role
  pub name : Spot

-- the heading of an expression
abbrev pub heading : Role → Spot → Heading
heading role name = record { role = role; name = name }

-- an edit: the name of its subject, and its changes so far
pub record Edited : Type 0 where
  pub subject : Spot
  pub changes : List Change

-- what an expression or a condition is in: an expression of a statement, an expression that is the whole text, the
-- template of a rule with its name and pattern, the condition of a rule with these and perhaps its template, a
-- condition
-- that is the whole text, or a change of an edit behind its position
pub data Within : Type 0 where
  InStatement : Heading → Within
  Alone : Within
  InTemplate : Spot → Tree → Within
  InCondition : Spot → Tree → Option Tree → Within
  ConditionAlone : Within
  InChange : Edited → Position → Within

-- what is read of a statement, or of an expression or a condition alone; the innermost of what an expression or a
-- condition stands in comes first
pub data State : Type 0 where
  Top : State
  AfterOp : State
  AfterOpName : Spot → State
  AfterLeast : Spot → Spot → State
  AfterFlags : Declared → State
  AfterInfix : Declared → State
  AfterKind : State
  AfterKindName : Spot → State
  BeforeMember : Spot → List Spot → State
  AfterMember : Spot → List Spot → State
  AfterRole : Role → State
  AfterName : Heading → State
  BeforeExpr : Within → List Frame → State
  AfterWord : Within → List Frame → Spot → State
  AfterOpen : Within → List Frame → Spot → State
  AfterWildcard : Within → List Frame → Wildcard → State
  AfterExpr : Within → List Frame → Tree → State
  AfterDollar : Within → List Frame → Place → State
  AfterBrace : Within → List Frame → Wildcard → State
  AfterCount : Within → List Frame → Wildcard → Spot → State
  BeforeBrace : Within → List Frame → Wildcard → Spot → Bool → State
  BeforeLiteral : Within → List Frame → Level → State
  BeforeBody : Within → List Frame → Site → State
  BeforeOperand : Within → List Frame → Site → Lead → State
  BeforeName : Within → List Frame → Site → Property → Tree → State
  BehindName : Within → List Frame → Site → Property → Tree → Spot → State
  AfterAmount : Within → List Frame → Site → Amount → State
  AfterSense : Within → List Frame → Site → Amount → Sense → State
  AfterLiteral : Within → List Frame → Level → Literal → State
  AfterEdit : State
  AfterSubject : Spot → State
  BeforeChange : Edited → State
  AfterPosition : Edited → Position → State
  BeforeIndex : Edited → Spot → List Spot → State
  AfterArrow : Edited → Position → State
  AfterSquare : Edited → Position → State
  AfterChange : Edited → Change → State

-- an expression or a condition that is the whole text
pub data Single : Type 0 where
  SingleExpr : Tree → Single
  SingleCondition : Condition → Single

-- what a token does: it leads on, ends a statement, is refused, ends the file, or ends an expression or a condition
-- alone
pub data Step : Type 0 where
  Go : State → Step
  Emit : Statement → Step
  Refuse : FaultKind → Step
  Finish : Step
  Ends : Single → Step

-- ---- steps

-- why a token is refused where the grammar has another one
abbrev pub refusal : Token → FaultKind
refusal Bad = BadByte
refusal Long = TooMany
refusal _ = Syntax

-- the token is refused
abbrev pub refuse : Token → Step
refuse t = Refuse (refusal t)

-- the text at the place
abbrev pub spot : List ℕ → Place → Spot
spot text place = record { text = text; place = place }

-- only this punctuation character leads on
abbrev pub on_punct : Punct → Token → Step → Step
on_punct p t next = if is_punct p t then next else refuse t

-- only a token with a text leads on
abbrev pub on_text : Placed → (Spot → Step) → Option (List ℕ) → Step
on_text t next (Some w) = next (spot w t.place)
on_text t next None = refuse t.token

-- only the arrow leads on
abbrev pub on_arrow : Token → Step → Step
on_arrow t next = if is_arrow t then next else refuse t

-- only a word leads on
abbrev pub on_word : Placed → (Spot → Step) → Step
on_word t next = on_text t next (word_of t.token)

-- only a sign leads on
abbrev pub on_sign : Placed → (Spot → Step) → Step
on_sign t next = on_text t next (sign_of t.token)

-- only this word leads on
abbrev pub on_fixed : List ℕ → Token → Step → Step
on_fixed text t next = if is_word text t then next else refuse t

-- what is found leads on, and without it the other step is taken
abbrev pub on_found : {A : Type 0} → (A → Step) → Step → Option A → Step
on_found next other (Some a) = next a
on_found next other None = other

-- which statement begins with this word
abbrev pub keyword : List ℕ → Step
keyword w =
    if bytes_eq w (codes "op") then Go AfterOp
    else (if bytes_eq w (codes "kind") then Go AfterKind
    else (if bytes_eq w (codes "rule") then Go (AfterRole OfRule)
    else (if bytes_eq w (codes "subject") then Go (AfterRole OfSubject)
    else (if bytes_eq w (codes "edit") then Go AfterEdit
    else Refuse Syntax))))

-- between statements
abbrev pub step_top : Placed → Step
step_top t = if is_end t.token then Finish else on_word t (λ w. keyword w.text)

-- a word that is a number leads on
abbrev pub step_number : (Spot → State) → Spot → Step
step_number next w = if is_number w.text then Go (next w) else Refuse Syntax

-- only a number leads on
abbrev pub on_number : Placed → (Spot → State) → Step
on_number t next = on_word t (λ w. step_number next w)

-- an operation with these flags so far
abbrev pub declared : Spot → Spot → Bool → List Flag → Declared
declared name least more flags = record { name = name; least = least; more = more; flags = flags }

-- one flag more
abbrev pub with_flag : Declared → Flag → Declared
with_flag d f = declared d.name d.least d.more (d.flags ++ f ∷ [])

-- which flag begins with this word
abbrev pub step_flag : Declared → List ℕ → Step
step_flag d w =
    if bytes_eq w (codes "assoc") then Go (AfterFlags (with_flag d Assoc))
    else (if bytes_eq w (codes "comm") then Go (AfterFlags (with_flag d Comm))
    else (if bytes_eq w (codes "one") then Go (AfterFlags (with_flag d One))
    else (if bytes_eq w (codes "infix") then Go (AfterInfix d)
    else Refuse Syntax)))

-- the token behind the number or a flag
abbrev pub step_flags : Declared → Placed → Step
step_flags d t =
    if is_punct Semicolon t.token then Emit (OpOf d.name d.least d.more d.flags)
    else on_word t (λ w. step_flag d w.text)

-- the token behind a member of a kind
abbrev pub step_members : Spot → List Spot → Placed → Step
step_members name members t =
    if is_punct Semicolon t.token then Emit (KindOf name members)
    else on_word t (λ w. Go (AfterMember name (members ++ w ∷ [])))

-- a wildcard, or the `$` of a variable
abbrev pub step_wildcard : Within → List Frame → Placed → Option Wildcard → Step
step_wildcard x k t (Some w) = Go (AfterWildcard x k w)
step_wildcard x k t None = if is_punct Dollar t.token then Go (AfterDollar x k t.place) else refuse t.token

-- how many brackets stand open
abbrev pub open_count : List Frame → ℕ
open_count [] = 0
open_count (Default w ∷ k) = open_count k
open_count (f ∷ k) = suc (open_count k)

-- the wildcard with this default; before a wildcard that has a default already it is the first of the chain
abbrev pub with_default : Wildcard → Tree → Tree
with_default w (Optional v others default) = Optional w (v ∷ others) default
with_default w e = Optional w [] e

-- a bracket leads on, where fewer than limit are open
abbrev pub step_open : ℕ → List Frame → State → Step
step_open limit k next = if nat_le limit (open_count k) then Refuse TooDeep else Go next

-- the first token of an expression, where at most limit brackets may stand open
abbrev pub step_expr : ℕ → Within → List Frame → Placed → Option (List ℕ) → Step
step_expr limit x k t (Some w) = Go (AfterWord x k (spot w t.place))
step_expr limit x k t None =
    if is_punct Open t.token then step_open limit k (BeforeExpr x (Bracket t.place ∷ k))
    else step_wildcard x k t (wildcard_at t.token t.place)

-- before the first literal of a condition
abbrev pub no_level : Level
no_level = record { alternatives = []; literals = [] }

-- the token behind the pattern of a rule, or behind its template
abbrev pub step_rule : Spot → Tree → Option Tree → Token → Step
step_rule name e template t =
    if is_punct Semicolon t then Emit (RuleOf name e template None)
    else on_fixed (codes "if") t (Go (BeforeLiteral (InCondition name e template) [] no_level))

-- the token behind the expression of a statement
abbrev pub step_role : Role → Spot → Tree → Token → Step
step_role OfRule name e t = if is_arrow t then Go (BeforeExpr (InTemplate name e) []) else step_rule name e None t
step_role OfSubject name e t = on_punct Semicolon t (Emit (SubjectOf name e))

-- an edit with these changes so far
abbrev pub edited : Spot → List Change → Edited
edited subject changes = record { subject = subject; changes = changes }

-- what stands at a position then
abbrev pub change : Position → Replacement → Change
change p r = record { position = p; terms = r }

-- one change more
abbrev pub with_change : Edited → Change → Edited
with_change d c = edited d.subject (d.changes ++ c ∷ [])

-- the token behind a change
abbrev pub step_changes : Edited → Change → Token → Step
step_changes d c t =
    if is_punct Comma t then Go (BeforeChange (with_change d c))
    else on_punct Semicolon t (Emit (EditOf d.subject (d.changes ++ c ∷ [])))

-- the token behind the last expression of a list; a list stands only in a change, in no other bracket
abbrev pub step_listed : Within → List Frame → List Tree → Token → Step
step_listed (InChange d p) [] es t = on_punct CloseSquare t (Go (AfterChange d (change p (syntax.Listed (trees es)))))
step_listed x k es t = refuse t

-- the token behind an expression in no bracket; no expression stands in a place of a condition so
abbrev pub step_end : Within → Tree → Placed → Step
step_end (InStatement h) e t = step_role h.role h.name e t.token
step_end Alone e t = if is_end t.token then Ends (SingleExpr e) else refuse t.token
step_end (InTemplate name pattern) e t = step_rule name pattern (Some e) t.token
step_end (InCondition name pattern template) e t = refuse t.token
step_end ConditionAlone e t = refuse t.token
step_end (InChange d p) e t = step_changes d (change p (syntax.Single e)) t.token

-- the atom at its site is read
abbrev pub with_atom : Within → List Frame → Site → Atom → State
with_atom x k s a = AfterLiteral x k s.level (AtomOf s.negated a)

-- the amount on this side is read
abbrev pub with_amount : Within → List Frame → Site → Side → Amount → State
with_amount x k s OnLeft a = AfterAmount x k s a
with_amount x k s (OnRight b sense) a = with_atom x k s (Compare b sense a)

-- the token behind the first operand of an atom
abbrev pub step_operand : Within → List Frame → Site → Lead → Tree → Token → Step
step_operand x k s (OfMeasure side m) e t = on_punct Close t (Go (with_amount x k s side (Measured m e)))
step_operand x k s (OfRelation r) e t = on_punct Comma t (Go (BeforeExpr x (Second s r e ∷ k)))
step_operand x k s (OfProperty p) e t = on_punct Comma t (Go (BeforeName x k s p e))

-- the token behind an expression
abbrev pub step_behind : Within → List Frame → Tree → Placed → Step
step_behind x [] e t = step_end x e t
step_behind x (Arguments name args ∷ k) e t =
    if is_punct Comma t.token then Go (BeforeExpr x (Arguments name (args ++ e ∷ []) ∷ k))
    else on_punct Close t.token (Go (AfterExpr x k (Apply name (trees (args ++ e ∷ [])))))
step_behind x (Bracket place ∷ k) e t = on_sign t (λ sign. Go (BeforeExpr x (Operands place sign e [] ∷ k)))
step_behind x (Operands place sign first others ∷ k) e t =
    if is_sign sign.text t.token then Go (BeforeExpr x (Operands place sign first (others ++ e ∷ []) ∷ k))
    else on_punct Close t.token (Go (AfterExpr x k (InfixOf place sign (more_trees first (trees (others ++ e ∷ []))))))
step_behind x (Default w ∷ k) e t = step_behind x k (with_default w e) t
step_behind x (Operand s lead ∷ k) e t = step_operand x k s lead e t.token
step_behind x (Second s r d ∷ k) e t = on_punct Close t.token (Go (with_atom x k s (Relate r d e)))
step_behind x (Square s ∷ k) e t = refuse t.token
step_behind x (Listing es ∷ k) e t =
    if is_punct Comma t.token then Go (BeforeExpr x (Listing (es ++ e ∷ []) ∷ k))
    else step_listed x k (es ++ e ∷ []) t.token

-- ---- steps over conditions

-- a word that begins an amount on this side
abbrev pub step_amount : Within → List Frame → Site → Side → Spot → Step
step_amount x k s side w =
    if is_number w.text then Go (with_amount x k s side (Number w))
    else on_found (λ m. Go (BeforeOperand x k s (OfMeasure side m))) (Refuse Syntax) (measure_of w.text)

-- a word that begins an atom
abbrev pub step_atom : Within → List Frame → Site → Spot → Step
step_atom x k s w =
    on_found (λ r. Go (BeforeOperand x k s (OfRelation r)))
    (on_found (λ p. Go (BeforeOperand x k s (OfProperty p))) (step_amount x k s OnLeft w) (property_of w.text))
    (relation_of w.text)

-- the site of a literal
abbrev pub site : Level → Bool → Site
site v negated = record { level = v; negated = negated }

-- the first token of an atom, or a square bracket
abbrev pub step_body : ℕ → Within → List Frame → Site → Placed → Step
step_body limit x k s t =
    if is_punct OpenSquare t.token then step_open limit k (BeforeLiteral x (Square s ∷ k) no_level)
    else on_word t (λ w. step_atom x k s w)

-- behind this literal, with another literal of the same alternative
abbrev pub next_literal : Level → Literal → Level
next_literal v l = record { alternatives = v.alternatives; literals = v.literals ++ l ∷ [] }

-- the alternatives up to this literal
abbrev pub all_alternatives : Level → Literal → List Literals
all_alternatives v l = v.alternatives ++ literals (v.literals ++ l ∷ []) ∷ []

-- behind this literal, with another alternative
abbrev pub next_alternative : Level → Literal → Level
next_alternative v l = record { alternatives = all_alternatives v l; literals = [] }

-- the token behind a condition in no square bracket; no condition stands in a place of an expression so
abbrev pub step_last : Within → Condition → Placed → Step
step_last (InStatement h) c t = refuse t.token
step_last Alone c t = refuse t.token
step_last (InTemplate name pattern) c t = refuse t.token
step_last (InCondition name pattern template) c t =
    on_punct Semicolon t.token (Emit (RuleOf name pattern template (Some c)))
step_last ConditionAlone c t = if is_end t.token then Ends (SingleCondition c) else refuse t.token
step_last (InChange d p) c t = refuse t.token

-- the token behind a condition; no condition stands directly in a bracket of an expression or an atom
abbrev pub step_whole : Within → List Frame → Condition → Placed → Step
step_whole x [] c t = step_last x c t
step_whole x (Square s ∷ k) c t = on_punct CloseSquare t.token (Go (AfterLiteral x k s.level (Bracketed s.negated c)))
step_whole x (f ∷ k) c t = refuse t.token

-- ---- steps over counts and edits

-- the closing brace behind the count of a wildcard
abbrev pub step_brace : Within → List Frame → Wildcard → Spot → Bool → Token → Step
step_brace x k w count more t = on_punct CloseBrace t (Go (AfterExpr x k (Counted w count more)))

-- the first token of a position
abbrev pub step_position : Edited → Placed → Step
step_position d t =
    if is_punct Dot t.token then Go (AfterPosition d (Root t.place))
    else on_number t (λ w. AfterPosition d (Path w []))

-- the token behind a position that isn't the arrow: the dot before a further number
abbrev pub step_further : Edited → Position → Token → Step
step_further d (Root place) t = refuse t
step_further d (Path first others) t = on_punct Dot t (Go (BeforeIndex d first others))

-- ---- all steps

-- what a token does, where at most limit brackets may stand open
abbrev pub step_in : ℕ → State → Placed → Step
step_in limit Top t = step_top t
step_in limit AfterOp t = on_word t (λ w. Go (AfterOpName w))
step_in limit (AfterOpName name) t = on_number t (λ w. AfterLeast name w)
step_in limit (AfterLeast name least) t =
    if is_sign (codes "+") t.token then Go (AfterFlags (declared name least true []))
    else step_flags (declared name least false []) t
step_in limit (AfterFlags d) t = step_flags d t
step_in limit (AfterInfix d) t = on_sign t (λ sign. Go (AfterFlags (with_flag d (Infixed sign))))
step_in limit AfterKind t = on_word t (λ w. Go (AfterKindName w))
step_in limit (AfterKindName name) t = on_punct Colon t.token (Go (BeforeMember name []))
step_in limit (BeforeMember name members) t = on_word t (λ w. Go (AfterMember name (members ++ w ∷ [])))
step_in limit (AfterMember name members) t = step_members name members t
step_in limit (AfterRole role) t = on_word t (λ w. Go (AfterName (record { role = role; name = w })))
step_in limit (AfterName h) t = on_punct Colon t.token (Go (BeforeExpr (InStatement h) []))
step_in limit (BeforeExpr x k) t = step_expr limit x k t (word_of t.token)
step_in limit (AfterWord x k w) t =
    if is_punct Open t.token then step_open limit k (AfterOpen x k w)
    else step_behind x k (Symbol w) t
step_in limit (AfterOpen x k w) t =
    if is_punct Close t.token then Go (AfterExpr x k (Apply w (trees [])))
    else step_expr limit x (Arguments w [] ∷ k) t (word_of t.token)
step_in limit (AfterWildcard x k w) t =
    if is_punct Colon t.token && is_dot w then Go (BeforeExpr x (Default w ∷ k))
    else (if is_punct OpenBrace t.token && is_dot w then Go (AfterBrace x k w)
    else step_behind x k (Wild w) t)
step_in limit (AfterExpr x k e) t = step_behind x k e t
step_in limit (AfterDollar x k place) t = on_word t (λ w. Go (AfterExpr x k (Variable (spot w.text place))))
step_in limit (BeforeLiteral x k v) t =
    if is_word (codes "not") t.token then Go (BeforeBody x k (site v true))
    else step_body limit x k (site v false) t
step_in limit (BeforeBody x k s) t = step_body limit x k s t
step_in limit (BeforeOperand x k s lead) t =
    if is_punct Open t.token then step_open limit k (BeforeExpr x (Operand s lead ∷ k)) else refuse t.token
step_in limit (BeforeName x k s p e) t = on_word t (λ w. Go (BehindName x k s p e w))
step_in limit (BehindName x k s p e w) t = on_punct Close t.token (Go (with_atom x k s (Test p e w)))
step_in limit (AfterAmount x k s a) t =
    on_sign t (λ sign. on_found (λ sense. Go (AfterSense x k s a sense)) (Refuse Syntax) (sense_of sign.text))
step_in limit (AfterSense x k s a sense) t = on_word t (λ w. step_amount x k s (OnRight a sense) w)
step_in limit (AfterLiteral x k v l) t =
    if is_word (codes "and") t.token then Go (BeforeLiteral x k (next_literal v l))
    else (if is_word (codes "or") t.token then Go (BeforeLiteral x k (next_alternative v l))
    else step_whole x k (condition (all_alternatives v l)) t)
step_in limit (AfterBrace x k w) t = on_number t (λ count. AfterCount x k w count)
step_in limit (AfterCount x k w count) t =
    if is_sign (codes "+") t.token then Go (BeforeBrace x k w count true) else step_brace x k w count false t.token
step_in limit (BeforeBrace x k w count more) t = step_brace x k w count more t.token
step_in limit AfterEdit t = on_word t (λ w. Go (AfterSubject w))
step_in limit (AfterSubject subject) t = on_punct Colon t.token (Go (BeforeChange (edited subject [])))
step_in limit (BeforeChange d) t = step_position d t
step_in limit (AfterPosition d p) t =
    if is_arrow t.token then Go (AfterArrow d p) else step_further d p t.token
step_in limit (BeforeIndex d first others) t = on_number t (λ w. AfterPosition d (Path first (others ++ w ∷ [])))
step_in limit (AfterArrow d p) t =
    if is_punct OpenSquare t.token then step_open limit [] (AfterSquare d p)
    else step_expr limit (InChange d p) [] t (word_of t.token)
step_in limit (AfterSquare d p) t =
    if is_punct CloseSquare t.token then Go (AfterChange d (change p (syntax.Listed (trees []))))
    else step_expr limit (InChange d p) (Listing [] ∷ []) t (word_of t.token)
step_in limit (AfterChange d c) t = step_changes d c t.token

-- what a token does, where at most 100 brackets may stand open
abbrev pub step : State → Placed → Step
step = step_in MAX_OPEN

-- ---- runs

-- what is read: statements, or behind none of them an expression or a condition alone
pub record Parsed : Type 0 where
  pub statements : List Statement
  pub single : Option Single

-- these statements, and perhaps an expression or a condition
abbrev pub parsed : List Statement → Option Single → Parsed
parsed statements single = record { statements = statements; single = single }

-- a fault that no text has, for what the machine never meets, as a list of tokens that lacks its end
abbrev pub no_fault : Fault
no_fault = record { kind = Syntax; place = record { line = 0; column = 0 } }

-- what comes of a step, where others reads the tokens behind it
abbrev pub after_step : List Statement → Place → (List Statement → State → Result Parsed Fault) → Step
    → Result Parsed Fault
after_step done place others (Go at) = others done at
after_step done place others (Emit s) = others (done ++ s ∷ []) Top
after_step done place others (Refuse kind) = Err (record { kind = kind; place = place })
after_step done place others Finish = Ok (parsed done None)
after_step done place others (Ends s) = Ok (parsed done (Some s))

-- the statements that are done and what the tokens spell from this state on, or the first fault
abbrev pub run_in : ℕ → List Statement → State → List Placed → Result Parsed Fault
run_in limit done at [] = Err no_fault
run_in limit done at (t ∷ ts) = after_step done t.place (λ d a. run_in limit d a ts) (step_in limit at t)

-- the same, where at most 100 brackets may stand open
abbrev pub run : List Statement → State → List Placed → Result Parsed Fault
run = run_in MAX_OPEN
