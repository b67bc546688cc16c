-- The syntax trees of a rule file, and the grammar: how statements are spelled by tokens.
use Rattle.std.specs.Prelude.{◌≡◌, ◌≢◌, ◌<◌, ◌≤◌, Bool, true, false, ℕ, zero, suc, List, [], ◌∷◌, ◌++◌, Option, Some}
use Rattle.std.specs.Prelude.{None, map, codes}
use Rattle.std.specs.Char.{is_ascii_digit}
use Rattle.std.specs.List.{flat_map, list_all}
use Rattle.mp_parser.specs.declared.limits.TheConstants.{MAX_OPEN}
use Rattle.mp_parser.specs.declared.place.Place.{Place}
use Rattle.mp_parser.specs.declared.token.Punct.{Punct}
use Rattle.mp_parser.specs.declared.token.Punct.TheVariants.{Open, Close, OpenSquare, CloseSquare, OpenBrace}
use Rattle.mp_parser.specs.declared.token.Punct.TheVariants.{CloseBrace, Comma, Semicolon, Colon, Dot, Dollar}
use Rattle.mp_parser.specs.declared.condition_tree.Measure.{Measure}
use Rattle.mp_parser.specs.declared.condition_tree.Measure.TheVariants.{Count, Size}
use Rattle.mp_parser.specs.declared.condition_tree.Sense.{Sense}
use Rattle.mp_parser.specs.declared.condition_tree.Sense.TheVariants.{Lt, Le, Gt, Ge, Eq, Ne}
use Rattle.mp_parser.specs.declared.condition_tree.Relation.{Relation}
use Rattle.mp_parser.specs.declared.condition_tree.Relation.TheVariants.{Same, Less, Free}
use Rattle.mp_parser.specs.declared.condition_tree.Property.{Property}
use Rattle.mp_parser.specs.declared.condition_tree.Property.TheVariants as properties
use Rattle.mp_parser.specs.Tokens as tokens
use Rattle.mp_parser.specs.Tokens.{Token, Word, Sign, Arrow, Punctuation, Placed, Tokens, first_place, IsWord}
use Rattle.mp_parser.specs.Tokens.{IsShort, IsSign}

-- ---- trees

-- a piece of the file and where it stands
pub record Spot : Type 0 where
  pub text : List ℕ
  pub place : Place

-- a wildcard: its name, its number of underscores and its kind, which are empty where there are none
pub record Wildcard : Type 0 where
  pub name : List ℕ
  pub marks : ℕ
  pub kind : List ℕ
  pub place : Place

-- expressions and lists of them; an infix one has the place of its bracket, its sign at the first place, and all
-- operands; a counted one has its wildcard, its count, and whether a `+` stands behind it; an optional one has its
-- wildcard, further wildcards where several stand in a chain, and the default of the last; a variable has the place of
-- its `$`
mutual
  pub data Tree : Type 0 where
    Symbol : Spot → Tree
    Apply : Spot → Trees → Tree
    InfixOf : Place → Spot → Trees → Tree
    Wild : Wildcard → Tree
    Counted : Wildcard → Spot → Bool → Tree
    Optional : Wildcard → List Wildcard → Tree → Tree
    Variable : Spot → Tree

  pub data Trees : Type 0 where
    no_trees : Trees
    more_trees : Tree → Trees → Trees

-- the trees of a list
abbrev pub trees : List Tree → Trees
trees [] = no_trees
trees (t ∷ ts) = more_trees t (trees ts)

-- the list of trees
abbrev pub tree_list : Trees → List Tree
tree_list no_trees = []
tree_list (more_trees t ts) = t ∷ tree_list ts

-- assoc, comm, one, infix SIGN
pub data Flag : Type 0 where
  Assoc : Flag
  Comm : Flag
  One : Flag
  Infixed : Spot → Flag

-- a side of a comparison: a number, or what is counted of an operand
pub data Amount : Type 0 where
  Number : Spot → Amount
  Measured : Measure → Tree → Amount

-- two amounts compared, what is asked of two operands, or of an operand beside a name
pub data Atom : Type 0 where
  Compare : Amount → Sense → Amount → Atom
  Relate : Relation → Tree → Tree → Atom
  Test : Property → Tree → Spot → Atom

-- a literal is an atom or a condition in square brackets, each perhaps negated; a condition is a list of alternatives,
-- each a list of literals
mutual
  pub data Literal : Type 0 where
    AtomOf : Bool → Atom → Literal
    Bracketed : Bool → Condition → Literal

  pub data Literals : Type 0 where
    no_literals : Literals
    more_literals : Literal → Literals → Literals

  pub data Condition : Type 0 where
    no_alternatives : Condition
    more_alternatives : Literals → Condition → Condition

-- the literals of a list
abbrev pub literals : List Literal → Literals
literals [] = no_literals
literals (l ∷ ls) = more_literals l (literals ls)

-- the list of literals
abbrev pub literal_list : Literals → List Literal
literal_list no_literals = []
literal_list (more_literals l ls) = l ∷ literal_list ls

-- the condition of a list of alternatives
abbrev pub condition : List Literals → Condition
condition [] = no_alternatives
condition (a ∷ others) = more_alternatives a (condition others)

-- the list of alternatives
abbrev pub alternative_list : Condition → List Literals
alternative_list no_alternatives = []
alternative_list (more_alternatives a c) = a ∷ alternative_list c

-- where a term is replaced: the root, with the place of its `.`, or a path of numbers, of which there is a first one
pub data Position : Type 0 where
  Root : Place → Position
  Path : Spot → List Spot → Position

-- what stands there then: an expression, or expressions in square brackets
pub data Replacement : Type 0 where
  Single : Tree → Replacement
  Listed : Trees → Replacement

-- a position and what stands there then
pub record Change : Type 0 where
  pub position : Position
  pub terms : Replacement

-- op NAME LEAST[+] FLAG ..; kind NAME: MEMBER ..; rule NAME: PATTERN[ -> TEMPLATE][ if CONDITION]; subject NAME: TERM;
-- edit SUBJECT: CHANGE, ..;
pub data Statement : Type 0 where
  OpOf : Spot → Spot → Bool → List Flag → Statement
  KindOf : Spot → List Spot → Statement
  RuleOf : Spot → Tree → Option Tree → Option Condition → Statement
  SubjectOf : Spot → Tree → Statement
  EditOf : Spot → List Change → Statement

-- ---- spelling

-- a token that a spelling has: wherever it stands, or at a place that the tree keeps
pub data Expected : Type 0 where
  Said : Token → Expected
  Stands : Token → Place → Expected

-- the token is as expected
abbrev pub Matches : Placed → Expected → Type 0
Matches t (Said k) = t.token ≡ k
Matches t (Stands k place) = (t.token ≡ k) × (t.place ≡ place)

-- the tokens are as expected, one by one
abbrev pub AllMatch : List Placed → List Expected → Type 0
AllMatch [] [] = Unit {0}
AllMatch [] (m ∷ ms) = ⊥
AllMatch (t ∷ ts) [] = ⊥
AllMatch (t ∷ ts) (m ∷ ms) = Matches t m × AllMatch ts ms

-- the word of a spot, at its place
abbrev pub spelled_word : Spot → Expected
spelled_word s = Stands (Word s.text) s.place

-- the wildcard at its place
abbrev pub spelled_wildcard : Wildcard → Expected
spelled_wildcard w = Stands (tokens.Wildcard w.name w.marks w.kind) w.place

-- the sign of a spot, at its place
abbrev pub spelled_sign : Spot → Expected
spelled_sign s = Stands (Sign s.text) s.place

-- the same sign once more, wherever it stands
abbrev pub another : Spot → Expected
another s = Said (Sign s.text)

-- a word that a statement has by its form
abbrev pub fixed_word : List ℕ → Expected
fixed_word w = Said (Word w)

-- a comma
abbrev pub comma : Expected
comma = Said (Punctuation Comma)

-- a closing bracket
abbrev pub closing : Expected
closing = Said (Punctuation Close)

-- a dot
abbrev pub dot : Expected
dot = Said (Punctuation Dot)

-- a semicolon
abbrev pub semicolon : Expected
semicolon = Said (Punctuation Semicolon)

-- a colon
abbrev pub colon : Expected
colon = Said (Punctuation Colon)

-- dot-wildcard ":"
abbrev pub spell_with_colon : Wildcard → List Expected
spell_with_colon w = spelled_wildcard w ∷ colon ∷ []

-- an opening bracket
abbrev pub opening : Expected
opening = Said (Punctuation Open)

-- an arrow
abbrev pub arrow : Expected
arrow = Said Arrow

-- ["+"]
abbrev pub spell_plus : Bool → List Expected
spell_plus true = Said (Sign (codes "+")) ∷ []
spell_plus false = []

-- "{" NUM ["+"] "}"
abbrev pub spell_count : Spot → Bool → List Expected
spell_count count more = Said (Punctuation OpenBrace) ∷ spelled_word count
    ∷ (spell_plus more ++ Said (Punctuation CloseBrace) ∷ [])

-- expr = WORD | WORD "(" [expr ("," expr)*] ")" | "(" expr s expr (s expr)* ")" with one SIGN s | wildcard |
-- dot-wildcard "{" NUM ["+"] "}" | dot-wildcard ":" expr | "$" WORD
abbrev mutual
  pub spell : Tree → List Expected
  spell (Symbol w) = spelled_word w ∷ []
  spell (Apply f args) = spelled_word f ∷ Said (Punctuation Open) ∷ spell_first comma Close args
  spell (InfixOf opened sign operands) = Stands (Punctuation Open) opened ∷ spell_operands sign operands
  spell (Wild w) = spelled_wildcard w ∷ []
  spell (Counted w count more) = spelled_wildcard w ∷ spell_count count more
  spell (Optional w others default) = flat_map spell_with_colon (w ∷ others) ++ spell default
  spell (Variable w) = Stands (Punctuation Dollar) w.place ∷ fixed_word w.text ∷ []

  -- expressions with this token between them, and the bracket that closes
  pub spell_first : Expected → Punct → Trees → List Expected
  spell_first between ending no_trees = Said (Punctuation ending) ∷ []
  spell_first between ending (more_trees t ts) = spell t ++ spell_others between ending ts

  -- the same behind an expression
  pub spell_others : Expected → Punct → Trees → List Expected
  spell_others between ending no_trees = Said (Punctuation ending) ∷ []
  spell_others between ending (more_trees t ts) = between ∷ spell t ++ spell_others between ending ts

  -- operands with the sign between them, and the bracket that closes
  pub spell_operands : Spot → Trees → List Expected
  spell_operands sign no_trees = closing ∷ []
  spell_operands sign (more_trees t ts) = spell t ++ spelled_sign sign ∷ spell_first (another sign) Close ts

-- "count" | "size"
abbrev pub measure_word : Measure → List ℕ
measure_word Count = codes "count"
measure_word Size = codes "size"

-- < <= > >= == !=
abbrev pub sense_sign : Sense → List ℕ
sense_sign Lt = codes "<"
sense_sign Le = codes "<="
sense_sign Gt = codes ">"
sense_sign Ge = codes ">="
sense_sign Eq = codes "=="
sense_sign Ne = codes "!="

-- "same" | "less" | "free"
abbrev pub relation_word : Relation → List ℕ
relation_word Same = codes "same"
relation_word Less = codes "less"
relation_word Free = codes "free"

-- "kind" | "head"
abbrev pub property_word : Property → List ℕ
property_word properties.Kind = codes "kind"
property_word properties.Head = codes "head"

-- amount = NUM | ("count" | "size") "(" expr ")"
abbrev pub spell_amount : Amount → List Expected
spell_amount (Number w) = spelled_word w ∷ []
spell_amount (Measured m t) = fixed_word (measure_word m) ∷ opening ∷ (spell t ++ closing ∷ [])

-- atom = amount cmp amount | ("same" | "less" | "free") "(" expr "," expr ")" | ("kind" | "head") "(" expr "," WORD ")"
abbrev pub spell_atom : Atom → List Expected
spell_atom (Compare a sense b) = spell_amount a ++ Said (Sign (sense_sign sense)) ∷ spell_amount b
spell_atom (Relate r t u) = fixed_word (relation_word r) ∷ opening ∷ (spell t ++ comma ∷ (spell u ++ closing ∷ []))
spell_atom (Test p t w) = fixed_word (property_word p) ∷ opening ∷ (spell t ++ comma ∷ spelled_word w ∷ closing ∷ [])

-- ["not"]
abbrev pub spell_not : Bool → List Expected
spell_not true = fixed_word (codes "not") ∷ []
spell_not false = []

-- cond = conj ("or" conj)*, conj = lit ("and" lit)*, lit = ["not"] (atom | "[" cond "]")
abbrev mutual
  pub spell_literal : Literal → List Expected
  spell_literal (AtomOf negated a) = spell_not negated ++ spell_atom a
  spell_literal (Bracketed negated c) = spell_not negated ++ Said (Punctuation OpenSquare)
      ∷ (spell_alternatives [] c ++ Said (Punctuation CloseSquare) ∷ [])

  -- literals, the first behind these tokens and each other one behind `and`
  pub spell_literals : List Expected → Literals → List Expected
  spell_literals before no_literals = []
  spell_literals before (more_literals l ls) =
      before ++ (spell_literal l ++ spell_literals (fixed_word (codes "and") ∷ []) ls)

  -- alternatives, the first behind these tokens and each other one behind `or`
  pub spell_alternatives : List Expected → Condition → List Expected
  spell_alternatives before no_alternatives = []
  spell_alternatives before (more_alternatives a c) =
      before ++ (spell_literals [] a ++ spell_alternatives (fixed_word (codes "or") ∷ []) c)

-- a condition
abbrev pub spell_condition : Condition → List Expected
spell_condition c = spell_alternatives [] c

-- ["if" cond]
abbrev pub spell_if : Option Condition → List Expected
spell_if None = []
spell_if (Some c) = fixed_word (codes "if") ∷ spell_condition c

-- WORD ":" expr
abbrev pub spell_named : Spot → Tree → List Expected
spell_named name t = spelled_word name ∷ colon ∷ spell t

-- flag = "assoc" | "comm" | "one" | "infix" SIGN
abbrev pub spell_flag : Flag → List Expected
spell_flag Assoc = fixed_word (codes "assoc") ∷ []
spell_flag Comm = fixed_word (codes "comm") ∷ []
spell_flag One = fixed_word (codes "one") ∷ []
spell_flag (Infixed sign) = fixed_word (codes "infix") ∷ spelled_sign sign ∷ []

-- [arrow expr]
abbrev pub spell_template : Option Tree → List Expected
spell_template None = []
spell_template (Some t) = arrow ∷ spell t

-- "." NUM
abbrev pub spell_index : Spot → List Expected
spell_index w = dot ∷ spelled_word w ∷ []

-- position = "." | NUM ("." NUM)*
abbrev pub spell_position : Position → List Expected
spell_position (Root place) = Stands (Punctuation Dot) place ∷ []
spell_position (Path first others) = spelled_word first ∷ flat_map spell_index others

-- expr | "[" [expr ("," expr)*] "]"
abbrev pub spell_replacement : Replacement → List Expected
spell_replacement (Single t) = spell t
spell_replacement (Listed ts) = Said (Punctuation OpenSquare) ∷ spell_first comma CloseSquare ts

-- change = position arrow (expr | "[" [expr ("," expr)*] "]")
abbrev pub spell_change : Change → List Expected
spell_change c = spell_position c.position ++ arrow ∷ spell_replacement c.terms

-- changes, the first behind these tokens and each other one behind a comma
abbrev pub spell_changes : List Expected → List Change → List Expected
spell_changes before [] = []
spell_changes before (c ∷ cs) = before ++ (spell_change c ++ spell_changes (comma ∷ []) cs)

-- statement = "op" WORD NUM ["+"] flag* ";" | "kind" WORD ":" WORD WORD* ";" |
-- "rule" WORD ":" expr [arrow expr] ["if" cond] ";" | "subject" WORD ":" expr ";" |
-- "edit" WORD ":" change ("," change)* ";"
abbrev pub spell_statement : Statement → List Expected
spell_statement (OpOf name least more flags) =
    fixed_word (codes "op") ∷ spelled_word name ∷ spelled_word least
    ∷ (spell_plus more ++ (flat_map spell_flag flags ++ semicolon ∷ []))
spell_statement (KindOf name members) = fixed_word (codes "kind") ∷ spelled_word name ∷ colon
    ∷ (map spelled_word members ++ semicolon ∷ [])
spell_statement (RuleOf name t template o) =
    fixed_word (codes "rule") ∷ spell_named name t ++ (spell_template template ++ (spell_if o ++ semicolon ∷ []))
spell_statement (SubjectOf name t) = fixed_word (codes "subject") ∷ spell_named name t ++ semicolon ∷ []
spell_statement (EditOf name changes) =
    fixed_word (codes "edit") ∷ spelled_word name ∷ colon ∷ (spell_changes [] changes ++ semicolon ∷ [])

-- file = statement*
abbrev pub spell_file : List Statement → List Expected
spell_file = flat_map spell_statement

-- ---- what fits

-- a wildcard with one underscore and no kind
pub record IsDot (w : Wildcard) : Type 0 where
  pub one_mark : w.marks ≡ 1
  pub no_kind : w.kind ≡ []

-- each wildcard has one underscore and no kind
abbrev pub AreDots : List Wildcard → Type 0
AreDots [] = Unit {0}
AreDots (w ∷ ws) = IsDot w × AreDots ws

-- the expression is no wildcard with a default
abbrev pub HasNoDefault : Tree → Type 0
HasNoDefault (Optional w others default) = ⊥
HasNoDefault _ = Unit {0}

-- two expressions or more
abbrev pub AreSeveral : Trees → Type 0
AreSeveral no_trees = ⊥
AreSeveral (more_trees t no_trees) = ⊥
AreSeveral (more_trees t (more_trees u us)) = Unit {0}

-- of digits alone
abbrev pub IsNumber : Spot → Type 0
IsNumber w = list_all is_ascii_digit w.text ≡ true

-- wildcards with a count or a default have one underscore and no kind, the default behind a whole chain of them is none
-- itself, counts are numbers, infix expressions have two operands or more, and at most room brackets stand open at once
abbrev mutual
  pub Fits : ℕ → Tree → Type 0
  Fits room (Symbol w) = Unit {0}
  Fits zero (Apply f args) = ⊥
  Fits (suc room) (Apply f args) = AreFit room args
  Fits zero (InfixOf opened sign operands) = ⊥
  Fits (suc room) (InfixOf opened sign operands) = AreSeveral operands × AreFit room operands
  Fits room (Wild w) = Unit {0}
  Fits room (Counted w count more) = IsDot w × IsNumber count
  Fits room (Optional w others default) = AreDots (w ∷ others) × HasNoDefault default × Fits room default
  Fits room (Variable w) = Unit {0}

  pub AreFit : ℕ → Trees → Type 0
  AreFit room no_trees = Unit {0}
  AreFit room (more_trees t ts) = Fits room t × AreFit room ts

-- a number is of digits alone, and at most room brackets stand open at once, that of the operand among them
abbrev pub FitsAmount : ℕ → Amount → Type 0
FitsAmount room (Number w) = IsNumber w
FitsAmount zero (Measured m t) = ⊥
FitsAmount (suc room) (Measured m t) = Fits room t

-- the same of an atom
abbrev pub FitsAtom : ℕ → Atom → Type 0
FitsAtom room (Compare a sense b) = FitsAmount room a × FitsAmount room b
FitsAtom zero (Relate r t u) = ⊥
FitsAtom (suc room) (Relate r t u) = Fits room t × Fits room u
FitsAtom zero (Test p t w) = ⊥
FitsAtom (suc room) (Test p t w) = Fits room t

-- there is a literal
abbrev pub HasLiteral : Literals → Type 0
HasLiteral no_literals = ⊥
HasLiteral (more_literals l ls) = Unit {0}

-- there is an alternative
abbrev pub HasAlternative : Condition → Type 0
HasAlternative no_alternatives = ⊥
HasAlternative (more_alternatives a c) = Unit {0}

-- each condition has an alternative and each alternative a literal, numbers are of digits alone, and at most room
-- brackets stand open at once
abbrev mutual
  pub FitsLiteral : ℕ → Literal → Type 0
  FitsLiteral room (AtomOf negated a) = FitsAtom room a
  FitsLiteral zero (Bracketed negated c) = ⊥
  FitsLiteral (suc room) (Bracketed negated c) = HasAlternative c × AlternativesFit room c

  pub LiteralsFit : ℕ → Literals → Type 0
  LiteralsFit room no_literals = Unit {0}
  LiteralsFit room (more_literals l ls) = FitsLiteral room l × LiteralsFit room ls

  pub AlternativesFit : ℕ → Condition → Type 0
  AlternativesFit room no_alternatives = Unit {0}
  AlternativesFit room (more_alternatives a c) = HasLiteral a × LiteralsFit room a × AlternativesFit room c

-- the same of a condition
abbrev pub FitsCondition : ℕ → Condition → Type 0
FitsCondition room c = HasAlternative c × AlternativesFit room c

-- the condition of a rule fits, where there is one
abbrev pub FitsIf : ℕ → Option Condition → Type 0
FitsIf room None = Unit {0}
FitsIf room (Some c) = FitsCondition room c

-- the template of a rule fits, where there is one
abbrev pub FitsTemplate : ℕ → Option Tree → Type 0
FitsTemplate room None = Unit {0}
FitsTemplate room (Some t) = Fits room t

-- each of them is a number
abbrev pub AreNumbers : List Spot → Type 0
AreNumbers [] = Unit {0}
AreNumbers (w ∷ ws) = IsNumber w × AreNumbers ws

-- the numbers of a position are of digits alone
abbrev pub FitsPosition : Position → Type 0
FitsPosition (Root place) = Unit {0}
FitsPosition (Path first others) = IsNumber first × AreNumbers others

-- at most room brackets stand open at once, that of the list among them
abbrev pub FitsListed : ℕ → Trees → Type 0
FitsListed zero ts = ⊥
FitsListed (suc room) ts = AreFit room ts

-- the same of what stands at a position
abbrev pub FitsReplacement : ℕ → Replacement → Type 0
FitsReplacement room (Single t) = Fits room t
FitsReplacement room (Listed ts) = FitsListed room ts

-- the same of changes, whose positions fit
abbrev pub ChangesFit : ℕ → List Change → Type 0
ChangesFit room [] = Unit {0}
ChangesFit room (c ∷ cs) = FitsPosition c.position × FitsReplacement room c.terms × ChangesFit room cs

-- numbers are of digits alone, a kind has a member and an edit a change, and in an expression, a condition or a list at
-- most room brackets stand open at once
abbrev pub FitsStatement : ℕ → Statement → Type 0
FitsStatement room (OpOf name least more flags) = IsNumber least
FitsStatement room (KindOf name members) = members ≢ []
FitsStatement room (RuleOf name t template o) = Fits room t × FitsTemplate room template × FitsIf room o
FitsStatement room (SubjectOf name t) = Fits room t
FitsStatement room (EditOf name changes) = (changes ≢ []) × ChangesFit room changes

-- each statement fits
abbrev pub AreStatements : ℕ → List Statement → Type 0
AreStatements room [] = Unit {0}
AreStatements room (s ∷ ss) = FitsStatement room s × AreStatements room ss

-- ---- words

-- 1 to 64 letters and digits
pub record IsName (word : List ℕ) : Type 0 where
  pub is_word : IsWord word
  pub is_short : IsShort word

-- one or more sign bytes, and not the arrow
pub record IsInfixSign (sign : List ℕ) : Type 0 where
  pub is_sign : IsSign sign
  pub no_arrow : sign ≢ codes "->"

-- 1 to 3 underscores, behind a single one perhaps a kind; the name and the kind, where there are any, are words of at
-- most 64 bytes
pub record HasParts (w : Wildcard) : Type 0 where
  pub name : w.name ≢ [] → IsName w.name
  pub some_marks : 0 < w.marks
  pub few_marks : w.marks ≤ 3
  pub kind : w.kind ≢ [] → IsName w.kind
  pub kind_behind_one : w.kind ≢ [] → w.marks ≡ 1

-- the token is a word, a wildcard or a sign as they are spelled, where it is one of these
pub record IsSpelled (t : Token) : Type 0 where
  pub word : (word : List ℕ) → t ≡ Word word → IsName word
  pub wildcard : (w : Wildcard) → t ≡ tokens.Wildcard w.name w.marks w.kind → HasParts w
  pub sign : (sign : List ℕ) → t ≡ Sign sign → IsInfixSign sign

-- the same of each wildcard
abbrev pub HaveParts : List Wildcard → Type 0
HaveParts [] = Unit {0}
HaveParts (w ∷ ws) = HasParts w × HaveParts ws

-- each symbol, count and name before a bracket and each name and kind of a wildcard is a word of at most 64 bytes, and
-- each wildcard and sign is one
abbrev mutual
  pub HasNames : Tree → Type 0
  HasNames (Symbol w) = IsName w.text
  HasNames (Apply f args) = IsName f.text × HaveNames args
  HasNames (InfixOf opened sign operands) = IsInfixSign sign.text × HaveNames operands
  HasNames (Wild w) = HasParts w
  HasNames (Counted w count more) = HasParts w × IsName count.text
  HasNames (Optional w others default) = HasParts w × HaveParts others × HasNames default
  HasNames (Variable w) = IsName w.text

  pub HaveNames : Trees → Type 0
  HaveNames no_trees = Unit {0}
  HaveNames (more_trees t ts) = HasNames t × HaveNames ts

-- a number and each word of the operand is one of at most 64 bytes, and each sign is one
abbrev pub AmountHasNames : Amount → Type 0
AmountHasNames (Number w) = IsName w.text
AmountHasNames (Measured m t) = HasNames t

-- the same of an atom
abbrev pub AtomHasNames : Atom → Type 0
AtomHasNames (Compare a sense b) = AmountHasNames a × AmountHasNames b
AtomHasNames (Relate r t u) = HasNames t × HasNames u
AtomHasNames (Test p t w) = HasNames t × IsName w.text

-- the same of a literal, of literals, and of a condition
abbrev mutual
  pub LiteralHasNames : Literal → Type 0
  LiteralHasNames (AtomOf negated a) = AtomHasNames a
  LiteralHasNames (Bracketed negated c) = ConditionHasNames c

  pub LiteralsHaveNames : Literals → Type 0
  LiteralsHaveNames no_literals = Unit {0}
  LiteralsHaveNames (more_literals l ls) = LiteralHasNames l × LiteralsHaveNames ls

  pub ConditionHasNames : Condition → Type 0
  ConditionHasNames no_alternatives = Unit {0}
  ConditionHasNames (more_alternatives a c) = LiteralsHaveNames a × ConditionHasNames c

-- the same of the condition of a rule, where there is one
abbrev pub IfHasNames : Option Condition → Type 0
IfHasNames None = Unit {0}
IfHasNames (Some c) = ConditionHasNames c

-- the sign of the flag is one, where it has a sign
abbrev pub HasSign : Flag → Type 0
HasSign Assoc = Unit {0}
HasSign Comm = Unit {0}
HasSign One = Unit {0}
HasSign (Infixed sign) = IsInfixSign sign.text

-- each sign of the flags is one
abbrev pub HaveSigns : List Flag → Type 0
HaveSigns [] = Unit {0}
HaveSigns (f ∷ fs) = HasSign f × HaveSigns fs

-- each of them is a word of at most 64 bytes
abbrev pub AreNames : List Spot → Type 0
AreNames [] = Unit {0}
AreNames (w ∷ ws) = IsName w.text × AreNames ws

-- the same of the template of a rule, where there is one
abbrev pub TemplateHasNames : Option Tree → Type 0
TemplateHasNames None = Unit {0}
TemplateHasNames (Some t) = HasNames t

-- each number of the position is a word of at most 64 bytes
abbrev pub PositionHasNames : Position → Type 0
PositionHasNames (Root place) = Unit {0}
PositionHasNames (Path first others) = IsName first.text × AreNames others

-- each word of the expressions is one of at most 64 bytes, and each sign is one
abbrev pub ReplacementHasNames : Replacement → Type 0
ReplacementHasNames (Single t) = HasNames t
ReplacementHasNames (Listed ts) = HaveNames ts

-- the same of changes
abbrev pub ChangesHaveNames : List Change → Type 0
ChangesHaveNames [] = Unit {0}
ChangesHaveNames (c ∷ cs) = PositionHasNames c.position × ReplacementHasNames c.terms × ChangesHaveNames cs

-- each word of the statement is one of at most 64 bytes, and each sign is one
abbrev pub StatementHasNames : Statement → Type 0
StatementHasNames (OpOf name least more flags) = IsName name.text × IsName least.text × HaveSigns flags
StatementHasNames (KindOf name members) = IsName name.text × AreNames members
StatementHasNames (RuleOf name t template o) =
    IsName name.text × HasNames t × TemplateHasNames template × IfHasNames o
StatementHasNames (SubjectOf name t) = IsName name.text × HasNames t
StatementHasNames (EditOf name changes) = IsName name.text × ChangesHaveNames changes

-- each word of the statements is one of at most 64 bytes, and each sign is one
abbrev pub StatementsHaveNames : List Statement → Type 0
StatementsHaveNames [] = Unit {0}
StatementsHaveNames (s ∷ ss) = StatementHasNames s × StatementsHaveNames ss

-- ---- texts

-- the bytes are this expression: they have tokens, and these spell the expression, which fits
pub record IsExprOf (bytes : List ℕ) (t : Tree) : Type 0 where
  pub tokens : List Placed
  pub lie : Tokens bytes first_place tokens
  pub spelled : AllMatch tokens (spell t)
  pub fits : Fits MAX_OPEN t

-- the bytes are this condition: they have tokens, and these spell the condition, which fits
pub record IsConditionOf (bytes : List ℕ) (c : Condition) : Type 0 where
  pub tokens : List Placed
  pub lie : Tokens bytes first_place tokens
  pub spelled : AllMatch tokens (spell_condition c)
  pub fits : FitsCondition MAX_OPEN c

-- the bytes are these statements: they have tokens, and these spell the statements, which fit
pub record IsSyntaxOf (bytes : List ℕ) (file : List Statement) : Type 0 where
  pub tokens : List Placed
  pub lie : Tokens bytes first_place tokens
  pub spelled : AllMatch tokens (spell_file file)
  pub fits : AreStatements MAX_OPEN file
