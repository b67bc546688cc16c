-- What a state has read of its statement or expression, as a spelling.
use Rattle.std.specs.Prelude.{List, [], ◌∷◌, ◌++◌, map, codes}
use Rattle.std.specs.List.{flat_map}
use Rattle.mp_parser.specs.declared.token.Punct.TheVariants.{Open, OpenSquare, OpenBrace, Colon, Dollar}
use Rattle.mp_parser.specs.Tokens.{Sign, Punctuation}
use Rattle.mp_parser.specs.Syntax.{Spot, Tree, Expected, Said, Stands, spell, spell_with_colon, spell_plus}
use Rattle.mp_parser.specs.Syntax.{spell_flag, spelled_word, spelled_wildcard, spelled_sign, another, fixed_word}
use Rattle.mp_parser.specs.Syntax.{opening, comma, dot, arrow, Wildcard, Path, Change, spell_template, spell_position}
use Rattle.mp_parser.specs.Syntax.{spell_change, Literal, Literals, spell_literal, spell_literals, spell_amount}
use Rattle.mp_parser.specs.Syntax.{spell_not, measure_word, sense_sign, relation_word, property_word}
use Rattle.mp_parser.specs.Machine.{Role, OfRule, OfSubject, Frame, Arguments, Bracket, Operands, Default, Operand}
use Rattle.mp_parser.specs.Machine.{Second, Square, Listing, Edited, Level, Site, Side, OnLeft, OnRight, Lead}
use Rattle.mp_parser.specs.Machine.{OfMeasure, OfRelation, OfProperty, Declared, Within, InStatement, Alone}
use Rattle.mp_parser.specs.Machine.{InTemplate, InCondition, ConditionAlone, InChange, AfterBrace, AfterCount}
use Rattle.mp_parser.specs.Machine.{BeforeBrace, AfterEdit, AfterSubject, BeforeChange, AfterPosition, BeforeIndex}
use Rattle.mp_parser.specs.Machine.{AfterArrow, AfterSquare, AfterChange, State, Top, AfterOp, AfterOpName}
use Rattle.mp_parser.specs.Machine.{AfterLeast, AfterFlags, AfterInfix, AfterKind, AfterKindName, BeforeMember}
use Rattle.mp_parser.specs.Machine.{AfterMember, AfterRole, AfterName, BeforeExpr, AfterWord, AfterOpen}
use Rattle.mp_parser.specs.Machine.{AfterWildcard, AfterExpr, AfterDollar, BeforeLiteral, BeforeBody, BeforeOperand}
use Rattle.mp_parser.specs.Machine.{BeforeName, BehindName, AfterAmount, AfterSense, AfterLiteral}

-- the word that a statement of this role begins with
abbrev pub role_word : Role → Expected
role_word OfRule = fixed_word (codes "rule")
role_word OfSubject = fixed_word (codes "subject")

-- an expression and the token behind it
abbrev pub spell_before : Expected → Tree → List Expected
spell_before between e = spell e ++ between ∷ []

-- an operation up to its flags
abbrev pub spell_declared : Declared → List Expected
spell_declared d = fixed_word (codes "op") ∷ spelled_word d.name ∷ spelled_word d.least
    ∷ (spell_plus d.more ++ flat_map spell_flag d.flags)

-- a kind up to its members
abbrev pub spell_members : Spot → List Spot → List Expected
spell_members name members = fixed_word (codes "kind") ∷ spelled_word name ∷ Said (Punctuation Colon)
    ∷ map spelled_word members

-- a rule up to its condition or its end
abbrev pub spell_rule : Spot → Tree → List Expected
spell_rule name pattern = fixed_word (codes "rule") ∷ spelled_word name ∷ Said (Punctuation Colon) ∷ spell pattern

-- a change and a comma
abbrev pub spell_before_comma : Change → List Expected
spell_before_comma c = spell_change c ++ comma ∷ []

-- an edit up to a change
abbrev pub spell_edited : Edited → List Expected
spell_edited d = fixed_word (codes "edit") ∷ spelled_word d.subject ∷ Said (Punctuation Colon)
    ∷ flat_map spell_before_comma d.changes

-- the tokens of the statement before an expression or a condition; one alone has none before it
abbrev pub spell_within : Within → List Expected
spell_within (InStatement h) = role_word h.role ∷ spelled_word h.name ∷ Said (Punctuation Colon) ∷ []
spell_within Alone = []
spell_within (InTemplate name pattern) = spell_rule name pattern ++ arrow ∷ []
spell_within (InCondition name pattern template) =
    spell_rule name pattern ++ (spell_template template ++ fixed_word (codes "if") ∷ [])
spell_within ConditionAlone = []
spell_within (InChange d p) = spell_edited d ++ (spell_position p ++ arrow ∷ [])

-- a literal and `and`
abbrev pub spell_before_and : Literal → List Expected
spell_before_and l = spell_literal l ++ fixed_word (codes "and") ∷ []

-- an alternative and `or`
abbrev pub spell_before_or : Literals → List Expected
spell_before_or a = spell_literals [] a ++ fixed_word (codes "or") ∷ []

-- a condition before a literal
abbrev pub spell_level : Level → List Expected
spell_level v = flat_map spell_before_or v.alternatives ++ flat_map spell_before_and v.literals

-- a condition before an atom or a square bracket
abbrev pub spell_site : Site → List Expected
spell_site s = spell_level s.level ++ spell_not s.negated

-- a comparison before this side of it
abbrev pub spell_side : Side → List Expected
spell_side OnLeft = []
spell_side (OnRight a sense) = spell_amount a ++ Said (Sign (sense_sign sense)) ∷ []

-- an atom before the bracket of its first operand
abbrev pub spell_lead : Lead → List Expected
spell_lead (OfMeasure side m) = spell_side side ++ fixed_word (measure_word m) ∷ []
spell_lead (OfRelation r) = fixed_word (relation_word r) ∷ []
spell_lead (OfProperty p) = fixed_word (property_word p) ∷ []

-- an open bracket and what stands behind it, or a wildcard and its colon
abbrev pub spell_frame : Frame → List Expected
spell_frame (Arguments name args) = spelled_word name ∷ Said (Punctuation Open) ∷ flat_map (spell_before comma) args
spell_frame (Bracket place) = Stands (Punctuation Open) place ∷ []
spell_frame (Operands place sign first others) =
    Stands (Punctuation Open) place ∷ spell first ++ spelled_sign sign ∷ flat_map (spell_before (another sign)) others
spell_frame (Default w) = spell_with_colon w
spell_frame (Operand s lead) = spell_site s ++ (spell_lead lead ++ opening ∷ [])
spell_frame (Second s r e) = spell_site s ++ fixed_word (relation_word r) ∷ opening ∷ spell e ++ comma ∷ []
spell_frame (Square s) = spell_site s ++ Said (Punctuation OpenSquare) ∷ []
spell_frame (Listing es) = Said (Punctuation OpenSquare) ∷ flat_map (spell_before comma) es

-- a wildcard up to its count
abbrev pub spell_counted : Wildcard → Spot → List Expected
spell_counted w count = spelled_wildcard w ∷ Said (Punctuation OpenBrace) ∷ spelled_word count ∷ []

-- the same of several, the outermost first
abbrev pub spell_frames : List Frame → List Expected
spell_frames [] = []
spell_frames (f ∷ k) = spell_frames k ++ spell_frame f

-- the tokens that a state has read
abbrev pub so_far : State → List Expected
so_far Top = []
so_far AfterOp = fixed_word (codes "op") ∷ []
so_far (AfterOpName name) = fixed_word (codes "op") ∷ spelled_word name ∷ []
so_far (AfterLeast name least) = fixed_word (codes "op") ∷ spelled_word name ∷ spelled_word least ∷ []
so_far (AfterFlags d) = spell_declared d
so_far (AfterInfix d) = spell_declared d ++ fixed_word (codes "infix") ∷ []
so_far AfterKind = fixed_word (codes "kind") ∷ []
so_far (AfterKindName name) = fixed_word (codes "kind") ∷ spelled_word name ∷ []
so_far (BeforeMember name members) = spell_members name members
so_far (AfterMember name members) = spell_members name members
so_far (AfterRole role) = role_word role ∷ []
so_far (AfterName h) = role_word h.role ∷ spelled_word h.name ∷ []
so_far (BeforeExpr x k) = spell_within x ++ spell_frames k
so_far (AfterWord x k w) = spell_within x ++ (spell_frames k ++ spelled_word w ∷ [])
so_far (AfterOpen x k w) = spell_within x ++ (spell_frames k ++ spelled_word w ∷ Said (Punctuation Open) ∷ [])
so_far (AfterWildcard x k w) = spell_within x ++ (spell_frames k ++ spelled_wildcard w ∷ [])
so_far (AfterExpr x k e) = spell_within x ++ (spell_frames k ++ spell e)
so_far (AfterDollar x k place) = spell_within x ++ (spell_frames k ++ Stands (Punctuation Dollar) place ∷ [])
so_far (BeforeLiteral x k v) = spell_within x ++ (spell_frames k ++ spell_level v)
so_far (BeforeBody x k s) = spell_within x ++ (spell_frames k ++ spell_site s)
so_far (BeforeOperand x k s lead) = spell_within x ++ (spell_frames k ++ (spell_site s ++ spell_lead lead))
so_far (BeforeName x k s p e) = spell_within x
    ++ (spell_frames k ++ (spell_site s ++ fixed_word (property_word p) ∷ opening ∷ spell e ++ comma ∷ []))
so_far (BehindName x k s p e w) = spell_within x
    ++ (spell_frames k ++ (spell_site s ++ fixed_word (property_word p) ∷ opening ∷ spell e ++ comma ∷ spelled_word w
    ∷ []))
so_far (AfterAmount x k s a) = spell_within x ++ (spell_frames k ++ (spell_site s ++ spell_amount a))
so_far (AfterSense x k s a sense) = spell_within x ++ (spell_frames k ++ (spell_site s ++ spell_side (OnRight a sense)))
so_far (AfterLiteral x k v l) = spell_within x ++ (spell_frames k ++ (spell_level v ++ spell_literal l))
so_far (AfterBrace x k w) =
    spell_within x ++ (spell_frames k ++ spelled_wildcard w ∷ Said (Punctuation OpenBrace) ∷ [])
so_far (AfterCount x k w count) = spell_within x ++ (spell_frames k ++ spell_counted w count)
so_far (BeforeBrace x k w count more) =
    spell_within x ++ (spell_frames k ++ (spell_counted w count ++ spell_plus more))
so_far AfterEdit = fixed_word (codes "edit") ∷ []
so_far (AfterSubject subject) = fixed_word (codes "edit") ∷ spelled_word subject ∷ []
so_far (BeforeChange d) = spell_edited d
so_far (AfterPosition d p) = spell_edited d ++ spell_position p
so_far (BeforeIndex d first others) = spell_edited d ++ (spell_position (Path first others) ++ dot ∷ [])
so_far (AfterArrow d p) = spell_within (InChange d p)
so_far (AfterSquare d p) = spell_within (InChange d p) ++ Said (Punctuation OpenSquare) ∷ []
so_far (AfterChange d c) = spell_edited d ++ spell_change c
