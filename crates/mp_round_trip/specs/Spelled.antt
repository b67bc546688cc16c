-- The statements that a file is printed as.
use Rattle.std.specs.Prelude.{ℕ, Bool, true, false, not, List, [], ◌∷◌, ◌++◌, map, length, Option, Some, None}
use Rattle.std.specs.Prelude.{option_map, unwrap_or, slice_get, nat_le, if◌then◌else◌, decimal}
use Rattle.std.specs.Option.{option_map_or}
use Rattle.mp_io.specs.Devices.{Text}
use Rattle.mp_term.specs.declared.signature.OpDecl.{OpDecl}
use Rattle.mp_term.specs.declared.edit.Edit.{Edit}
use Rattle.mp_term.specs.Tree as term
use Rattle.mp_term.specs.Signature.{Sig, Kind}
use Rattle.mp_pattern.specs.PatternTree as pattern
use Rattle.mp_pattern.specs.TemplateTree as template
use Rattle.mp_pattern.specs.declared.condition.Sense as compared
use Rattle.mp_pattern.specs.declared.condition.Sense.TheVariants as way
use Rattle.mp_pattern.specs.CondTree as cond
use Rattle.mp_pattern.specs.Admission.{Rule}
use Rattle.mp_parser.specs.declared.condition_tree.Measure.TheVariants.{Count, Size}
use Rattle.mp_parser.specs.declared.condition_tree.Sense.{Sense}
use Rattle.mp_parser.specs.declared.condition_tree.Sense.TheVariants.{Lt, Le, Gt, Ge, Eq, Ne}
use Rattle.mp_parser.specs.declared.condition_tree.Relation.TheVariants.{Same, Less, Free}
use Rattle.mp_parser.specs.declared.condition_tree.Property.TheVariants as properties
use Rattle.mp_parser.specs.Tokens.{first_place}
use Rattle.mp_parser.specs.Syntax as syntax
use Rattle.mp_parser.specs.Syntax.{Spot, Tree, Symbol, Apply, InfixOf, Wild, Counted, Optional, Variable, Trees}
use Rattle.mp_parser.specs.Syntax.{no_trees, more_trees, tree_list, Flag, Assoc, Comm, One, Infixed, Amount, Number}
use Rattle.mp_parser.specs.Syntax.{Measured}
use Rattle.mp_parser.specs.Syntax.{Compare, Relate, Test, Literal, AtomOf, Bracketed, Literals, no_literals}
use Rattle.mp_parser.specs.Syntax.{more_literals, Condition, no_alternatives, more_alternatives, Statement, OpOf}
use Rattle.mp_parser.specs.Syntax.{KindOf, RuleOf, SubjectOf, EditOf, Position, Root, Path, Replacement, Single, Listed}
use Rattle.mp_parser.specs.Syntax.{Change}
use Rattle.mp_text.specs.declared.file.EditSet.{EditSet}
use Rattle.mp_text.specs.Subject.{Subject}
use Rattle.mp_text.specs.File.{FileTree}
use Rattle.mp_print.specs.Printing.{kind_name_text}
use Rattle.mp_print.specs.PrintedCond.{op_name_text}

-- ---- expressions

-- a piece at the first place
abbrev pub piece : Text → Spot
piece text = record { text = text; place = first_place }

-- an operation stands between two arguments or more where it has a sign, and else before them
abbrev pub application_spelling : OpDecl → Option Text → Trees → Tree
application_spelling d None args = Apply (piece d.name) args
application_spelling d (Some sign) args =
    if nat_le 2 (length (tree_list args)) then InfixOf first_place (piece sign) args else Apply (piece d.name) args

-- an operation that isn't held has no name
abbrev pub held_spelling : Option OpDecl → Trees → Tree
held_spelling None args = Symbol (piece [])
held_spelling (Some d) args = application_spelling d d.sign args

-- a wildcard by its name, its underscores and its kind
abbrev pub wildcard_piece : Text → ℕ → Text → syntax.Wildcard
wildcard_piece name marks kind = record { name = name; marks = marks; kind = kind; place = first_place }

module _ (sig : Sig) where
  -- a symbol is a word, and an application is spelled as its operation is
  abbrev mutual
    pub term_spelling : term.Tree → Tree
    term_spelling (term.symbol n) = Symbol (piece n)
    term_spelling (term.app f ts) = held_spelling (slice_get sig.ops f) (term_spellings ts)

    pub term_spellings : term.Trees → Trees
    term_spellings term.no_trees = no_trees
    term_spellings (term.more_trees t ts) = more_trees (term_spelling t) (term_spellings ts)

  -- a wildcard of this name; one with a count with its digits behind it, and one with a default with a colon and the
  -- default behind it
  abbrev pub wildcard_spelling : pattern.Wildcard → Text → Tree
  wildcard_spelling pattern.dot x = Wild (wildcard_piece x 1 [])
  wildcard_spelling (pattern.kind k) x = Wild (wildcard_piece x 1 (kind_name_text sig k))
  wildcard_spelling pattern.plus x = Wild (wildcard_piece x 2 [])
  wildcard_spelling pattern.star x = Wild (wildcard_piece x 3 [])
  wildcard_spelling (pattern.counted n fixed) x = Counted (wildcard_piece x 1 []) (piece (decimal n)) (not fixed)
  wildcard_spelling (pattern.optional t) x = Optional (wildcard_piece x 1 []) [] (term_spelling t)

  -- the same of patterns, and a wildcard with its variable
  abbrev mutual
    pub pattern_spelling : pattern.Pattern → Tree
    pattern_spelling (pattern.symbol_pattern n) = Symbol (piece n)
    pattern_spelling (pattern.app_pattern f ps) = held_spelling (slice_get sig.ops f) (pattern_spellings ps)
    pattern_spelling (pattern.wild_pattern w x) = wildcard_spelling w (unwrap_or x [])

    pub pattern_spellings : pattern.Patterns → Trees
    pattern_spellings pattern.no_patterns = no_trees
    pattern_spellings (pattern.more_patterns p ps) = more_trees (pattern_spelling p) (pattern_spellings ps)

  -- the same of templates, and `$` with the name of a variable
  abbrev mutual
    pub template_spelling : template.Template → Tree
    template_spelling (template.symbol_template n) = Symbol (piece n)
    template_spelling (template.app_template f xs) = held_spelling (slice_get sig.ops f) (template_spellings xs)
    template_spelling (template.variable_template x) = Variable (piece x)

    pub template_spellings : template.Templates → Trees
    template_spellings template.no_templates = no_trees
    template_spellings (template.more_templates x xs) = more_trees (template_spelling x) (template_spellings xs)

-- ---- conditions

-- the sign of a comparison
abbrev pub sense_spelling : compared.Sense → Sense
sense_spelling way.Lt = Lt
sense_spelling way.Le = Le
sense_spelling way.Gt = Gt
sense_spelling way.Ge = Ge
sense_spelling way.Eq = Eq
sense_spelling way.Ne = Ne

-- a literal alone, as an alternative and as a condition
abbrev pub single_literal : Literal → Literals
single_literal l = more_literals l no_literals

abbrev pub single_alternative : Literals → Condition
single_alternative ls = more_alternatives ls no_alternatives

-- `not` and a literal, with square brackets where that has a `not` already
abbrev pub negated_spelling : Literal → Literal
negated_spelling (AtomOf false a) = AtomOf true a
negated_spelling (Bracketed false c) = Bracketed true c
negated_spelling l = Bracketed true (single_alternative (single_literal l))

-- what stands in the brackets of a literal
abbrev pub bracket_content : Literal → Condition
bracket_content (Bracketed negated c) = c
bracket_content l = single_alternative (single_literal l)

-- the literals of the first alternative in the brackets of a literal
abbrev pub first_alternative : Condition → Literals
first_alternative (more_alternatives ls c) = ls
first_alternative no_alternatives = no_literals

-- a part of a disjunction as an alternative, where it is this literal as a part of a conjunction: a conjunction stands
-- without its brackets
abbrev pub alternative_part : cond.Cond → Literal → Literals
alternative_part (cond.all_of cs) l = first_alternative (bracket_content l)
alternative_part _ l = single_literal l

-- a whole condition, where it is this literal as a part of a conjunction: a conjunction and a disjunction stand without
-- their brackets
abbrev pub whole_condition : cond.Cond → Literal → Condition
whole_condition (cond.all_of cs) l = bracket_content l
whole_condition (cond.any_of cs) l = bracket_content l
whole_condition _ l = single_alternative (single_literal l)

module _ (sig : Sig) where
  -- $NAME, or a term
  abbrev pub operand_spelling : cond.Operand → Tree
  operand_spelling (cond.var x) = Variable (piece x)
  operand_spelling (cond.ground t) = term_spelling sig t

  -- a number, count(OPERAND) or size(OPERAND)
  abbrev pub amount_spelling : cond.Amount → Amount
  amount_spelling (cond.fixed n) = Number (piece (decimal n))
  amount_spelling (cond.count a) = Measured Count (operand_spelling a)
  amount_spelling (cond.size a) = Measured Size (operand_spelling a)

  -- a condition as a part of a conjunction: a literal
  abbrev mutual
    pub literal_spelling : cond.Cond → Literal
    literal_spelling (cond.amounts m c n) = AtomOf false
        (Compare (amount_spelling m) (sense_spelling c) (amount_spelling n))
    literal_spelling (cond.same a b) = AtomOf false (Relate Same (operand_spelling a) (operand_spelling b))
    literal_spelling (cond.less a b) = AtomOf false (Relate Less (operand_spelling a) (operand_spelling b))
    literal_spelling (cond.free a b) = AtomOf false (Relate Free (operand_spelling a) (operand_spelling b))
    literal_spelling (cond.of_kind a k) = AtomOf false
        (Test properties.Kind (operand_spelling a) (piece (kind_name_text sig k)))
    literal_spelling (cond.headed a f) = AtomOf false
        (Test properties.Head (operand_spelling a) (piece (op_name_text sig f)))
    literal_spelling (cond.negation c) = negated_spelling (literal_spelling c)
    literal_spelling (cond.all_of cs) = Bracketed false (single_alternative (literal_spellings cs))
    literal_spelling (cond.any_of cs) = Bracketed false (alternative_spellings cs)

    pub literal_spellings : cond.Conds → Literals
    literal_spellings cond.no_conds = no_literals
    literal_spellings (cond.more_conds c cs) = more_literals (literal_spelling c) (literal_spellings cs)

    pub alternative_spellings : cond.Conds → Condition
    alternative_spellings cond.no_conds = no_alternatives
    alternative_spellings (cond.more_conds c cs) =
        more_alternatives (alternative_part c (literal_spelling c)) (alternative_spellings cs)

  -- a whole condition
  abbrev pub cond_spelling : cond.Cond → Condition
  cond_spelling c = whole_condition c (literal_spelling c)

-- ---- statements

-- the flag, where the test holds
abbrev pub flag_if : Bool → Flag → List Flag
flag_if test flag = if test then flag ∷ [] else []

-- the flag of a sign, where there is one
abbrev pub sign_flags : Option Text → List Flag
sign_flags None = []
sign_flags (Some sign) = Infixed (piece sign) ∷ []

-- the flags of an operation
abbrev pub op_flags : OpDecl → List Flag
op_flags d = flag_if d.assoc Assoc ++ (flag_if d.comm Comm ++ (flag_if d.one One ++ sign_flags d.sign))

-- the declaration of an operation
abbrev pub op_spelling : OpDecl → Statement
op_spelling d = OpOf (piece d.name) (piece (decimal d.least)) (not d.fixed) (op_flags d)

-- the declaration of a kind
abbrev pub kind_spelling : Kind → Statement
kind_spelling k = KindOf (piece k.name) (map piece k.members)

-- an index in digits
abbrev pub index_piece : ℕ → Spot
index_piece i = piece (decimal i)

-- the root is a dot, and every other position its indexes
abbrev pub position_spelling : List ℕ → Position
position_spelling [] = Root first_place
position_spelling (i ∷ is) = Path (index_piece i) (map index_piece is)

module _ (sig : Sig) where
  -- the statement of a rule
  abbrev pub rule_spelling : Rule → Statement
  rule_spelling r = RuleOf (piece r.name) (pattern_spelling sig r.pattern)
      (option_map (template_spelling sig) r.template) (option_map (cond_spelling sig) r.condition)

  -- the statement of a subject
  abbrev pub subject_spelling : Subject → Statement
  subject_spelling s = SubjectOf (piece s.name) (term_spelling sig s.term)

  -- what stands at the position of an edit: one term alone, and every other number of them in square brackets
  abbrev pub replacement_spelling : List term.Tree → Replacement
  replacement_spelling (t ∷ []) = Single (term_spelling sig t)
  replacement_spelling ts = Listed (term_spellings sig (term.trees ts))

  -- an edit
  abbrev pub edit_spelling : Edit → Change
  edit_spelling e = record { position = position_spelling e.position; terms = replacement_spelling e.terms }

  -- an edit statement over the subjects; a subject that isn't there has no name
  abbrev pub edit_set_spelling : List Subject → EditSet → Statement
  edit_set_spelling ss e =
      EditOf (piece (option_map_or (λ s. s.name) (slice_get ss e.subject) [])) (map edit_spelling e.edits)

-- the operations, the declared kinds, the rules, the subjects and the edit statements
abbrev pub file_spelling : FileTree → List Statement
file_spelling f = map op_spelling f.sig.ops ++ (map kind_spelling f.sig.kinds
    ++ (map (rule_spelling f.sig) f.rules
    ++ (map (subject_spelling f.sig) f.subjects ++ map (edit_set_spelling f.sig f.subjects) f.edits)))
