-- The text that statements are printed as, and statements apart from where they stand.
use Rattle.std.specs.Prelude.{ℕ, Bool, true, false, List, [], ◌∷◌, ◌++◌, Option, Some, None, map, codes}
use Rattle.std.specs.List.{flat_map}
use Rattle.mp_parser.specs.declared.token.Punct.{Punct}
use Rattle.mp_parser.specs.declared.token.Punct.TheVariants.{Close, CloseSquare}
use Rattle.mp_parser.specs.Tokens.{first_place, underscores, byte_of}
use Rattle.mp_parser.specs.Syntax.{Spot, Wildcard, Tree, Symbol, Apply, InfixOf, Wild, Counted, Optional, Variable}
use Rattle.mp_parser.specs.Syntax.{Trees, no_trees, more_trees, Flag, Assoc, Comm, One, Infixed, Amount, Number}
use Rattle.mp_parser.specs.Syntax.{Measured, Atom, Compare, Relate, Test, Literal, AtomOf, Bracketed, Literals}
use Rattle.mp_parser.specs.Syntax.{no_literals, more_literals, Condition, no_alternatives, more_alternatives}
use Rattle.mp_parser.specs.Syntax.{measure_word, sense_sign, relation_word, property_word, Position, Root, Path}
use Rattle.mp_parser.specs.Syntax.{Replacement, Single, Listed, Change, Statement, OpOf, KindOf, RuleOf, SubjectOf}
use Rattle.mp_parser.specs.Syntax.{EditOf}

-- ---- text

-- a wildcard: its name, its underscores and its kind
abbrev pub wildcard_text : Wildcard → List ℕ
wildcard_text w = w.name ++ (underscores w.marks ++ w.kind)

-- a wildcard and a colon
abbrev pub text_with_colon : Wildcard → List ℕ
text_with_colon w = wildcard_text w ++ codes ":"

-- [+]
abbrev pub plus_text : Bool → List ℕ
plus_text true = codes "+"
plus_text false = []

-- {NUM} or {NUM+}
abbrev pub count_text : Spot → Bool → List ℕ
count_text count more = codes "{" ++ (count.text ++ (plus_text more ++ codes "}"))

abbrev mutual
  -- WORD, WORD(EXPR, EXPR), (EXPR SIGN EXPR), a wildcard, perhaps with its count in braces or a colon and its default,
  -- or $WORD
  pub tree_text : Tree → List ℕ
  tree_text (Symbol w) = w.text
  tree_text (Apply f args) = f.text ++ (codes "(" ++ first_text (codes ", ") Close args)
  tree_text (InfixOf opened sign operands) =
      codes "(" ++ first_text (codes " " ++ (sign.text ++ codes " ")) Close operands
  tree_text (Wild w) = wildcard_text w
  tree_text (Counted w count more) = wildcard_text w ++ count_text count more
  tree_text (Optional w others default) = flat_map text_with_colon (w ∷ others) ++ tree_text default
  tree_text (Variable w) = codes "$" ++ w.text

  -- expressions with the separator between each two, and the bracket that closes
  pub first_text : List ℕ → Punct → Trees → List ℕ
  first_text separator ending no_trees = byte_of ending ∷ []
  first_text separator ending (more_trees t ts) = tree_text t ++ others_text separator ending ts

  -- the same behind an expression
  pub others_text : List ℕ → Punct → Trees → List ℕ
  others_text separator ending no_trees = byte_of ending ∷ []
  others_text separator ending (more_trees t ts) = separator ++ (tree_text t ++ others_text separator ending ts)

-- a flag behind a blank
abbrev pub flag_text : Flag → List ℕ
flag_text Assoc = codes " assoc"
flag_text Comm = codes " comm"
flag_text One = codes " one"
flag_text (Infixed sign) = codes " infix " ++ sign.text

-- a member of a kind behind a blank
abbrev pub member_text : Spot → List ℕ
member_text m = codes " " ++ m.text

-- NUM, count(EXPR) or size(EXPR)
abbrev pub amount_text : Amount → List ℕ
amount_text (Number w) = w.text
amount_text (Measured m t) = measure_word m ++ (codes "(" ++ (tree_text t ++ codes ")"))

-- AMOUNT SIGN AMOUNT, same(EXPR, EXPR) and the like, or kind(EXPR, WORD) and the like
abbrev pub atom_text : Atom → List ℕ
atom_text (Compare a sense b) = amount_text a ++ (codes " " ++ (sense_sign sense ++ (codes " " ++ amount_text b)))
atom_text (Relate r t u) = relation_word r ++ (codes "(" ++ (tree_text t ++ (codes ", " ++ (tree_text u ++ codes ")"))))
atom_text (Test p t w) = property_word p ++ (codes "(" ++ (tree_text t ++ (codes ", " ++ (w.text ++ codes ")"))))

-- [not ]
abbrev pub not_text : Bool → List ℕ
not_text true = codes "not "
not_text false = []

abbrev mutual
  -- [not ]ATOM or [not ][CONDITION] in square brackets
  pub literal_text : Literal → List ℕ
  literal_text (AtomOf negated a) = not_text negated ++ atom_text a
  literal_text (Bracketed negated c) = not_text negated ++ (codes "[" ++ (alternatives_text [] c ++ codes "]"))

  -- literals, the first behind this text and each other one behind ` and `
  pub literals_text : List ℕ → Literals → List ℕ
  literals_text before no_literals = []
  literals_text before (more_literals l ls) = before ++ (literal_text l ++ literals_text (codes " and ") ls)

  -- alternatives, the first behind this text and each other one behind ` or `
  pub alternatives_text : List ℕ → Condition → List ℕ
  alternatives_text before no_alternatives = []
  alternatives_text before (more_alternatives a c) =
      before ++ (literals_text [] a ++ alternatives_text (codes " or ") c)

-- a condition
abbrev pub condition_text : Condition → List ℕ
condition_text c = alternatives_text [] c

-- [ if CONDITION]
abbrev pub if_text : Option Condition → List ℕ
if_text None = []
if_text (Some c) = codes " if " ++ condition_text c

-- [ -> EXPR]
abbrev pub template_text : Option Tree → List ℕ
template_text None = []
template_text (Some t) = codes " -> " ++ tree_text t

-- a number behind a `.`
abbrev pub index_text : Spot → List ℕ
index_text w = codes "." ++ w.text

-- `.`, or numbers with a `.` between each two
abbrev pub position_text : Position → List ℕ
position_text (Root place) = codes "."
position_text (Path first others) = first.text ++ flat_map index_text others

-- EXPR or [EXPR, EXPR]
abbrev pub replacement_text : Replacement → List ℕ
replacement_text (Single t) = tree_text t
replacement_text (Listed ts) = codes "[" ++ first_text (codes ", ") CloseSquare ts

-- POSITION -> EXPR or POSITION -> [EXPR, EXPR]
abbrev pub change_text : Change → List ℕ
change_text c = position_text c.position ++ (codes " -> " ++ replacement_text c.terms)

-- changes, the first behind this text and each other one behind a comma
abbrev pub changes_text : List ℕ → List Change → List ℕ
changes_text before [] = []
changes_text before (c ∷ cs) = before ++ (change_text c ++ changes_text (codes ", ") cs)

-- what ends a statement and its line
abbrev pub line_end : List ℕ
line_end = codes ";\n"

-- NAME: EXPR, and what follows
abbrev pub named_text : Spot → Tree → List ℕ → List ℕ
named_text name t behind = name.text ++ (codes ": " ++ (tree_text t ++ behind))

-- a statement on a line of its own
abbrev pub statement_text : Statement → List ℕ
statement_text (OpOf name least more flags) =
    codes "op "
    ++ (name.text ++ (codes " " ++ (least.text ++ (plus_text more ++ (flat_map flag_text flags ++ line_end)))))
statement_text (KindOf name members) = codes "kind "
    ++ (name.text ++ (codes ":" ++ (flat_map member_text members ++ line_end)))
statement_text (RuleOf name t template o) =
    codes "rule " ++ named_text name t (template_text template ++ (if_text o ++ line_end))
statement_text (SubjectOf name t) = codes "subject " ++ named_text name t line_end
statement_text (EditOf name changes) =
    codes "edit " ++ (name.text ++ (codes ": " ++ (changes_text [] changes ++ line_end)))

-- the statements, one after another
abbrev pub statements_text : List Statement → List ℕ
statements_text = flat_map statement_text

-- ---- apart from places

-- the same piece at the first place
abbrev pub unplaced_spot : Spot → Spot
unplaced_spot s = record { text = s.text; place = first_place }

-- the same wildcard at the first place
abbrev pub unplaced_wildcard : Wildcard → Wildcard
unplaced_wildcard w = record { name = w.name; marks = w.marks; kind = w.kind; place = first_place }

-- the same expression with each place the first
abbrev mutual
  pub unplaced_tree : Tree → Tree
  unplaced_tree (Symbol w) = Symbol (unplaced_spot w)
  unplaced_tree (Apply f args) = Apply (unplaced_spot f) (unplaced_trees args)
  unplaced_tree (InfixOf opened sign operands) = InfixOf first_place (unplaced_spot sign) (unplaced_trees operands)
  unplaced_tree (Wild w) = Wild (unplaced_wildcard w)
  unplaced_tree (Counted w count more) = Counted (unplaced_wildcard w) (unplaced_spot count) more
  unplaced_tree (Optional w others default) =
      Optional (unplaced_wildcard w) (map unplaced_wildcard others) (unplaced_tree default)
  unplaced_tree (Variable w) = Variable (unplaced_spot w)

  pub unplaced_trees : Trees → Trees
  unplaced_trees no_trees = no_trees
  unplaced_trees (more_trees t ts) = more_trees (unplaced_tree t) (unplaced_trees ts)

-- the same amount with each place the first
abbrev pub unplaced_amount : Amount → Amount
unplaced_amount (Number w) = Number (unplaced_spot w)
unplaced_amount (Measured m t) = Measured m (unplaced_tree t)

-- the same atom with each place the first
abbrev pub unplaced_atom : Atom → Atom
unplaced_atom (Compare a sense b) = Compare (unplaced_amount a) sense (unplaced_amount b)
unplaced_atom (Relate r t u) = Relate r (unplaced_tree t) (unplaced_tree u)
unplaced_atom (Test p t w) = Test p (unplaced_tree t) (unplaced_spot w)

-- the same condition with each place the first
abbrev mutual
  pub unplaced_literal : Literal → Literal
  unplaced_literal (AtomOf negated a) = AtomOf negated (unplaced_atom a)
  unplaced_literal (Bracketed negated c) = Bracketed negated (unplaced_condition c)

  pub unplaced_literals : Literals → Literals
  unplaced_literals no_literals = no_literals
  unplaced_literals (more_literals l ls) = more_literals (unplaced_literal l) (unplaced_literals ls)

  pub unplaced_condition : Condition → Condition
  unplaced_condition no_alternatives = no_alternatives
  unplaced_condition (more_alternatives a c) = more_alternatives (unplaced_literals a) (unplaced_condition c)

-- the same condition of a rule with each place the first, where there is one
abbrev pub unplaced_if : Option Condition → Option Condition
unplaced_if None = None
unplaced_if (Some c) = Some (unplaced_condition c)

-- the same template with each place the first, where there is one
abbrev pub unplaced_template : Option Tree → Option Tree
unplaced_template None = None
unplaced_template (Some t) = Some (unplaced_tree t)

-- the same position with each place the first
abbrev pub unplaced_position : Position → Position
unplaced_position (Root place) = Root first_place
unplaced_position (Path first others) = Path (unplaced_spot first) (map unplaced_spot others)

-- the same replacement with each place the first
abbrev pub unplaced_replacement : Replacement → Replacement
unplaced_replacement (Single t) = Single (unplaced_tree t)
unplaced_replacement (Listed ts) = Listed (unplaced_trees ts)

-- the same change with each place the first
abbrev pub unplaced_change : Change → Change
unplaced_change c = record { position = unplaced_position c.position; terms = unplaced_replacement c.terms }

-- the same flag with its place the first
abbrev pub unplaced_flag : Flag → Flag
unplaced_flag Assoc = Assoc
unplaced_flag Comm = Comm
unplaced_flag One = One
unplaced_flag (Infixed sign) = Infixed (unplaced_spot sign)

-- the same statement with each place the first
abbrev pub unplaced : Statement → Statement
unplaced (OpOf name least more flags) = OpOf (unplaced_spot name) (unplaced_spot least) more (map unplaced_flag flags)
unplaced (KindOf name members) = KindOf (unplaced_spot name) (map unplaced_spot members)
unplaced (RuleOf name t template o) =
    RuleOf (unplaced_spot name) (unplaced_tree t) (unplaced_template template) (unplaced_if o)
unplaced (SubjectOf name t) = SubjectOf (unplaced_spot name) (unplaced_tree t)
unplaced (EditOf name changes) = EditOf (unplaced_spot name) (map unplaced_change changes)
