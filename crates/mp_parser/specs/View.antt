-- The Rust types of the syntax as plain data.
use Rattle.std.specs.Prelude.{map, Option, Some, None}
use Rattle.std.specs.Borrow.{Bor}
use Rattle.mp_parser.specs.declared.word.Word as code_word
use Rattle.mp_parser.specs.declared.word.InfixSign as code_sign
use Rattle.mp_parser.specs.declared.token.Token as code_token
use Rattle.mp_parser.specs.declared.tree.Wildcard as code_wildcard
use Rattle.mp_parser.specs.declared.tree.Expr.{Expr, Symbol, Apply', Infix', Wild, Counted, Optional', Variable}
use Rattle.mp_parser.specs.declared.tree.Expr.{Row_of-Expr, end_of-Expr, more_of-Expr}
use Rattle.mp_parser.specs.declared.tree.Flag as code_flag
use Rattle.mp_parser.specs.declared.tree.Flag.TheVariants as code_flags
use Rattle.mp_parser.specs.declared.tree.Position as code_position
use Rattle.mp_parser.specs.declared.tree.Position.TheVariants as code_positions
use Rattle.mp_parser.specs.declared.tree.Replacement as code_replacement
use Rattle.mp_parser.specs.declared.tree.Replacement.TheVariants as code_replacements
use Rattle.mp_parser.specs.declared.tree.Change as code_change
use Rattle.mp_parser.specs.declared.tree.Statement as code_statement
use Rattle.mp_parser.specs.declared.tree.Statement.TheVariants as code_statements
use Rattle.mp_parser.specs.declared.condition_tree.Amount as code_amount
use Rattle.mp_parser.specs.declared.condition_tree.Amount.TheVariants as code_amounts
use Rattle.mp_parser.specs.declared.condition_tree.Atom as code_atom
use Rattle.mp_parser.specs.declared.condition_tree.Atom.TheVariants as code_atoms
use Rattle.mp_parser.specs.declared.condition_tree.Literal as code_literal
use Rattle.mp_parser.specs.declared.condition_tree.Alternative as code_alternative
use Rattle.mp_parser.specs.declared.condition_tree.Alternative.{Row_of-Literal, end_of-Literal, more_of-Literal}
use Rattle.mp_parser.specs.declared.condition_tree.Condition as code_condition
use Rattle.mp_parser.specs.declared.condition_tree.Condition.{Condition', Row_of-Alternative, end_of-Alternative}
use Rattle.mp_parser.specs.declared.condition_tree.Condition.{more_of-Alternative}
use Rattle.mp_parser.specs.Tokens.{Placed}
use Rattle.mp_parser.specs.Lexing.{token_of}
use Rattle.mp_parser.specs.Syntax as syntax
use Rattle.mp_parser.specs.Syntax.{Spot, Wildcard, Tree, Trees, Flag, Amount, Atom, Literal, Literals, Condition}
use Rattle.mp_parser.specs.Syntax.{Position, Replacement, Change, Statement, no_trees, more_trees, trees, no_literals}
use Rattle.mp_parser.specs.Syntax.{more_literals, literals, no_alternatives, more_alternatives}

-- the token with its place
abbrev pub placed : code_token.Token → Placed
placed t = record { token = token_of t.kind; place = t.place }

-- the word as plain data
abbrev pub spot_of : code_word.Word → Spot
spot_of w = record { text = w.text.now; place = w.place }

-- the sign as plain data
abbrev pub spot_of_sign : code_sign.InfixSign → Spot
spot_of_sign s = record { text = s.text.now; place = s.place }

-- the wildcard as plain data
abbrev pub wildcard_of : code_wildcard.Wildcard → Wildcard
wildcard_of w = record { name = w.name.now; marks = w.marks; kind = w.kind.now; place = w.place }

-- the expression as a tree
abbrev mutual
  pub expr_tree : Expr → Tree
  expr_tree (Symbol w) = syntax.Symbol (spot_of w)
  expr_tree (Apply' f p shape row) = syntax.Apply (spot_of f) (row_trees row)
  expr_tree (Infix' opened sign p shape row) = syntax.InfixOf opened (spot_of_sign sign) (row_trees row)
  expr_tree (Wild w) = syntax.Wild (wildcard_of w)
  expr_tree (Counted w count more) = syntax.Counted (wildcard_of w.now) (spot_of count.now) more
  expr_tree (Optional' w others p default) =
      syntax.Optional (wildcard_of w.now) (map wildcard_of others.now) (expr_tree default)
  expr_tree (Variable w) = syntax.Variable (spot_of w)

  pub row_trees : {n : _} → Row_of-Expr n → Trees
  row_trees end_of-Expr = no_trees
  row_trees (more_of-Expr e row) = more_trees (expr_tree e) (row_trees row)

-- the flag as plain data
abbrev pub flag_of : code_flag.Flag → Flag
flag_of code_flags.Assoc = syntax.Assoc
flag_of code_flags.Comm = syntax.Comm
flag_of code_flags.One = syntax.One
flag_of (code_flags.Infix sign) = syntax.Infixed (spot_of_sign sign)

-- the amount as plain data
abbrev pub amount_tree : code_amount.Amount → Amount
amount_tree (code_amounts.Number w) = syntax.Number (spot_of w)
amount_tree (code_amounts.Measured m e) = syntax.Measured m (expr_tree e)

-- the atom as plain data
abbrev pub atom_tree : code_atom.Atom → Atom
atom_tree (code_atoms.Compare a sense b) = syntax.Compare (amount_tree a) sense (amount_tree b)
atom_tree (code_atoms.Relate r e f) = syntax.Relate r (expr_tree e) (expr_tree f)
atom_tree (code_atoms.Test p e w) = syntax.Test p (expr_tree e) (spot_of w)

-- the literal and the condition as plain data
abbrev mutual
  pub literal_tree : code_literal.Literal → Literal
  literal_tree (code_literal.Atom negated a) = syntax.AtomOf negated (atom_tree a)
  literal_tree (code_literal.Bracketed negated c) = syntax.Bracketed negated (condition_tree c)

  pub row_literals : {n : _} → Row_of-Literal n → Literals
  row_literals end_of-Literal = no_literals
  row_literals (more_of-Literal l row) = more_literals (literal_tree l) (row_literals row)

  pub row_alternatives : {n : _} → Row_of-Alternative n → Condition
  row_alternatives end_of-Alternative = no_alternatives
  row_alternatives (more_of-Alternative shape ls row) = more_alternatives (row_literals ls) (row_alternatives row)

  pub condition_tree : code_condition.Condition → Condition
  condition_tree (Condition' shape row) = row_alternatives row

-- the literals of an alternative as plain data
abbrev pub alternative_tree : code_alternative.Alternative → Literals
alternative_tree a = literals (map literal_tree a.literals.items)

-- the condition as plain data, where there is one
abbrev pub if_tree : Option code_condition.Condition → Option Condition
if_tree None = None
if_tree (Some c) = Some (condition_tree c)

-- the template as plain data, where there is one
abbrev pub arrow_tree : Option (Bor Expr) → Option Tree
arrow_tree None = None
arrow_tree (Some e) = Some (expr_tree e.now)

-- the position as plain data
abbrev pub position_of : code_position.Position → Position
position_of (code_positions.Root place) = syntax.Root place
position_of (code_positions.Path first others) = syntax.Path (spot_of first) (map spot_of others.items)

-- the replacement as plain data
abbrev pub replacement_tree : code_replacement.Replacement → Replacement
replacement_tree (code_replacements.Single e) = syntax.Single (expr_tree e)
replacement_tree (code_replacements.Listed es) = syntax.Listed (trees (map expr_tree es.now))

-- the change as plain data
abbrev pub change_tree : code_change.Change → Change
change_tree c = record { position = position_of c.position; terms = replacement_tree c.terms }

-- the statement as plain data
abbrev pub statement_tree : code_statement.Statement → Statement
statement_tree (code_statements.Op name least more flags) =
    syntax.OpOf (spot_of name) (spot_of least) more (map flag_of flags.items)
statement_tree (code_statements.Kind name members) = syntax.KindOf (spot_of name) (map spot_of members.items)
statement_tree (code_statements.Rule name pattern template condition) =
    syntax.RuleOf (spot_of name) (expr_tree pattern.now) (arrow_tree template) (if_tree condition)
statement_tree (code_statements.Subject name term) = syntax.SubjectOf (spot_of name) (expr_tree term)
statement_tree (code_statements.Edit name changes) = syntax.EditOf (spot_of name) (map change_tree changes.items)
