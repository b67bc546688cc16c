-- What a condition of a rule stands for, over a signature.
use Rattle.std.specs.Prelude.{ℕ, Bool, true, false, List, [], ◌∷◌, ◌++◌, Option, option_map}
use Rattle.mp_term.specs.Signature.{Sig}
use Rattle.mp_term.specs.Normal.{normal}
use Rattle.mp_pattern.specs.declared.condition.Sense as compared
use Rattle.mp_pattern.specs.declared.condition.Sense.TheVariants as way
use Rattle.mp_pattern.specs.CondTree as cond
use Rattle.mp_parser.specs.declared.condition_tree.Measure.{Measure}
use Rattle.mp_parser.specs.declared.condition_tree.Measure.TheVariants.{Count, Size}
use Rattle.mp_parser.specs.declared.condition_tree.Sense.{Sense}
use Rattle.mp_parser.specs.declared.condition_tree.Sense.TheVariants.{Lt, Le, Gt, Ge, Eq, Ne}
use Rattle.mp_parser.specs.declared.condition_tree.Relation.{Relation}
use Rattle.mp_parser.specs.declared.condition_tree.Relation.TheVariants.{Same, Less, Free}
use Rattle.mp_parser.specs.declared.condition_tree.Property.{Property}
use Rattle.mp_parser.specs.declared.condition_tree.Property.TheVariants.{Kind, Head}
use Rattle.mp_parser.specs.Syntax.{Tree, Variable, Amount, Number, Measured, Atom, Compare, Relate, Test, Literal}
use Rattle.mp_parser.specs.Syntax.{AtomOf, Bracketed, Literals, no_literals, more_literals, Condition, no_alternatives}
use Rattle.mp_parser.specs.Syntax.{more_alternatives}
use Rattle.mp_build.specs.Names.{number_of}
use Rattle.mp_build.specs.Build.{op_number, kind_number, head_number, term_of}

-- ---- atoms

-- the atoms of a condition, in order
abbrev mutual
  pub literal_atoms : Literal → List Atom
  literal_atoms (AtomOf negated a) = a ∷ []
  literal_atoms (Bracketed negated c) = atoms c

  pub literals_atoms : Literals → List Atom
  literals_atoms no_literals = []
  literals_atoms (more_literals l ls) = literal_atoms l ++ literals_atoms ls

  pub atoms : Condition → List Atom
  atoms no_alternatives = []
  atoms (more_alternatives ls c) = literals_atoms ls ++ atoms c

-- the operand of an amount, where it has one
abbrev pub amount_operands : Amount → List Tree
amount_operands (Number n) = []
amount_operands (Measured m t) = t ∷ []

-- the operands of an atom, in order
abbrev pub atom_operands : Atom → List Tree
atom_operands (Compare m s n) = amount_operands m ++ amount_operands n
atom_operands (Relate r t u) = t ∷ u ∷ []
atom_operands (Test p t n) = t ∷ []

-- ---- meaning

-- count(OPERAND) or size(OPERAND)
abbrev pub measured : Measure → cond.Operand → cond.Amount
measured Count a = cond.count a
measured Size a = cond.size a

-- < <= > >= == !=
abbrev pub sense_of : Sense → compared.Sense
sense_of Lt = way.Lt
sense_of Le = way.Le
sense_of Gt = way.Gt
sense_of Ge = way.Ge
sense_of Eq = way.Eq
sense_of Ne = way.Ne

-- same(OPERAND, OPERAND), less(OPERAND, OPERAND) or free(OPERAND, OPERAND)
abbrev pub related : Relation → cond.Operand → cond.Operand → cond.Cond
related Same a b = cond.same a b
related Less a b = cond.less a b
related Free a b = cond.free a b

-- a condition, or its negation
abbrev pub negated_if : Bool → cond.Cond → cond.Cond
negated_if true c = cond.negation c
negated_if false c = c

-- several conditions are joined, and one is that one
abbrev pub joined : (cond.Conds → cond.Cond) → cond.Conds → cond.Cond
joined join (cond.more_conds c cond.no_conds) = c
joined join cs = join cs

module _ (sig : Sig) where
  -- kind(OPERAND, NAME) or head(OPERAND, NAME), with the kind or the operation of that name
  abbrev pub tested : Property → cond.Operand → List ℕ → cond.Cond
  tested Kind a name = cond.of_kind a (head_number (kind_number sig name))
  tested Head a name = cond.headed a (head_number (op_number sig name))

  -- $NAME as a whole is the variable, and each other operand the normal form of its term
  abbrev pub operand_of : Tree → cond.Operand
  operand_of (Variable x) = cond.var x.text
  operand_of t = cond.ground (normal sig (term_of sig t))

  -- a number is its value
  abbrev pub amount_of : Amount → cond.Amount
  amount_of (Number n) = cond.fixed (number_of n.text)
  amount_of (Measured m t) = measured m (operand_of t)

  -- an atom with its operands
  abbrev pub atom_of : Atom → cond.Cond
  atom_of (Compare m s n) = cond.amounts (amount_of m) (sense_of s) (amount_of n)
  atom_of (Relate r t u) = related r (operand_of t) (operand_of u)
  atom_of (Test p t n) = tested p (operand_of t) n.text

  -- `not` negates, `and` joins to a conjunction and `or` to a disjunction, one part is that part, and brackets leave no
  -- trace
  abbrev mutual
    pub literal_of : Literal → cond.Cond
    literal_of (AtomOf negated a) = negated_if negated (atom_of a)
    literal_of (Bracketed negated c) = negated_if negated (joined cond.any_of (alternatives_of c))

    pub literals_of : Literals → cond.Conds
    literals_of no_literals = cond.no_conds
    literals_of (more_literals l ls) = cond.more_conds (literal_of l) (literals_of ls)

    pub alternatives_of : Condition → cond.Conds
    alternatives_of no_alternatives = cond.no_conds
    alternatives_of (more_alternatives ls c) = cond.more_conds (joined cond.all_of (literals_of ls)) (alternatives_of c)

  -- an alternative
  abbrev pub alternative_of : Literals → cond.Cond
  alternative_of ls = joined cond.all_of (literals_of ls)

  -- a condition
  abbrev pub cond_of : Condition → cond.Cond
  cond_of c = joined cond.any_of (alternatives_of c)

  -- the condition of a rule, where it has one
  abbrev pub condition_of : Option Condition → Option cond.Cond
  condition_of o = option_map cond_of o
