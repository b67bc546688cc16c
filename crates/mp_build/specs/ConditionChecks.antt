-- The checks of a condition: all faults that they find, in the order of its tokens.
use Rattle.std.specs.Prelude.{Bool, false, ◌||◌, not, List, [], ◌++◌, length, Option, Some, None, is_none, nat_lt}
use Rattle.std.specs.List.{list_any}
use Rattle.mp_term.specs.Signature.{Sig}
use Rattle.mp_pattern.specs.declared.limits.TheConstants.{MAX_ATOMS, MAX_NUMBER}
use Rattle.mp_parser.specs.declared.condition_tree.Relation.{Relation}
use Rattle.mp_parser.specs.declared.condition_tree.Relation.TheVariants.{Same, Less, Free}
use Rattle.mp_parser.specs.declared.condition_tree.Property.{Property}
use Rattle.mp_parser.specs.declared.condition_tree.Property.TheVariants.{Kind, Head}
use Rattle.mp_parser.specs.Syntax.{Spot, Tree, Variable, Amount, Number, Measured, Atom, Compare, Relate, Test, Literal}
use Rattle.mp_parser.specs.Syntax.{AtomOf, Bracketed, Literals, no_literals, more_literals, Condition, no_alternatives}
use Rattle.mp_parser.specs.Syntax.{more_alternatives}
use Rattle.mp_build.specs.declared.fault.TextKind.TheVariants.{TooMany, UnknownOp, UnknownKind, UnboundVariable}
use Rattle.mp_build.specs.declared.fault.TextKind.TheVariants.{ConditionKind}
use Rattle.mp_build.specs.declared.fault.TextFault.{TextFault}
use Rattle.mp_build.specs.Names.{number_of}
use Rattle.mp_build.specs.Build.{op_number, kind_number}
use Rattle.mp_build.specs.Checks.{fault_if, is_large_operand, term_faults}
use Rattle.mp_build.specs.Scope.{Scope, is_bound, is_bound_sequence}
use Rattle.mp_build.specs.Conditions.{amount_operands, atom_operands, atoms}

-- ---- limits

-- the operand, where there is one, is large
abbrev pub has_large_amount : Amount → Bool
has_large_amount m = list_any is_large_operand (amount_operands m)

-- one of the operands is large
abbrev pub has_large_operand : Atom → Bool
has_large_operand a = list_any is_large_operand (atom_operands a)

-- a condition has more than MAX_ATOMS atoms, or a large operand
abbrev pub is_large_condition : Condition → Bool
is_large_condition c = nat_lt MAX_ATOMS (length (atoms c)) || list_any has_large_operand (atoms c)

-- a condition that there is has so
abbrev pub has_large_condition : Option Condition → Bool
has_large_condition None = false
has_large_condition (Some c) = is_large_condition c

-- ---- variables

-- the pattern has no variable of the name
abbrev pub unbound_faults : Scope → Spot → List TextFault
unbound_faults None x = []
unbound_faults (Some vs) x = fault_if (not (is_bound vs x.text)) UnboundVariable x.place

-- the variable of the name may stand for several terms
abbrev pub sequence_faults : Scope → Spot → List TextFault
sequence_faults None x = []
sequence_faults (Some vs) x = fault_if (is_bound_sequence vs x.text) ConditionKind x.place

-- the fault of an operand that stands for one term: it is such a variable
abbrev pub single_faults : Scope → Tree → List TextFault
single_faults scope (Variable x) = sequence_faults scope x
single_faults scope _ = []

-- ---- conditions

module _ (sig : Sig) where
  -- no kind or no operation has the name
  abbrev pub property_faults : Property → Spot → List TextFault
  property_faults Kind n = fault_if (is_none (kind_number sig n.text)) UnknownKind n.place
  property_faults Head n = fault_if (is_none (op_number sig n.text)) UnknownOp n.place

  module _ (scope : Scope) where
    -- the faults of an operand: of a variable that it isn't bound, and else those of a term
    abbrev pub operand_faults : Tree → List TextFault
    operand_faults (Variable x) = unbound_faults scope x
    operand_faults t = term_faults sig t

    -- the faults of an operand of a relation: one of `less` stands for one term
    abbrev pub related_faults : Relation → Tree → List TextFault
    related_faults Same t = operand_faults t
    related_faults Less t = operand_faults t ++ single_faults scope t
    related_faults Free t = operand_faults t

    -- the faults of an amount: a number is at most MAX_NUMBER
    abbrev pub amount_faults : Amount → List TextFault
    amount_faults (Number n) = fault_if (nat_lt MAX_NUMBER (number_of n.text)) TooMany n.place
    amount_faults (Measured m t) = operand_faults t

    -- the faults of an atom, by token
    abbrev pub atom_faults : Atom → List TextFault
    atom_faults (Compare m s n) = amount_faults m ++ amount_faults n
    atom_faults (Relate r t u) = related_faults r t ++ related_faults r u
    atom_faults (Test p t n) = operand_faults t ++ property_faults p n

    -- the faults of a condition, by token: those of its atoms
    abbrev mutual
      pub literal_faults : Literal → List TextFault
      literal_faults (AtomOf negated a) = atom_faults a
      literal_faults (Bracketed negated c) = condition_faults c

      pub literals_faults : Literals → List TextFault
      literals_faults no_literals = []
      literals_faults (more_literals l ls) = literal_faults l ++ literals_faults ls

      pub condition_faults : Condition → List TextFault
      condition_faults no_alternatives = []
      condition_faults (more_alternatives a c) = literals_faults a ++ condition_faults c

    -- those of a condition that there is
    abbrev pub if_faults : Option Condition → List TextFault
    if_faults None = []
    if_faults (Some c) = condition_faults c
