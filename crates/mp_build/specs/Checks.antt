-- The checks of expressions and declarations: all faults that they find, in the order in which they count.
use Rattle.std.specs.Prelude.{ℕ, ◌+◌, ◌==◌, Bool, false, ◌&&◌, ◌||◌, not, List, [], ◌∷◌, ◌++◌, length, map, flat_map}
use Rattle.std.specs.Prelude.{Option, Some, None, is_some, is_none, option_and_then, slice_get, nat_le, nat_lt}
use Rattle.std.specs.Prelude.{if◌then◌else◌}
use Rattle.std.specs.List.{list_any}
use Rattle.mp_term.specs.declared.signature.OpDecl.{OpDecl}
use Rattle.mp_term.specs.declared.limits.TheConstants.{MAX_ARITY, MAX_OPS, MAX_KINDS, MAX_KIND_SYMBOLS}
use Rattle.mp_term.specs.Signature.{Sig, allows, in_order, has_sign, kind_names}
use Rattle.mp_pattern.specs.declared.limits.TheConstants.{MAX_PATTERN_NODES, MAX_DEFAULT_NODES, MAX_VARIABLES}
use Rattle.mp_pattern.specs.declared.limits.TheConstants.{MAX_OPERAND_NODES, MAX_TERM_NODES, MAX_COUNT}
use Rattle.mp_pattern.specs.PatternTree.{is_loose}
use Rattle.mp_pattern.specs.SoundRule.{allows_patterns}
use Rattle.mp_parser.specs.declared.place.Place.{Place}
use Rattle.mp_parser.specs.Syntax.{Spot, Wildcard, Tree, Symbol, Apply, InfixOf, Wild, Optional, Counted, Variable}
use Rattle.mp_parser.specs.Syntax.{Trees, no_trees, more_trees, tree_list, Flag, Statement, OpOf, KindOf, RuleOf}
use Rattle.mp_parser.specs.Syntax.{SubjectOf, EditOf}
use Rattle.mp_build.specs.declared.fault.TextKind.{TextKind}
use Rattle.mp_build.specs.declared.fault.TextKind.TheVariants.{DuplicateName, TooMany, BadFlags, UnknownOp}
use Rattle.mp_build.specs.declared.fault.TextKind.TheVariants.{BareOperation, UnknownKind, Arity, KindClash}
use Rattle.mp_build.specs.declared.fault.TextKind.TheVariants.{LooseSequence, WildcardInTerm, BadCount}
use Rattle.mp_build.specs.declared.fault.TextFault.{TextFault}
use Rattle.mp_build.specs.Names.{is_among, number_of}
use Rattle.mp_build.specs.Flags.{some_flag_twice, sign_spot, is_long_sign}
use Rattle.mp_build.specs.Scope.{variable_names}
use Rattle.mp_build.specs.Wildcards.{PatternWildcard, without_default, with_count, with_default_form, pattern_wildcards}
use Rattle.mp_build.specs.Wildcards.{differs}
use Rattle.mp_build.specs.Build.{op_number, sign_number, kind_number, marked_shape, count_of, counted_shape, pattern_of}
use Rattle.mp_build.specs.Build.{op_decl, op_decls, sig_with}

-- ---- faults

-- a fault of this kind at the place
abbrev pub fault_at : TextKind → Place → TextFault
fault_at kind place = record { kind = kind; line = place.line; column = place.column }

-- a fault of this kind at the place, where the test holds
abbrev pub fault_if : Bool → TextKind → Place → List TextFault
fault_if test kind place = if test then fault_at kind place ∷ [] else []

-- ---- limits

-- the symbols, applications, wildcards and variables of an expression; a wildcard with its default is one
abbrev mutual
  pub nodes : Tree → ℕ
  nodes (Symbol w) = 1
  nodes (Apply f args) = all_nodes args + 1
  nodes (InfixOf opened sign operands) = all_nodes operands + 1
  nodes (Wild w) = 1
  nodes (Optional w others default) = 1
  nodes (Counted w count more) = 1
  nodes (Variable x) = 1

  pub all_nodes : Trees → ℕ
  all_nodes no_trees = 0
  all_nodes (more_trees t ts) = nodes t + all_nodes ts

-- a default in the expression has more than MAX_DEFAULT_NODES nodes
abbrev mutual
  pub has_large_default : Tree → Bool
  has_large_default (Symbol w) = false
  has_large_default (Apply f args) = some_large_default args
  has_large_default (InfixOf opened sign operands) = some_large_default operands
  has_large_default (Wild w) = false
  has_large_default (Optional w others default) = nat_lt MAX_DEFAULT_NODES (nodes default) || has_large_default default
  has_large_default (Counted w count more) = false
  has_large_default (Variable x) = false

  pub some_large_default : Trees → Bool
  some_large_default no_trees = false
  some_large_default (more_trees t ts) = has_large_default t || some_large_default ts

-- a pattern has more than MAX_PATTERN_NODES nodes or more than MAX_VARIABLES variables, or a default in it is large
abbrev pub is_large_pattern : Tree → Bool
is_large_pattern p = nat_lt MAX_PATTERN_NODES (nodes p)
    || (nat_lt MAX_VARIABLES (length (variable_names p)) || has_large_default p)

-- an operand of a condition has more than MAX_OPERAND_NODES nodes, or a default in it is large
abbrev pub is_large_operand : Tree → Bool
is_large_operand t = nat_lt MAX_OPERAND_NODES (nodes t) || has_large_default t

-- a term has more than MAX_TERM_NODES nodes, or a default in it is large
abbrev pub is_large_term : Tree → Bool
is_large_term t = nat_lt MAX_TERM_NODES (nodes t) || has_large_default t

-- ---- wildcards

-- the faults of the count of a wildcard: it is above MAX_COUNT; it is 0 and no `+` stands behind it
abbrev pub count_faults : Spot → Bool → List TextFault
count_faults count more = fault_if (nat_lt MAX_COUNT (number_of count.text)) TooMany count.place
    ++ fault_if ((number_of count.text == 0) && not more) BadCount count.place

-- the fault of a plus, star, counted or optional wildcard that stands alone
abbrev pub loose_faults : Tree → List TextFault
loose_faults (Wild w) = fault_if (is_loose (marked_shape w.marks)) LooseSequence w.place
loose_faults (Optional w others default) = fault_at LooseSequence w.place ∷ []
loose_faults (Counted w count more) = fault_if (is_loose (counted_shape (count_of count) more)) LooseSequence w.place
loose_faults _ = []

-- ---- expressions

-- no operation has the name, or it doesn't pass the test on its number of arguments
abbrev pub head_faults : (OpDecl → Bool) → Spot → Option OpDecl → List TextFault
head_faults passes f None = fault_at UnknownOp f.place ∷ []
head_faults passes f (Some d) = fault_if (not (passes d)) Arity f.place

-- the operation doesn't pass the test on its number of arguments
abbrev pub arity_faults : (OpDecl → Bool) → Place → Option OpDecl → List TextFault
arity_faults passes opened None = []
arity_faults passes opened (Some d) = fault_if (not (passes d)) Arity opened

-- no operation has the sign
abbrev pub sign_faults : Spot → Option OpDecl → List TextFault
sign_faults sign None = fault_at UnknownOp sign.place ∷ []
sign_faults sign (Some d) = []

module _ (sig : Sig) where
  -- the operation of that number, where there is one
  abbrev pub op_at : Option ℕ → Option OpDecl
  op_at number = option_and_then (slice_get sig.ops) number

  -- the first operation of that name, where there is one
  abbrev pub op_named : List ℕ → Option OpDecl
  op_named name = op_at (op_number sig name)

  -- the first operation of that sign, where there is one
  abbrev pub op_signed : List ℕ → Option OpDecl
  op_signed sign = op_at (sign_number sig sign)

  -- a symbol has the name of an operation
  abbrev pub symbol_faults : Spot → List TextFault
  symbol_faults w = fault_if (is_some (op_number sig w.text)) BareOperation w.place

  -- no kind has the name of the wildcard's kind
  abbrev pub kind_unknown : List ℕ → Bool
  kind_unknown [] = false
  kind_unknown (byte ∷ bytes) = is_none (kind_number sig (byte ∷ bytes))

  -- the faults of a wildcard in a term: no kind has its kind's name; it stands in a term
  abbrev pub term_wildcard_faults : Wildcard → List TextFault
  term_wildcard_faults w = fault_if (kind_unknown w.kind) UnknownKind w.place ++ fault_at WildcardInTerm w.place ∷ []

  -- the faults of a term, by token: a variable stands in none; where a sign stands between operands, the first one
  -- stands before it
  abbrev mutual
    pub term_faults : Tree → List TextFault
    term_faults (Symbol w) = symbol_faults w
    term_faults (Apply f args) = head_faults (allows (length (tree_list args))) f (op_named f.text)
        ++ all_term_faults args
    term_faults (InfixOf opened sign operands) =
        arity_faults (allows (length (tree_list operands))) opened (op_signed sign.text)
        ++ term_operand_faults (sign_faults sign (op_signed sign.text)) operands
    term_faults (Wild w) = term_wildcard_faults w
    term_faults (Optional w others default) = flat_map term_wildcard_faults (w ∷ others) ++ term_faults default
    term_faults (Counted w count more) = term_wildcard_faults w ++ count_faults count more
    term_faults (Variable x) = fault_at WildcardInTerm x.place ∷ []

    pub term_operand_faults : List TextFault → Trees → List TextFault
    term_operand_faults at_sign no_trees = at_sign
    term_operand_faults at_sign (more_trees t ts) = term_faults t ++ (at_sign ++ all_term_faults ts)

    pub all_term_faults : Trees → List TextFault
    all_term_faults no_trees = []
    all_term_faults (more_trees t ts) = term_faults t ++ all_term_faults ts

  -- the faults of a default, by token: each further wildcard of its chain stands in a term, and so does what stands
  -- behind them
  abbrev pub default_faults : List Wildcard → Tree → List TextFault
  default_faults others default = flat_map term_wildcard_faults others ++ term_faults default

  -- the faults of a wildcard behind others: no kind has its kind's name; one of the others has its name, and another
  -- class, kind, count or default
  abbrev pub wildcard_faults : List PatternWildcard → PatternWildcard → List TextFault
  wildcard_faults before w = fault_if (kind_unknown w.wildcard.kind) UnknownKind w.wildcard.place
      ++ fault_if (list_any (differs w) before) KindClash w.wildcard.place

  -- the operation allows a number of arguments that the patterns of these expressions may take
  abbrev pub allows_args : Trees → OpDecl → Bool
  allows_args args = allows_patterns (map (pattern_of sig) (tree_list args))

  -- the faults of a pattern behind wildcards, by token, in the same way
  abbrev mutual
    pub pattern_faults : List PatternWildcard → Tree → List TextFault
    pattern_faults before (Symbol w) = symbol_faults w
    pattern_faults before (Apply f args) = head_faults (allows_args args) f (op_named f.text)
        ++ all_pattern_faults before args
    pattern_faults before (InfixOf opened sign operands) =
        arity_faults (allows_args operands) opened (op_signed sign.text)
        ++ pattern_operand_faults before (sign_faults sign (op_signed sign.text)) operands
    pattern_faults before (Wild w) = wildcard_faults before (without_default w)
    pattern_faults before (Optional w others default) =
        wildcard_faults before (with_default_form sig w others default) ++ default_faults others default
    pattern_faults before (Counted w count more) =
        wildcard_faults before (with_count w count more) ++ count_faults count more
    pattern_faults before (Variable x) = fault_at WildcardInTerm x.place ∷ []

    pub pattern_operand_faults : List PatternWildcard → List TextFault → Trees → List TextFault
    pattern_operand_faults before at_sign no_trees = at_sign
    pattern_operand_faults before at_sign (more_trees t ts) =
        pattern_faults before t ++ (at_sign ++ all_pattern_faults (before ++ pattern_wildcards sig t) ts)

    pub all_pattern_faults : List PatternWildcard → Trees → List TextFault
    all_pattern_faults before no_trees = []
    all_pattern_faults before (more_trees t ts) =
        pattern_faults before t ++ all_pattern_faults (before ++ pattern_wildcards sig t) ts

  -- The faults of a whole pattern, which is no plus, star, counted or optional wildcard. One that is has no other fault
  -- at its token: it has no kind, and stands behind no other.
  abbrev pub whole_pattern_faults : Tree → List TextFault
  whole_pattern_faults p = loose_faults p ++ pattern_faults [] p

-- ---- statements

-- The faults at the name of a statement: an earlier one of its sort has the name; there are as many earlier ones as may
-- be; the statement is too large.
abbrev pub name_faults : ℕ → List (List ℕ) → Bool → Spot → List TextFault
name_faults most earlier is_large name = fault_if (is_among name.text earlier) DuplicateName name.place
    ++ fault_if (nat_le most (length earlier) || is_large) TooMany name.place

-- a flag stands twice, the sign is too long, or the declaration isn't in order
abbrev pub has_bad_flags : Spot → Spot → Bool → List Flag → Bool
has_bad_flags name least more flags = some_flag_twice flags
    || (is_long_sign (sign_spot flags) || not (in_order (op_decl name least more flags)))

-- an earlier operation has the sign
abbrev pub held_sign_faults : List OpDecl → Option Spot → List TextFault
held_sign_faults earlier None = []
held_sign_faults earlier (Some sign) = fault_if (list_any (has_sign sign.text) earlier) DuplicateName sign.place

-- The faults of a declaration behind earlier operations: at its name, at its number, which is at most MAX_ARITY, and at
-- its sign. There are at most MAX_OPS operations.
abbrev pub op_faults : List OpDecl → Spot → Spot → Bool → List Flag → List TextFault
op_faults earlier name least more flags =
    name_faults MAX_OPS (map (λ d. d.name) earlier) false name
    ++ (fault_if (has_bad_flags name least more flags) BadFlags name.place
    ++ (fault_if (nat_lt MAX_ARITY (number_of least.text)) TooMany least.place
    ++ held_sign_faults earlier (sign_spot flags)))

-- The faults of a kind behind what is declared: at its name, and at each member. There are at most MAX_KINDS kinds,
-- with the numbers, and at most MAX_KIND_SYMBOLS members are written.
abbrev pub kind_faults : Sig → Spot → List Spot → List TextFault
kind_faults sig name members = name_faults MAX_KINDS (kind_names sig) (nat_lt MAX_KIND_SYMBOLS (length members)) name
    ++ flat_map (symbol_faults sig) members

-- the faults of a statement that declares an operation, behind earlier statements
abbrev pub op_statement_faults : List Statement → Statement → List TextFault
op_statement_faults earlier (OpOf name least more flags) = op_faults (op_decls earlier) name least more flags
op_statement_faults earlier (KindOf name members) = []
op_statement_faults earlier (RuleOf name p x c) = []
op_statement_faults earlier (SubjectOf name t) = []
op_statement_faults earlier (EditOf subject changes) = []

-- the faults of a statement that declares a kind, over the operations of the file and behind earlier statements
abbrev pub kind_statement_faults : List OpDecl → List Statement → Statement → List TextFault
kind_statement_faults ds earlier (OpOf name least more flags) = []
kind_statement_faults ds earlier (KindOf name members) = kind_faults (sig_with ds earlier) name members
kind_statement_faults ds earlier (RuleOf name p x c) = []
kind_statement_faults ds earlier (SubjectOf name t) = []
kind_statement_faults ds earlier (EditOf subject changes) = []

-- the faults of each statement behind the earlier ones, by a rule for one
abbrev pub faults_by : (List Statement → Statement → List TextFault) → List Statement → List Statement → List TextFault
faults_by rule earlier [] = []
faults_by rule earlier (s ∷ ss) = rule earlier s ++ faults_by rule (earlier ++ s ∷ []) ss

-- the faults of a file's declarations: those of its operations, and then those of its kinds
abbrev pub declaration_faults : List Statement → List TextFault
declaration_faults ss = faults_by op_statement_faults [] ss ++ faults_by (kind_statement_faults (op_decls ss)) [] ss
