-- What the declarations of a file stand for, and its terms, patterns and templates over a signature.
use Rattle.std.specs.Prelude.{ℕ, ◌+◌, min, ◌==◌, Bool, true, false, ◌&&◌, not, is_some, List, [], ◌∷◌, map, Option}
use Rattle.std.specs.Prelude.{Some, None, option_map, unwrap_or, position, if◌then◌else◌}
use Rattle.std.specs.Str.{bytes_eq}
use Rattle.mp_term.specs.declared.signature.OpDecl.{OpDecl}
use Rattle.mp_term.specs.Tree as term
use Rattle.mp_term.specs.Names.{name_set}
use Rattle.mp_term.specs.Signature.{Sig, Kind, has_name, has_sign, kind_names}
use Rattle.mp_term.specs.Normal.{normal}
use Rattle.mp_pattern.specs.declared.limits.TheConstants.{MAX_COUNT}
use Rattle.mp_pattern.specs.PatternTree as pattern
use Rattle.mp_pattern.specs.TemplateTree as template
use Rattle.mp_parser.specs.Syntax.{Spot, Wildcard, Tree, Symbol, Apply, InfixOf, Wild, Optional, Counted, Variable}
use Rattle.mp_parser.specs.Syntax.{Trees, no_trees, more_trees, Flag, Statement, OpOf, KindOf, RuleOf, SubjectOf}
use Rattle.mp_parser.specs.Syntax.{EditOf}
use Rattle.mp_build.specs.Flags.{says_assoc, says_comm, says_one, is_said, sign_spot}
use Rattle.mp_build.specs.Names.{number_of}

-- ---- signatures

-- op NAME LEAST FLAG ..; declares an operation of a fixed count, and op NAME LEAST+ FLAG ..; one that takes more
-- arguments too
abbrev pub op_decl : Spot → Spot → Bool → List Flag → OpDecl
op_decl name least more flags = record {
  name = name.text;
  least = number_of least.text;
  fixed = not more;
  assoc = is_said says_assoc flags;
  comm = is_said says_comm flags;
  one = is_said says_one flags;
  sign = option_map (λ s. s.text) (sign_spot flags);
}

-- kind NAME: MEMBER ..; declares a kind, whose members are a set
abbrev pub kind_decl : Spot → List Spot → Kind
kind_decl name members = record { name = name.text; members = name_set (map (λ m. m.text) members) }

-- the operations that the statements declare, in order
abbrev pub op_decls : List Statement → List OpDecl
op_decls [] = []
op_decls (OpOf name least more flags ∷ ss) = op_decl name least more flags ∷ op_decls ss
op_decls (KindOf name members ∷ ss) = op_decls ss
op_decls (RuleOf name p x c ∷ ss) = op_decls ss
op_decls (SubjectOf name t ∷ ss) = op_decls ss
op_decls (EditOf subject changes ∷ ss) = op_decls ss

-- the kinds that the statements declare, in order
abbrev pub kind_decls : List Statement → List Kind
kind_decls [] = []
kind_decls (OpOf name least more flags ∷ ss) = kind_decls ss
kind_decls (KindOf name members ∷ ss) = kind_decl name members ∷ kind_decls ss
kind_decls (RuleOf name p x c ∷ ss) = kind_decls ss
kind_decls (SubjectOf name t ∷ ss) = kind_decls ss
kind_decls (EditOf subject changes ∷ ss) = kind_decls ss

-- the signature of these operations and of the kinds that the statements declare
abbrev pub sig_with : List OpDecl → List Statement → Sig
sig_with ds ss = record { ops = ds; kinds = kind_decls ss }

-- the signature that the statements declare
abbrev pub sig_of : List Statement → Sig
sig_of ss = sig_with (op_decls ss) ss

-- ---- terms, patterns and templates

-- what a wildcard without a kind takes, by its number of underscores
abbrev pub marked_shape : ℕ → pattern.Wildcard
marked_shape marks = if marks == 3 then pattern.star else (if marks == 2 then pattern.plus else pattern.dot)

-- the count that digits write; MAX_COUNT + 1 stands for each count above MAX_COUNT, and is refused
abbrev pub count_of : Spot → ℕ
count_of digits = min (number_of digits.text) (MAX_COUNT + 1)

-- what a wildcard with a count takes, open where a `+` stands behind it: {1} is a dot, {1+} a plus and {0+} a star
abbrev pub counted_shape : ℕ → Bool → pattern.Wildcard
counted_shape count more = if count == 1 then (if more then pattern.plus else pattern.dot) else (if (count == 0) && more
    then pattern.star else pattern.counted count (not more))

-- the variable of a wildcard, which has none without a name
abbrev pub variable_of : List ℕ → Option (List ℕ)
variable_of [] = None
variable_of (byte ∷ bytes) = Some (byte ∷ bytes)

-- the number of the operation or kind, and 0 where there is none, which no checked expression has
abbrev pub head_number : Option ℕ → ℕ
head_number number = unwrap_or number 0

module _ (sig : Sig) where
  -- the number of the first operation of that name, where there is one
  abbrev pub op_number : List ℕ → Option ℕ
  op_number name = position (has_name name) sig.ops

  -- the number of the first operation of that sign, where there is one
  abbrev pub sign_number : List ℕ → Option ℕ
  sign_number sign = position (has_sign sign) sig.ops

  -- the number of the kind of that name, where there is one
  abbrev pub kind_number : List ℕ → Option ℕ
  kind_number name = position (bytes_eq name) (kind_names sig)

  -- what a wildcard of this kind takes: a symbol of the kind, and without a kind as its underscores or its count say
  abbrev pub kind_shape : List ℕ → pattern.Wildcard → pattern.Wildcard
  kind_shape [] shape = shape
  kind_shape (byte ∷ bytes) shape = pattern.kind (head_number (kind_number (byte ∷ bytes)))

  -- what a wildcard without a count takes
  abbrev pub shape_of : Wildcard → pattern.Wildcard
  shape_of w = kind_shape w.kind (marked_shape w.marks)

  -- what a wildcard with a count takes
  abbrev pub counted_shape_of : Wildcard → Spot → Bool → pattern.Wildcard
  counted_shape_of w count more = kind_shape w.kind (counted_shape (count_of count) more)

  -- A word is a symbol, a word before brackets the operation of that name, and a sign the operation of that sign. No
  -- checked term has a wildcard or a variable.
  abbrev mutual
    pub term_of : Tree → term.Tree
    term_of (Symbol w) = term.symbol w.text
    term_of (Apply f args) = term.app (head_number (op_number f.text)) (terms_of args)
    term_of (InfixOf opened sign operands) = term.app (head_number (sign_number sign.text)) (terms_of operands)
    term_of (Wild w) = term.symbol w.name
    term_of (Optional w others default) = term.symbol w.name
    term_of (Counted w count more) = term.symbol w.name
    term_of (Variable x) = term.symbol x.text

    pub terms_of : Trees → term.Trees
    terms_of no_trees = term.no_trees
    terms_of (more_trees t ts) = term.more_trees (term_of t) (terms_of ts)

  -- the expression is a term, whose operations may have any number of arguments: it holds neither a wildcard nor a
  -- variable, and each of its operations is one of the signature's
  abbrev mutual
    pub has_term : Tree → Bool
    has_term (Symbol w) = true
    has_term (Apply f args) = is_some (op_number f.text) && all_have_terms args
    has_term (InfixOf opened sign operands) = is_some (sign_number sign.text) && all_have_terms operands
    has_term (Wild w) = false
    has_term (Optional w others default) = false
    has_term (Counted w count more) = false
    has_term (Variable x) = false

    pub all_have_terms : Trees → Bool
    all_have_terms no_trees = true
    all_have_terms (more_trees t ts) = has_term t && all_have_terms ts

  -- A word is a symbol, and an application that of its operation, as in a term. A wildcard has its variable, and a
  -- default its normal form. No checked pattern has a variable by itself.
  abbrev mutual
    pub pattern_of : Tree → pattern.Pattern
    pattern_of (Symbol w) = pattern.symbol_pattern w.text
    pattern_of (Apply f args) = pattern.app_pattern (head_number (op_number f.text)) (patterns_of args)
    pattern_of (InfixOf opened sign operands) =
        pattern.app_pattern (head_number (sign_number sign.text)) (patterns_of operands)
    pattern_of (Wild w) = pattern.wild_pattern (shape_of w) (variable_of w.name)
    pattern_of (Optional w others default) =
        pattern.wild_pattern (pattern.optional (normal sig (term_of default))) (variable_of w.name)
    pattern_of (Counted w count more) = pattern.wild_pattern (counted_shape_of w count more) (variable_of w.name)
    pattern_of (Variable x) = pattern.symbol_pattern x.text

    pub patterns_of : Trees → pattern.Patterns
    patterns_of no_trees = pattern.no_patterns
    patterns_of (more_trees t ts) = pattern.more_patterns (pattern_of t) (patterns_of ts)

  -- A word is a symbol, an application that of its operation, and `$NAME` a variable. No checked template has a
  -- wildcard.
  abbrev mutual
    pub template_of : Tree → template.Template
    template_of (Symbol w) = template.symbol_template w.text
    template_of (Apply f args) = template.app_template (head_number (op_number f.text)) (templates_of args)
    template_of (InfixOf opened sign operands) =
        template.app_template (head_number (sign_number sign.text)) (templates_of operands)
    template_of (Wild w) = template.symbol_template w.name
    template_of (Optional w others default) = template.symbol_template w.name
    template_of (Counted w count more) = template.symbol_template w.name
    template_of (Variable x) = template.variable_template x.text

    pub templates_of : Trees → template.Templates
    templates_of no_trees = template.no_templates
    templates_of (more_trees t ts) = template.more_templates (template_of t) (templates_of ts)
