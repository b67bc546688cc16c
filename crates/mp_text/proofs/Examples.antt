-- Worked examples: the file of a text, and the first fault of others.
use Rattle.std.proofs.Common.{◌≡◌, ℕ, true, false, [], ◌∷◌, Option, Some, None, refl}
use Rattle.std.specs.Prelude.{codes}
use Rattle.mp_term.specs.Tree.{symbol, app, trees}
use Rattle.mp_term.proofs.Examples.{plain_decl}
use Rattle.mp_pattern.specs.PatternTree.{dot, kind, plus, star, counted, symbol_pattern, app_pattern, wild_pattern}
use Rattle.mp_pattern.specs.PatternTree.{patterns}
use Rattle.mp_pattern.specs.TemplateTree.{app_template, variable_template, templates}
use Rattle.mp_parser.specs.Lexing.{lexemes}
use Rattle.mp_build.specs.declared.fault.TextKind.{TextKind}
use Rattle.mp_build.specs.declared.fault.TextKind.TheVariants.{BadByte, Syntax, DuplicateName, TooMany, BadFlags}
use Rattle.mp_build.specs.declared.fault.TextKind.TheVariants.{UnknownOp, BareOperation, UnknownKind, Arity, KindClash}
use Rattle.mp_build.specs.declared.fault.TextKind.TheVariants.{LooseSequence, WildcardInTerm, UnboundVariable, BadCount}
use Rattle.mp_build.specs.declared.fault.TextFault.{TextFault}
use Rattle.mp_text.specs.Computed.{file_of, fault_of}

-- a fault of this kind, in line 1
abbrev at : TextKind → ℕ → Option TextFault
at what column = Some (record { kind = what; line = 1; column = column })

-- an operation, a rule and a subject
file_of-one_of_each : file_of (codes "op f 2; rule r: f(x_, a); subject s: f(0, b);") ≡ Some (record {
  sig = record {
    ops = plain_decl (codes "f") 2 true ∷ [];
    kinds = [];
  };
  rules = record {
    name = codes "r";
    pattern = app_pattern 0 (patterns (wild_pattern dot (Some (codes "x")) ∷ symbol_pattern (codes "a") ∷ []));
    template = None;
    condition = None;
  } ∷ [];
  subjects = record { name = codes "s"; term = app 0 (trees (symbol (codes "0") ∷ symbol (codes "b") ∷ [])) } ∷ [];
  edits = [];
})
unfolding lexemes
file_of-one_of_each = refl

-- flags, a sign, a kind with its members as a set, and a subject in normal form
file_of-flags : file_of (codes "op p 1+ assoc comm one infix +; kind v: b a b; subject s: (b + p(a));") ≡ Some (record {
  sig = record {
    ops = record {
      name = codes "p";
      least = 1;
      fixed = false;
      assoc = true;
      comm = true;
      one = true;
      sign = Some (codes "+");
    } ∷ [];
    kinds = record { name = codes "v"; members = codes "a" ∷ codes "b" ∷ [] } ∷ [];
  };
  rules = [];
  subjects = record { name = codes "s"; term = app 0 (trees (symbol (codes "a") ∷ symbol (codes "b") ∷ [])) } ∷ [];
  edits = [];
})
unfolding lexemes
file_of-flags = refl

-- a byte that begins no token
fault_of-bad_byte : fault_of (codes "subject s: é;") ≡ at BadByte 12
unfolding lexemes
fault_of-bad_byte = refl

-- brackets round a term alone
fault_of-bracketed_term : fault_of (codes "subject s: (a);") ≡ at Syntax 14
unfolding lexemes
fault_of-bracketed_term = refl

-- two operations of one name
fault_of-two_operations : fault_of (codes "op f 2; op f 3;") ≡ at DuplicateName 12
unfolding lexemes
fault_of-two_operations = refl

-- two rules of one name, but a subject may have the name of a rule
fault_of-two_rules : fault_of (codes "rule r: a; subject r: a; rule r: b;") ≡ at DuplicateName 31
unfolding lexemes
fault_of-two_rules = refl

-- more arguments than any operation may have
fault_of-arity_above_limit : fault_of (codes "op f 1001;") ≡ at TooMany 6
unfolding lexemes
fault_of-arity_above_limit = refl

-- an application of what is no operation
fault_of-unknown_operation : fault_of (codes "subject s: g(a);") ≡ at UnknownOp 12
unfolding lexemes
fault_of-unknown_operation = refl

-- an operation is known to the statements before its own too
fault_of-declared_later : fault_of (codes "subject s: f(a); op f 1;") ≡ None
unfolding lexemes
fault_of-declared_later = refl

-- an operation without arguments in brackets
fault_of-bare_operation : fault_of (codes "op f 2; subject s: f;") ≡ at BareOperation 20
unfolding lexemes
fault_of-bare_operation = refl

-- one argument too few
fault_of-arity : fault_of (codes "op f 2; rule r: f(x_);") ≡ at Arity 17
unfolding lexemes
fault_of-arity = refl

-- a wildcard in a term
fault_of-wildcard_in_term : fault_of (codes "subject s: x_;") ≡ at WildcardInTerm 12
unfolding lexemes
fault_of-wildcard_in_term = refl

-- the declarations are checked first, wherever they stand
fault_of-declarations_first : fault_of (codes "subject s: x_; op f 1; op f 1;") ≡ at DuplicateName 27
unfolding lexemes
fault_of-declarations_first = refl

-- an associative operation of a fixed count
fault_of-fixed_assoc : fault_of (codes "op p 2 assoc;") ≡ at BadFlags 4
unfolding lexemes
fault_of-fixed_assoc = refl

-- a flag twice, before the sign is looked at
fault_of-double_flag : fault_of (codes "op p 2 infix + infix +;") ≡ at BadFlags 4
unfolding lexemes
fault_of-double_flag = refl

-- a sign of five bytes
fault_of-long_sign : fault_of (codes "op p 2 infix +++++;") ≡ at BadFlags 4
unfolding lexemes
fault_of-long_sign = refl

-- two operations of one sign
fault_of-held_sign : fault_of (codes "op p 2 infix +; op q 2 infix +;") ≡ at DuplicateName 30
unfolding lexemes
fault_of-held_sign = refl

-- the numbers are a kind already
fault_of-numbers_as_kind : fault_of (codes "kind num: a;") ≡ at DuplicateName 6
unfolding lexemes
fault_of-numbers_as_kind = refl

-- an operation as a member of a kind, declared behind it
fault_of-operation_as_member : fault_of (codes "kind v: a f; op f 2;") ≡ at BareOperation 11
unfolding lexemes
fault_of-operation_as_member = refl

-- a sign that no operation has stands behind the first operand
fault_of-unknown_sign : fault_of (codes "subject s: (g(a) + b);") ≡ at UnknownOp 13
unfolding lexemes
fault_of-unknown_sign = refl

-- the number of operands is tested at the bracket
fault_of-infix_arity : fault_of (codes "op p 2 infix +; subject s: (p + b + c);") ≡ at Arity 28
unfolding lexemes
fault_of-infix_arity = refl

-- a wildcard of a kind that isn't declared
fault_of-unknown_kind : fault_of (codes "rule r: x_q;") ≡ at UnknownKind 9
unfolding lexemes
fault_of-unknown_kind = refl

-- two wildcards of one variable that differ, behind the name of the operation
fault_of-clash : fault_of (codes "op f 2; rule r: f(x_, x__);") ≡ at KindClash 23
unfolding lexemes
fault_of-clash = refl

-- the numbers are a kind, and no kind wildcard is a dot
fault_of-kind_clash : fault_of (codes "op f 3; rule r: f(x_num, y_, y_num);") ≡ at KindClash 30
unfolding lexemes
fault_of-kind_clash = refl

-- a wildcard for several terms alone
fault_of-loose : fault_of (codes "rule r: x__;") ≡ at LooseSequence 9
unfolding lexemes
fault_of-loose = refl

-- a fixed count may be met by plus and star wildcards, and each plus wildcard takes one argument at least
fault_of-sequences : fault_of (codes "op f 1; rule r: f(x___, y__, x___); rule s: f(x__, y__);") ≡ at Arity 45
unfolding lexemes
fault_of-sequences = refl

-- a wildcard of each class
file_of-wildcards : file_of (codes "op g 0+; kind v: a; rule r: g(x_, y_v, z__, x_, w___);") ≡ Some (record {
  sig = record {
    ops = plain_decl (codes "g") 0 false ∷ [];
    kinds = record { name = codes "v"; members = codes "a" ∷ [] } ∷ [];
  };
  rules = record {
    name = codes "r";
    pattern =
        app_pattern 0
        (patterns (wild_pattern dot (Some (codes "x")) ∷ wild_pattern (kind 1) (Some (codes "y"))
        ∷ wild_pattern plus (Some (codes "z")) ∷ wild_pattern dot (Some (codes "x"))
        ∷ wild_pattern star (Some (codes "w")) ∷ []));
    template = None;
    condition = None;
  } ∷ [];
  subjects = [];
  edits = [];
})
unfolding lexemes
file_of-wildcards = refl

-- a pattern with a commutative operation
fault_of-commutative : fault_of (codes "op p 1+ comm; rule r: p(x_, a);") ≡ None
unfolding lexemes
fault_of-commutative = refl

-- a commutative operation that the normal form doesn't have
fault_of-collapsed : fault_of (codes "op p 1+ comm one; rule r: p(x_);") ≡ None
unfolding lexemes
fault_of-collapsed = refl

-- a wildcard with a fixed count and one with an open count, and a template; the counts 1 and 0 are those of plainer
-- wildcards
file_of-counted : file_of (codes "op g 0+; rule r: g(x_{2}, y_{3+}, z_{1}, w_{0+}) -> g($y, $x);") ≡ Some (record {
  sig = record { ops = plain_decl (codes "g") 0 false ∷ []; kinds = [] };
  rules = record {
    name = codes "r";
    pattern =
        app_pattern 0
        (patterns (wild_pattern (counted 2 true) (Some (codes "x")) ∷ wild_pattern (counted 3 false) (Some (codes "y"))
        ∷ wild_pattern dot (Some (codes "z")) ∷ wild_pattern star (Some (codes "w")) ∷ []));
    template = Some (app_template 0
        (templates (variable_template (codes "y") ∷ variable_template (codes "x") ∷ [])));
    condition = None;
  } ∷ [];
  subjects = [];
  edits = [];
})
unfolding lexemes
file_of-counted = refl

-- a count of none
fault_of-no_count : fault_of (codes "op g 0+; rule r: g(x_{0});") ≡ at BadCount 23
unfolding lexemes
fault_of-no_count = refl

-- a count above its limit
fault_of-count_above_limit : fault_of (codes "op g 0+; rule r: g(x_{1001});") ≡ at TooMany 23
unfolding lexemes
fault_of-count_above_limit = refl

-- one argument too many
fault_of-counted_arity : fault_of (codes "op f 2; rule r: f(x_{2}, y_);") ≡ at Arity 17
unfolding lexemes
fault_of-counted_arity = refl

-- two wildcards of one variable with one count, fixed and open
fault_of-count_clash : fault_of (codes "op g 0+; rule r: g(x_{2}, x_{2+});") ≡ at KindClash 27
unfolding lexemes
fault_of-count_clash = refl

-- a variable of a template that the pattern doesn't have
fault_of-unbound_variable : fault_of (codes "op f 2; rule r: f(x_, a) -> f($x, $y);") ≡ at UnboundVariable 35
unfolding lexemes
fault_of-unbound_variable = refl
