-- Program texts, programs and faults that are computed.
use Rattle.std.proofs.Common.{◌≡◌, ℕ, List, [], ◌∷◌, ◌++◌, Bool, true, false, Option, Some, None, refl, ap, arith}
use Rattle.std.specs.Prelude.{codes, slice_get, IsSome, bytes_eq}
use Rattle.std.specs.Fmt.{digits}
use Rattle.std.specs.List.{AllByRecursion}
use Rattle.mp_io.specs.Devices.{Text}
use Rattle.mp_term.specs.declared.signature.OpDecl.{OpDecl}
use Rattle.mp_term.specs.Signature.{Sig}
use Rattle.mp_pattern.specs.CondTree.{less, var}
use Rattle.mp_pattern.specs.NetTokens.{NetToken, sym_token, enter_token, leave_token, wild_token, comm_token}
use Rattle.mp_pattern.specs.PatternTree.{dot, counted, app_pattern, wild_pattern, no_patterns}
use Rattle.mp_pattern.specs.PatternTree.{more_patterns}
use Rattle.mp_walk.specs.Instrs.{Instr}
use Rattle.mp_program.specs.declared.fault.ProgramError.{ProgramError}
use Rattle.mp_program.specs.declared.fault.ProgramError.TheVariants.{WrongVersion, BadLine, BackwardTarget}
use Rattle.mp_program.specs.declared.fault.ProgramError.TheVariants.{BadReference, Unbalanced}
use Rattle.mp_program.specs.declared.format.Format.{Format}
use Rattle.mp_program.specs.declared.format.Format.TheVariants.{One, Two}
use Rattle.mp_program.specs.Program.{ProgramRule, Program}
use Rattle.mp_program.specs.Form.{untested, spelled, RuleLine, Form}
use Rattle.mp_program.specs.FormText.{lines_of, lines_text, rule_line, form_of, program_text}
use Rattle.mp_program.specs.RightForm.{IsShort, IsWildcardOf, IsRightInstr, IsRightForm}
use Rattle.mp_program.specs.FormFaults.{form_faults}
use Rattle.mp_program.specs.ProgramOf.{program_of}
use Rattle.mp_program.specs.Reading.{first_fault, IsProgramOf, IsProgramFaultOf, version, line, content}

-- f of two arguments
abbrev op : Bool → OpDecl
op comm = record { name = codes "f"; least = 2; fixed = true; assoc = false; comm = comm; one = false; sign = None }

abbrev sig_of : Bool → Sig
sig_of comm = record { ops = op comm ∷ []; kinds = [] }

abbrev sig : Sig
sig = sig_of false

abbrev instr : NetToken → Option ℕ → Option ℕ → List ℕ → Instr
instr k down over rules = record { token = k; down = down; over = over; accepts = rules }

abbrev variable : ℕ → NetToken
variable n = wild_token dot (Some n)

abbrev rule : Text → List Text → Option ℕ → ProgramRule
rule name vars test = record { name = name; vars = vars; test = test }

-- f of two variables
abbrev pair_code : List ℕ → List Instr
pair_code rules = instr (enter_token 0) (Some 2) None [] ∷ instr (variable 0) (Some 3) None []
    ∷ instr (variable 1) (Some 4) None [] ∷ instr (leave_token 0) None None rules ∷ []

-- one rule without a test
abbrev one_rule : List Instr → Program
one_rule code = record { rules = rule (codes "r") (codes "x" ∷ codes "y" ∷ []) None ∷ []; tests = []; code = code }

abbrev fault : Program → Option ProgramError
fault p = first_fault (form_faults sig (form_of sig p))

-- ---- one rule

abbrev pair_program : Program
pair_program = one_rule (pair_code (0 ∷ []))

-- its text behind the first line
abbrev pair_lines : List Text
pair_lines = codes "op f 2;" ∷ codes "rule r x y;" ∷ codes "code" ∷ codes "0 begin down 1"
    ∷ codes "1 enter f down 2 over -" ∷ codes "2 dot v0 down 3 over -" ∷ codes "3 dot v1 down 4 over -"
    ∷ codes "4 leave f accept 0 over -" ∷ codes "5 stop" ∷ []

abbrev pair_text : Text → Text
pair_text format = lines_text ((codes "matchpy program " ++ format) ∷ pair_lines)

-- what it says in a format
abbrev pair_form : Format → Form
pair_form format = record {
  format = format;
  ops = codes "op f 2;" ∷ [];
  kinds = [];
  tests = [];
  rules = record { name = codes "r"; vars = codes "x" ∷ codes "y" ∷ []; test = untested } ∷ [];
  begin = Some 1;
  code = pair_code (0 ∷ []);
}

pub pair-printed : program_text sig pair_program ≡ pair_text (codes "2")
unfolding digits
pair-printed = refl

pair-code : (s : Sig) (format : Format) → IsSome (slice_get s.ops 0) → IsWildcardOf format dot
    → AllByRecursion (IsRightInstr s format) (pair_code (0 ∷ []))
pair-code s format held dots = (
  enters,
  (
    reads 0 3 (omega arith) (omega arith),
    (
      reads 1 4 (omega arith) (omega arith),
      (leaves, tt),
    ),
  ),
)
  where
    enters : IsRightInstr s format (instr (enter_token 0) (Some 2) None [])
    enters = record { token = held; action = (omega arith, refl); over = tt }

    reads : (n d : ℕ) → IsShort n → IsShort d → IsRightInstr s format (instr (variable n) (Some d) None [])
    reads n d small target = record { token = (tt, dots, small); action = (target, refl); over = tt }

    leaves : IsRightInstr s format (instr (leave_token 0) None None (0 ∷ []))
    leaves = record {
      token = held;
      action = ((λ e. let none : 0 ∷ [] ≡ [] = e in cc), refl, (omega arith, tt));
      over = tt;
    }

pair-right : (s : Sig) (format : Format) → IsSome (slice_get s.ops 0) → IsWildcardOf format dot
    → IsRightForm s (pair_form format)
pair-right s format held dots = record {
  ops = ((codes "f 2", refl), tt);
  kinds = tt;
  no_tests = λ e. refl;
  few_tests = omega arith;
  tests = tt;
  few_rules = omega arith;
  rules = (record { name = refl; vars = (refl, (refl, tt)); test = tt }, tt);
  begin = omega arith;
  begins = ((λ s e. let none : pair_code (0 ∷ []) ≡ [] = e in cc), (λ e. refl));
  few_instrs = omega arith;
  code = pair-code s format held dots;
}

-- the text is the program, in either format
pub pair-read : IsProgramOf sig (pair_text (codes "2")) pair_program
unfolding digits
pair-read = record {
  form = pair_form Two;
  is_form = record { right = pair-right sig Two refl tt; lines = refl; ended = refl };
  faultless = refl;
  program = refl;
}

pub pair-read-one : IsProgramOf sig (pair_text (codes "1")) pair_program
unfolding digits
pair-read-one = record {
  form = pair_form One;
  is_form = record { right = pair-right sig One refl tt; lines = refl; ended = refl };
  faultless = refl;
  program = refl;
}

-- over a signature in which f is commutative its declaration is another
pub pair-comm : IsProgramFaultOf (sig_of true) (pair_text (codes "2")) (BadReference 2)
unfolding digits
pair-comm = content (pair_form Two)
    (record { right = pair-right (sig_of true) Two refl tt; lines = refl; ended = refl }) refl

-- a format that isn't read
pub pair-version : IsProgramFaultOf sig (pair_text (codes "3")) WrongVersion
unfolding digits
pair-version = version
    (record {
      number = codes "3";
      rest = pair_lines;
      first = refl;
      numeral = refl;
      not_one = λ e. let wrong : false ≡ true = ap (λ w. bytes_eq w (codes "1")) e in cc;
      not_two = λ e. let wrong : false ≡ true = ap (λ w. bytes_eq w (codes "2")) e in cc;
    })
    refl

-- no bytes: the first line is missing
pub empty-fault : IsProgramFaultOf sig [] (BadLine 1)
empty-fault = line 1
    (λ v. let wrong : [] ≡ (codes "matchpy program " ++ v.number) ∷ v.rest = v.first in cc)
    (record {
      before = 0;
      number = refl;
      within = omega arith;
      begins = record { form = pair_form Two; rest = _; right = pair-right sig Two refl tt; split = refl };
      stops = λ l b. absurd (omega (arith, l));
      formless = λ f h. cc;
    })
    refl

-- ---- two rules that share their first tokens

abbrev two_rules : Program
two_rules = record {
  rules = rule (codes "r") (codes "x" ∷ codes "y" ∷ []) None ∷ rule (codes "q") (codes "x" ∷ []) None ∷ [];
  tests = [];
  code = instr (enter_token 0) (Some 2) None [] ∷ instr (variable 0) (Some 3) None []
      ∷ instr (variable 1) (Some 4) (Some 5) [] ∷ instr (leave_token 0) None None (0 ∷ [])
      ∷ instr (sym_token (codes "a")) (Some 6) None [] ∷ instr (leave_token 0) None None (1 ∷ []) ∷ [];
}

pub shared-printed : lines_of (program_text sig two_rules) ≡ codes "matchpy program 2" ∷ codes "op f 2;"
    ∷ codes "rule r x y;" ∷ codes "rule q x;" ∷ codes "code" ∷ codes "0 begin down 1"
    ∷ codes "1 enter f down 2 over -" ∷ codes "2 dot v0 down 3 over -" ∷ codes "3 dot v1 down 4 over 5"
    ∷ codes "4 leave f accept 0 over -" ∷ codes "5 sym a down 6 over -" ∷ codes "6 leave f accept 1 over -"
    ∷ codes "7 stop" ∷ []
unfolding digits
shared-printed = refl

pub shared-fault : form_faults sig (form_of sig two_rules) ≡ []
unfolding digits
shared-fault = refl

-- ---- one test of two rules

abbrev one_test : Program
one_test = record {
  rules = rule (codes "r") (codes "x" ∷ codes "y" ∷ []) (Some 0)
      ∷ rule (codes "q") (codes "u" ∷ codes "w" ∷ []) (Some 0) ∷ [];
  tests = less (var (codes "v0")) (var (codes "v1")) ∷ [];
  code = pair_code (0 ∷ 1 ∷ []);
}

pub tested-printed : lines_of (program_text sig one_test) ≡ codes "matchpy program 2" ∷ codes "op f 2;"
    ∷ codes "test less($v0, $v1);" ∷ codes "rule r x y if [0];" ∷ codes "rule q u w if [0];" ∷ codes "code"
    ∷ codes "0 begin down 1" ∷ codes "1 enter f down 2 over -" ∷ codes "2 dot v0 down 3 over -"
    ∷ codes "3 dot v1 down 4 over -" ∷ codes "4 leave f accept 0 1 over -" ∷ codes "5 stop" ∷ []
unfolding digits
tested-printed = refl

pub tested-fault : form_faults sig (form_of sig one_test) ≡ []
unfolding digits
tested-fault = refl

pub tested-program : program_of sig (form_of sig one_test) ≡ one_test
unfolding digits
tested-program = refl

-- the same rules in format 1, each with the condition on its own variables, are the same program
abbrev spelled_rule : Text → Text → Text → RuleLine
spelled_rule name x y = record { name = name; vars = x ∷ y ∷ []; test = spelled (less (var x) (var y)) }

abbrev spelled_form : Form
spelled_form = record {
  format = One;
  ops = codes "op f 2;" ∷ [];
  kinds = [];
  tests = [];
  rules = spelled_rule (codes "r") (codes "x") (codes "y") ∷ spelled_rule (codes "q") (codes "u") (codes "w") ∷ [];
  begin = Some 1;
  code = pair_code (0 ∷ 1 ∷ []);
}

pub spelled-fault : form_faults sig spelled_form ≡ []
unfolding digits
spelled-fault = refl

pub spelled-program : program_of sig spelled_form ≡ one_test
unfolding digits
spelled-program = refl

pub spelled-line : rule_line sig (spelled_rule (codes "r") (codes "x") (codes "y"))
    ≡ codes "rule r x y if less($x, $y);"
spelled-line = refl

-- ---- a counted wildcard

abbrev counted_rule : Program
counted_rule = one_rule (instr (enter_token 0) (Some 2) None []
    ∷ instr (wild_token (counted 2 true) (Some 0)) (Some 3) None []
    ∷ instr (wild_token (counted 3 false) (Some 1)) (Some 4) None []
    ∷ instr (leave_token 0) None None (0 ∷ []) ∷ [])

pub counted-printed : lines_of (program_text sig counted_rule) ≡ codes "matchpy program 2" ∷ codes "op f 2;"
    ∷ codes "rule r x y;" ∷ codes "code" ∷ codes "0 begin down 1" ∷ codes "1 enter f down 2 over -"
    ∷ codes "2 counted v0 2 down 3 over -" ∷ codes "3 counted v1 3+ down 4 over -"
    ∷ codes "4 leave f accept 0 over -" ∷ codes "5 stop" ∷ []
unfolding digits
counted-printed = refl

pub counted-fault : form_faults sig (form_of sig counted_rule) ≡ []
unfolding digits
counted-fault = refl

-- ---- a commutative pattern

abbrev comm_rule : Program
comm_rule = one_rule (instr (comm_token (app_pattern 0 (more_patterns (wild_pattern dot (Some (codes "v0")))
    (more_patterns (wild_pattern dot (Some (codes "v1"))) no_patterns)))) None None (0 ∷ []) ∷ [])

pub comm-printed : lines_of (program_text (sig_of true) comm_rule) ≡ codes "matchpy program 2" ∷ codes "op f 2 comm;"
    ∷ codes "rule r x y;" ∷ codes "code" ∷ codes "0 begin down 1" ∷ codes "1 comm f(v0_, v1_) accept 0 over -"
    ∷ codes "2 stop" ∷ []
unfolding digits
comm-printed = refl

pub comm-fault : form_faults (sig_of true) (form_of (sig_of true) comm_rule) ≡ []
unfolding digits
comm-fault = refl

-- ---- faults

-- the second variable comes first
pub swapped-fault : fault (one_rule (instr (enter_token 0) (Some 2) None [] ∷ instr (variable 1) (Some 3) None []
    ∷ instr (variable 0) (Some 4) None [] ∷ instr (leave_token 0) None None (0 ∷ []) ∷ [])) ≡ Some (BadReference 7)
unfolding digits
swapped-fault = refl

-- back to itself
pub back-fault : fault (one_rule (instr (enter_token 0) (Some 2) None [] ∷ instr (variable 0) (Some 2) None [] ∷ []))
    ≡ Some (BackwardTarget 7)
unfolding digits
back-fault = refl

-- one variable too few, while f is open too: the rule comes first
pub few-fault : fault (one_rule (instr (enter_token 0) (Some 2) None [] ∷ instr (variable 0) None None (0 ∷ []) ∷ []))
    ≡ Some (BadReference 7)
unfolding digits
few-fault = refl

-- accepted while f is open
pub open-fault : fault (one_rule (instr (enter_token 0) (Some 2) None [] ∷ instr (variable 0) (Some 3) None []
    ∷ instr (variable 1) None None (0 ∷ []) ∷ [])) ≡ Some (Unbalanced 8)
unfolding digits
open-fault = refl

-- two ways to one instruction
pub twice-fault : fault (one_rule (instr (enter_token 0) (Some 2) None [] ∷ instr (variable 0) (Some 4) (Some 3) []
    ∷ instr (variable 0) (Some 4) None [] ∷ instr (leave_token 0) None None (0 ∷ []) ∷ [])) ≡ Some (BadReference 9)
unfolding digits
twice-fault = refl

-- another declaration than the signature's, one that is missing, and one that is too many
abbrev declared : List (List ℕ) → Form
declared ops = record {
  format = Two;
  ops = ops;
  kinds = [];
  tests = [];
  rules = [];
  begin = None;
  code = [];
}

pub other-fault : first_fault (form_faults sig (declared (codes "op f 3;" ∷ []))) ≡ Some (BadReference 2)
unfolding digits
other-fault = refl

pub missing-fault : first_fault (form_faults sig (declared [])) ≡ Some (BadReference 2)
unfolding digits
missing-fault = refl

pub further-fault : first_fault (form_faults sig (declared (codes "op f 2;" ∷ codes "op g 2;" ∷ [])))
    ≡ Some (BadReference 3)
unfolding digits
further-fault = refl

-- ---- lines

pub lines-text : lines_of (codes "ab\n\nc\nd") ≡ codes "ab" ∷ [] ∷ codes "c" ∷ []
lines-text = refl
