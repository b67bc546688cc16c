-- The lines of a program text, and the text that a program is printed as.
use Rattle.std.specs.Prelude.{ℕ, suc, ◌+◌, not, List, [], ◌∷◌, ◌++◌, map, flat_map, length, Option, Some, None}
use Rattle.std.specs.Prelude.{nat_eq, if◌then◌else◌, codes, decimal}
use Rattle.mp_io.specs.Devices.{Text}
use Rattle.mp_term.specs.Signature.{Sig}
use Rattle.mp_pattern.specs.CondTree.{Cond}
use Rattle.mp_pattern.specs.NetTokens.{NetToken, sym_token, enter_token, leave_token, wild_token, comm_token, numbered}
use Rattle.mp_pattern.specs.PatternTree.{Wildcard, dot, kind, plus, star, optional, counted}
use Rattle.mp_walk.specs.Instrs.{Instr}
use Rattle.mp_print.specs.Printing.{text_if, preceded, kind_name_text, term_text}
use Rattle.mp_print.specs.PrintedPattern.{pattern_text}
use Rattle.mp_print.specs.PrintedCond.{op_name_text, cond_text}
use Rattle.mp_print.specs.PrintedSignature.{op_text, kind_text}
use Rattle.mp_program.specs.declared.format.Format.TheVariants.{Two}
use Rattle.mp_program.specs.Program.{ProgramRule, Program}
use Rattle.mp_program.specs.Form.{format_number, RuleTest, untested, tested, spelled, RuleLine, Form}

-- ---- lines of bytes

-- the byte in front of the first line; where there is none the line has no end and is left out
abbrev pub begin_line_with : ℕ → List Text → List Text
begin_line_with b [] = []
begin_line_with b (l ∷ ls) = (b ∷ l) ∷ ls

-- the lines that end with a line feed, byte 10, in order and without it
abbrev pub lines_of : Text → List Text
lines_of [] = []
lines_of (b ∷ bs) = if nat_eq b 10 then [] ∷ lines_of bs else begin_line_with b (lines_of bs)

-- lines as one text, with a line feed behind each
abbrev pub lines_text : List Text → Text
lines_text ls = flat_map (λ l. l ++ 10 ∷ []) ls

-- ---- instructions

-- `v` and the number of a variable, or `_`
abbrev pub variable_text : Option ℕ → Text
variable_text None = codes "_"
variable_text (Some n) = numbered n

-- the number of an instruction, or `-`
abbrev pub target_text : Option ℕ → Text
target_text None = codes "-"
target_text (Some n) = decimal n

-- `down` and the instruction below, or else `accept` and the rules that are accepted
abbrev pub action_text : Option ℕ → List ℕ → Text
action_text (Some n) rules = codes "down " ++ decimal n
action_text None rules = codes "accept" ++ preceded (codes " ") (map decimal rules)

module _ (sig : Sig) where
  -- the text of a wildcard's token
  abbrev pub wild_text : Wildcard → Option ℕ → Text
  wild_text dot x = codes "dot " ++ variable_text x
  wild_text (kind k) x = codes "kind " ++ (kind_name_text sig k ++ (codes " " ++ variable_text x))
  wild_text plus x = codes "plus " ++ variable_text x
  wild_text star x = codes "star " ++ variable_text x
  wild_text (optional t) x = codes "opt " ++ (variable_text x ++ (codes " " ++ term_text sig t))
  wild_text (counted n fixed) x =
      codes "counted " ++ (variable_text x ++ (codes " " ++ (decimal n ++ text_if (not fixed) (codes "+"))))

  -- the text of a token
  abbrev pub token_text : NetToken → Text
  token_text (sym_token n) = codes "sym " ++ n
  token_text (enter_token f) = codes "enter " ++ op_name_text sig f
  token_text (leave_token f) = codes "leave " ++ op_name_text sig f
  token_text (wild_token w x) = wild_text w x
  token_text (comm_token p) = codes "comm " ++ pattern_text sig p

  -- NUMBER TOKEN ACTION over TARGET
  abbrev pub instr_line : ℕ → Instr → Text
  instr_line n i = decimal n ++ (codes " " ++ (token_text i.token ++ (codes " " ++ (action_text i.down i.accepts
      ++ (codes " over " ++ target_text i.over)))))

  -- the instructions, numbered from n
  abbrev pub instr_lines : ℕ → List Instr → List Text
  instr_lines n [] = []
  instr_lines n (i ∷ is) = instr_line n i ∷ instr_lines (suc n) is

  -- they and `stop`
  abbrev pub code_lines : ℕ → List Instr → List Text
  code_lines n is = instr_lines n is ++ (decimal (n + length is) ++ codes " stop") ∷ []

  -- ---- the other lines

  -- test CONDITION;
  abbrev pub test_line : Cond → Text
  test_line c = codes "test " ++ (cond_text sig c ++ codes ";")

  -- [ if [NUMBER]], or in format 1 [ if CONDITION]
  abbrev pub rule_test_text : RuleTest → Text
  rule_test_text untested = []
  rule_test_text (tested n) = codes " if [" ++ (decimal n ++ codes "]")
  rule_test_text (spelled c) = codes " if " ++ cond_text sig c

  -- rule NAME VARIABLE VARIABLE[ if TEST];
  abbrev pub rule_line : RuleLine → Text
  rule_line r = codes "rule " ++ (r.name ++ (preceded (codes " ") r.vars ++ (rule_test_text r.test ++ codes ";")))

  -- all lines
  abbrev pub form_lines : Form → List Text
  form_lines f = (codes "matchpy program " ++ decimal (format_number f.format)) ∷ (f.ops ++ (f.kinds
      ++ (map test_line f.tests ++ (map rule_line f.rules
      ++ (codes "code" ∷ (codes "0 begin down " ++ target_text f.begin) ∷ code_lines 1 f.code)))))

  -- the text of all lines
  abbrev pub form_text : Form → Text
  form_text f = lines_text (form_lines f)

-- ---- the printed text of programs

-- what the line of a rule says of its test
abbrev pub numbered_test : Option ℕ → RuleTest
numbered_test None = untested
numbered_test (Some n) = tested n

-- the line of a rule
abbrev pub line_of_rule : ProgramRule → RuleLine
line_of_rule r = record { name = r.name; vars = r.vars; test = numbered_test r.test }

-- the first instruction, where there is one
abbrev pub first_target : List Instr → Option ℕ
first_target [] = None
first_target (i ∷ is) = Some 1

-- what the text of a program says line by line: the declarations of the signature, and the program in format 2
abbrev pub form_of : Sig → Program → Form
form_of sig p = record {
  format = Two;
  ops = lines_of (flat_map op_text sig.ops);
  kinds = lines_of (flat_map kind_text sig.kinds);
  tests = p.tests;
  rules = map line_of_rule p.rules;
  begin = first_target p.code;
  code = p.code;
}

-- the text that a program is printed as
abbrev pub program_text : Sig → Program → Text
program_text sig p = form_text sig (form_of sig p)
