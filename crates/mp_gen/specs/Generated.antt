-- The program of rules.
use Rattle.std.specs.Prelude.{List, [], map, flat_map, Option, Some, None}
use Rattle.mp_term.specs.Signature.{Sig}
use Rattle.mp_pattern.specs.Admission.{Rule}
use Rattle.mp_pattern.specs.CondTree.{Cond}
use Rattle.mp_pattern.specs.Variables.{variables}
use Rattle.mp_print.specs.PrintedSignature.{op_text, kind_text}
use Rattle.mp_many.specs.Laid.{tree_of}
use Rattle.mp_program.specs.declared.format.Format.TheVariants.{One}
use Rattle.mp_program.specs.Program.{Program}
use Rattle.mp_program.specs.Form.{RuleTest, untested, spelled, RuleLine, Form}
use Rattle.mp_program.specs.FormText.{lines_of, first_target}
use Rattle.mp_program.specs.ProgramOf.{program_of}

-- what the line of a rule says of its condition: it spells it
abbrev pub spelled_condition : Option Cond → RuleTest
spelled_condition None = untested
spelled_condition (Some c) = spelled c

-- the line of a rule: its name, its variables in order of first occurrence, and its condition
abbrev pub spelled_rule : Rule → RuleLine
spelled_rule r = record { name = r.name; vars = variables r.pattern; test = spelled_condition r.condition }

-- what is said of rules line by line: the declarations of the signature, a line for each rule, and an instruction for
-- each prefix of the token lists
abbrev pub rules_form : Sig → List Rule → Form
rules_form sig rules = record {
  format = One;
  ops = lines_of (flat_map op_text sig.ops);
  kinds = lines_of (flat_map kind_text sig.kinds);
  tests = [];
  rules = map spelled_rule rules;
  begin = first_target (tree_of sig rules);
  code = tree_of sig rules;
}

-- the program of rules: each condition, its variables called v0, v1 and so on by their places in the rule's line, is a
-- test, once
abbrev pub generated : Sig → List Rule → Program
generated sig rules = program_of sig (rules_form sig rules)
