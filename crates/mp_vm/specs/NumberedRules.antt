-- The rules of rule lines that spell no test.
use Rattle.std.specs.Prelude.{ℕ, Option, Some, None}
use Rattle.mp_program.specs.Form.{RuleTest, tested, RuleLine}
use Rattle.mp_program.specs.Program.{ProgramRule}

-- the number of the test that a line names, if it names one
abbrev pub named_test : RuleTest → Option ℕ
named_test (tested n) = Some n
named_test _ = None

-- the rule of a line
abbrev pub numbered_rule : RuleLine → ProgramRule
numbered_rule r = record { name = r.name; vars = r.vars; test = named_test r.test }
