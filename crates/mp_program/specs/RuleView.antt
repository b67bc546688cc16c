-- What a rule line is read as.
use Rattle.mp_program.specs.Form as plain
use Rattle.mp_program.specs.Form.{untested, tested, spelled}
use Rattle.mp_program.specs.declared.rule_line.RuleTest.{RuleTest}
use Rattle.mp_program.specs.declared.rule_line.RuleTest.TheVariants.{Untested, Tested, Spelled}
use Rattle.mp_program.specs.declared.rule_line.RuleLine.{RuleLine}

-- a test
abbrev pub rule_test : RuleTest → plain.RuleTest
rule_test Untested = untested
rule_test (Tested n) = tested n
rule_test (Spelled c) = spelled c

-- a rule line
abbrev pub rule_line_view : RuleLine → plain.RuleLine
rule_line_view r = record { name = r.name; vars = r.vars; test = rule_test r.test }
