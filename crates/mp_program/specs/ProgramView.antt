-- The records that a program and its rules are read as.
use Rattle.mp_program.specs.declared.program.ProgramRule.{ProgramRule}
use Rattle.mp_program.specs.declared.program.Program.{Program}
use Rattle.mp_program.specs.Program as plain

-- a rule
abbrev pub rule_view : ProgramRule → plain.ProgramRule
rule_view r = record { name = r.name; vars = r.vars; test = r.test }

-- a program
abbrev pub program_view : Program → plain.Program
program_view p = record { rules = p.rules; tests = p.tests; code = p.code }
