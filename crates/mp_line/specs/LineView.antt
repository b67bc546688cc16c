-- The line that a line of the code is read as.
use Rattle.mp_pattern.specs.CondView.{cond_tree}
use Rattle.mp_walk.specs.InstrView.{plain_instr}
use Rattle.mp_program.specs.RuleView.{rule_line_view}
use Rattle.mp_line.specs.declared.line.Line as code
use Rattle.mp_line.specs.declared.line.Line.TheVariants.{Op, Kind, Test, Rule, Code, Begin, Instr, Stop}
use Rattle.mp_line.specs.Lines.{Line, op_line, kind_line, test_line, rule_line, code_line, begin_line, instr_line}
use Rattle.mp_line.specs.Lines.{stop_line}

-- a line that is read
abbrev pub line_view : code.Line → Line
line_view Op = op_line
line_view Kind = kind_line
line_view (Test c) = test_line (cond_tree c)
line_view (Rule r) = rule_line (rule_line_view r)
line_view Code = code_line
line_view (Begin d) = begin_line d
line_view (Instr i) = instr_line (plain_instr i)
line_view Stop = stop_line
