use Rattle.std.proofs.Common.{◌++◌, map, take}
use Rattle.std.specs.Prelude.{codes}
use Rattle.std.specs.List.{flat_map}
use Rattle.mp_io.specs.Writing.{Puts}
use Rattle.mp_term.specs.Signature.{Sig}
use Rattle.mp_program.specs.FormText.{rule_line, line_of_rule}
use Rattle.mp_program.specs.ProgramView.{rule_view}
use Rattle.mp_program.proofs.printer.put_rules.Given as goal

-- the lines of the rules so far were put
abbrev pub invariant-loop-rule : goal.invariant-loop-rule
invariant-loop-rule g l = (sig : Sig) → Puts g.K.Sink l.fn.out l.out
    (flat_map (λ r. rule_line sig (line_of_rule r) ++ codes "\n") (map rule_view (take l.rule-index l.rules)))
