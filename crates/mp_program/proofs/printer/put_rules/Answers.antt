use Rattle.std.proofs.Common.{◌++◌, map, subst, arith}
use Rattle.std.specs.Prelude.{codes}
use Rattle.std.specs.List.{flat_map}
use Rattle.std.proofs.lemmas.List.{take_all}
use Rattle.mp_io.specs.Writing.{Puts}
use Rattle.mp_program.specs.FormText.{rule_line, line_of_rule}
use Rattle.mp_program.specs.Program.{ProgramRule}
use Rattle.mp_program.specs.ProgramView.{rule_view}
use Rattle.mp_program.proofs.PutLaws.{Puts-next}
use Rattle.mp_program.proofs.printer.put_rules.Goals as goal

pub loop-rule-preserved : goal.loop-rule-preserved
loop-rule-preserved g c = λ sig.
    Puts-next g.K.Sink rule_view (λ (r : ProgramRule). rule_line sig (line_of_rule r) ++ codes "\n") c.args.rules.now
    c.loop-rule.rule-index c.rule-item.result (omega arith) c.rule-item.is _ _ _ (c.loop-rule.invariant sig)
    (c.put_rule.ensures sig)

pub returns : goal.returns
returns g c = λ sig.
    subst (λ l. Puts g.K.Sink c.args.out.now c.loop-rule.out
    (flat_map (λ (r : ProgramRule). rule_line sig (line_of_rule r) ++ codes "\n") (map rule_view l)))
    (take_all c.loop-rule.rule-index c.args.rules.now (omega arith)) (c.loop-rule.invariant sig)
