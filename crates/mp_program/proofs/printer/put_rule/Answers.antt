use Rattle.std.proofs.Common.{sym, subst}
use Rattle.std.specs.Prelude.{codes}
use Rattle.mp_io.specs.Writing.{Puts}
use Rattle.mp_io.proofs.WritingLaws.{Puts-then}
use Rattle.mp_print.specs.Printing.{preceded}
use Rattle.mp_program.specs.FormText.{rule_test_text, numbered_test}
use Rattle.mp_program.proofs.PrintedLines.{preceded-flat_map, rule-end}
use Rattle.mp_program.proofs.printer.put_rule.Goals as goal

pub returns : goal.returns
returns g c = λ sig.
    let rule = c.args.rule.now in
    let vars = preceded (codes " ") rule.vars in
    let test = rule_test_text sig (numbered_test rule.test) in
    subst (Puts g.K.Sink c.args.out.now c.put-3.new.self) (sym (rule-end rule.name vars test))
    (Puts-then g.K.Sink _ _ _ (codes "rule ") _ c.put.ensures
    (Puts-then g.K.Sink _ _ _ rule.name _
    (subst (Puts g.K.Sink c.put.new.self c.put-2.new.self) c.bytes.ensures.bytes c.put-2.ensures)
    (Puts-then g.K.Sink _ _ _ vars _
    (subst (Puts g.K.Sink c.put-2.new.self c.put_names.new.out) (sym (preceded-flat_map (codes " ") rule.vars))
    c.put_names.ensures)
    (Puts-then g.K.Sink _ _ _ test (codes ";\n") (c.put_rule_test.ensures sig) c.put-3.ensures))))
