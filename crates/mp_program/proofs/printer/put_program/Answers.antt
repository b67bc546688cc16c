use Rattle.std.proofs.Common.{◌++◌, sym, subst}
use Rattle.std.specs.Prelude.{codes}
use Rattle.std.specs.List.{flat_map}
use Rattle.mp_io.specs.Writing.{Puts}
use Rattle.mp_io.proofs.WritingLaws.{Puts-then}
use Rattle.mp_pattern.specs.CondTree.{Cond}
use Rattle.mp_print.specs.PrintedSignature.{signature_text}
use Rattle.mp_program.specs.FormText.{test_line, rule_line, line_of_rule, code_lines, lines_text, target_text}
use Rattle.mp_program.specs.FormText.{first_target}
use Rattle.mp_program.specs.Program.{ProgramRule}
use Rattle.mp_program.specs.ProgramView.{program_view}
use Rattle.mp_program.proofs.PrintedLines.{program_text-parts}
use Rattle.mp_program.proofs.printer.put_program.Goals as goal

pub returns : goal.returns
returns g c =
    let sig = c.args.sig.now in
    let p = program_view c.args.program.now in
    subst (Puts g.K.Sink c.args.out.now c.put_code.new.out) (sym (program_text-parts sig p))
    (Puts-then g.K.Sink _ _ _ (codes "matchpy program 2\n") _ c.put.ensures
    (Puts-then g.K.Sink _ _ _ (signature_text sig) _ c.put_signature.ensures
    (Puts-then g.K.Sink _ _ _ (flat_map (λ t. test_line sig t ++ codes "\n") p.tests) _
    (subst (λ ts. Puts g.K.Sink c.put_signature.new.out c.put_tests.new.out
    (flat_map (λ (t : Cond). test_line sig t ++ codes "\n") ts)) c.as_slice.ensures c.put_tests.ensures)
    (Puts-then g.K.Sink _ _ _ (flat_map (λ r. rule_line sig (line_of_rule r) ++ codes "\n") p.rules) _
    (subst (λ rs. Puts g.K.Sink c.put_tests.new.out c.put_rules.new.out
    (flat_map (λ (r : ProgramRule). rule_line sig (line_of_rule r) ++ codes "\n") rs)) c.as_slice-2.ensures
    (c.put_rules.ensures sig))
    (subst (λ code. Puts g.K.Sink c.put_rules.new.out c.put_code.new.out
    (codes "code\n0 begin down " ++ (target_text (first_target code) ++ (codes "\n"
    ++ lines_text (code_lines sig 1 code))))) c.as_slice-3.ensures c.put_code.ensures)))))
