use Rattle.std.proofs.Common.{◌≡◌, suc, [], length, map, sym, ap, ◌∙◌, subst, arith}
use Rattle.std.specs.List.{flat_map}
use Rattle.mp_pattern.specs.Firsts.{firsts_after}
use Rattle.mp_program.specs.FormText.{program_text}
use Rattle.mp_program.specs.Reading.{IsProgramOf, IsValid}
use Rattle.mp_program.specs.RightForm.{IsShort}
use Rattle.mp_program.specs.ProgramOf.{same_cond, spelled_test, rule_of}
use Rattle.mp_program.specs.RuleView.{rule_line_view}
use Rattle.mp_gen.specs.Generated.{spelled_rule, generated}
use Rattle.mp_gen.proofs.GeneratedLaws.{generated-parts}
use Rattle.mp_gen.proofs.program.generate.Goals as goal

pub returns-clause-program : goal.returns-clause-program
returns-clause-program c =
    let many = c.args.many.now in
    let lines = map rule_line_view c.in_ok-lines.lines.items in
    let told = c.in_ok-rules.ensures in
    generated-parts many.sig many.rules lines c.in_ok-rules.tests c.in_ok-rules.rules c.in_ok-code.code
    (c.in_ok-lines.ensures ∙ ap (map spelled_rule) (c.as_slice.ensures ∙ c.rules.ensures.rules))
    (told.tests ∙ ap (λ s. firsts_after (same_cond s) [] (flat_map (λ r. spelled_test r.vars r.test) lines))
    c.sig.ensures)
    (told.rules ∙ ap (λ s. map (rule_of s c.in_ok-rules.tests) lines) c.sig.ensures)
    (c.in_ok-code.ensures ∙ c.instrs.ensures ∙ c.code-tree.ensures.tree)

pub returns-clause-short : goal.returns-clause-short
returns-clause-short c =
    let same : length c.in_ok-code.code ≡ length c.code-tree.result.now.instrs =
    ap (λ l. length l) (c.in_ok-code.ensures ∙ c.instrs.ensures) in
    omega (arith, same, c.len.ensures, c.if-len.false)

pub returns-clause-instrs : goal.returns-clause-instrs
returns-clause-instrs c =
    ap (λ l. length l) (c.in_ok-code.ensures ∙ c.instrs.ensures ∙ c.code-tree.ensures.tree)
    ∙ c.the_tree_is_of_the_prefixes.ensures.states c.args.many.now.sig c.args.many.now.rules

pub returns-clause-again : goal.returns-clause-again
returns-clause-again c = λ printable.
    let many = c.args.many.now in
    let same : c.in_ok-code.code ≡ (generated many.sig many.rules).code =
    c.in_ok-code.ensures ∙ c.instrs.ensures ∙ c.code-tree.ensures.tree in
    subst (λ p. IsProgramOf many.sig (program_text many.sig p) p) (sym (returns-clause-program c))
    (c.a_generated_program_is_valid.ensures.again many.sig many.rules c.rules.ensures.sound printable
    (subst (λ is. IsShort (suc (length is))) same (returns-clause-short c)))

pub returns-clause-valid : goal.returns-clause-valid
returns-clause-valid c = λ printable.
    let many = c.args.many.now in
    let same : c.in_ok-code.code ≡ (generated many.sig many.rules).code =
    c.in_ok-code.ensures ∙ c.instrs.ensures ∙ c.code-tree.ensures.tree in
    subst (λ p. IsValid many.sig p) (sym (returns-clause-program c))
    (c.a_generated_program_is_valid.ensures.valid many.sig many.rules c.rules.ensures.sound printable
    (subst (λ is. IsShort (suc (length is))) same (returns-clause-short c)))
