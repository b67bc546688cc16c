use Rattle.std.specs.Prelude.{None}
use Rattle.mp_pattern.specs.Variables.{variables}
use Rattle.mp_print.specs.PrintedCond.{cond_text}
use Rattle.mp_program.specs.FormText.{program_text}
use Rattle.mp_program.specs.ProgramOf.{renamed_cond}
use Rattle.mp_gen.specs.Generated.{generated}
use Rattle.mp_gen.proofs.RuleFaults.{spelled-in}
use Rattle.mp_gen.proofs.Validity.{readable-rules, is-program}
use Rattle.mp_gen.proofs.laws.a_generated_program_is_valid.Goals as goal

pub returns-clause-again : goal.returns-clause-again
returns-clause-again c = λ sig rules sound printable short.
    let spelled = printable.spelled in
    let terms = c.printed_term_is_read.ensures in
    let patterns = c.printed_pattern_is_read.ensures in
    let conditions = c.printed_condition_is_read.ensures in
    let renamed = c.a_renamed_condition_is_read.ensures in
    is-program sig rules sound printable
    (readable-rules sig rules sound printable
    (λ p d formed own shallow. conditions.passes sig None (cond_text sig d) d spelled
    (conditions.rule sig p d spelled formed own shallow))
    (renamed.passes sig)) (λ t h. terms.readable sig t spelled h) (λ p h. patterns.readable sig p spelled h)
    (λ d h. conditions.readable sig None d spelled h) short

pub returns-clause-valid : goal.returns-clause-valid
returns-clause-valid c = λ sig rules sound printable short.
    (program_text sig (generated sig rules), returns-clause-again c sig rules sound printable short)

pub returns-clause-conditions : goal.returns-clause-conditions
returns-clause-conditions c = λ sig rules sound printable r d i e.
    let spelled = printable.spelled in
    let conditions = c.printed_condition_is_read.ensures in
    let renamed = c.a_renamed_condition_is_read.ensures in
    conditions.readable sig None (renamed_cond (variables r.pattern) d) spelled
    (readable-rules sig rules sound printable
    (λ p q formed own shallow. conditions.passes sig None (cond_text sig q) q spelled
    (conditions.rule sig p q spelled formed own shallow))
    (renamed.passes sig) (renamed_cond (variables r.pattern) d) (spelled-in rules r d i e))
