use Rattle.std.proofs.Common.{◌≡◌, ◌∙◌, ap, sym}
use Rattle.std.specs.Prelude.{None}
use Rattle.mp_text.specs.File.{file_tree}
use Rattle.mp_command.specs.Outcome.{first_without_template}
use Rattle.mp_command.proofs.Rewrites.{rules-rewrite}
use Rattle.mp_command_tests.proofs.steps.check_first.Goals as goal

pub check_step-requires-clause-rules : goal.check_step-requires-clause-rules
check_step-requires-clause-rules g c =
    let file = file_tree c.args.file.now in
    let none : first_without_template file.rules ≡ None =
    ap first_without_template (sym c.as_slice.ensures) ∙ c.have_templates.ensures c.if-have_templates.true in
    rules-rewrite file c.requires none
