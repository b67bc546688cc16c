use Rattle.std.proofs.Common.{◌≡◌, ◌∙◌, ap, sym, subst}
use Rattle.std.specs.Prelude.{None}
use Rattle.std.specs.List.{AllByRecursion}
use Rattle.mp_rewrite.specs.Rewritable.{IsRewritable}
use Rattle.mp_text.specs.File.{file_tree}
use Rattle.mp_command.specs.Outcome.{first_without_template}
use Rattle.mp_command.proofs.Rewrites.{rules-rewrite, subjects-rewritable}
use Rattle.mp_command.proofs.rewrite.rewrite_file.Goals as goal

pub rewrite_subjects-requires-clause-rules : goal.rewrite_subjects-requires-clause-rules
rewrite_subjects-requires-clause-rules g c =
    let file = file_tree c.args.file.now in
    let none : first_without_template file.rules ≡ None =
    ap first_without_template (sym c.as_slice.ensures) ∙ sym c.in_default.ensures in
    rules-rewrite file c.requires none

pub rewrite_subjects-requires-clause-subjects : goal.rewrite_subjects-requires-clause-subjects
rewrite_subjects-requires-clause-subjects g c =
    let file = file_tree c.args.file.now in
    subst (AllByRecursion (λ s. IsRewritable file.sig s.term)) (sym c.as_slice-2.ensures)
    (subjects-rewritable file c.requires)
