use Rattle.std.proofs.Common.{sym, ap, ◌∙◌}
use Rattle.std.specs.Prelude.{option_map}
use Rattle.mp_pattern.specs.CondView.{cond_tree}
use Rattle.mp_program.specs.Form.{spelled}
use Rattle.mp_gen.specs.Generated.{spelled_condition}
use Rattle.mp_gen.proofs.program.spelled.Goals as goal

pub returns-in_ok-new-in-Some : goal.returns-in_ok-new-in-Some
returns-in_ok-new-in-Some c = ap spelled (c.in_ok-new-in-Some.ensures ∙ c.in_ok-copy_cond-in-Some.ensures)
    ∙ sym (ap (λ o. spelled_condition (option_map cond_tree o)) c.in-Some.is)
