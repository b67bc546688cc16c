use Rattle.std.proofs.Common.{◌++◌, ap, ◌∙◌}
use Rattle.mp_pattern.specs.CondView.{cond_tree}
use Rattle.mp_program.specs.TokenPaths.{cond_names}
use Rattle.mp_line.specs.Named.{names_in, are_test_names}
use Rattle.mp_line.proofs.test.has_test_names.Goals as goal

pub returns : goal.returns
returns c =
    c.are_test_names.ensures
    ∙ (ap (λ ns. are_test_names (names_in ns)) c.as_slice.ensures.value
    ∙ (ap are_test_names c.in_ok-condition_names.ensures
    ∙ ap (λ ns. are_test_names (names_in ns ++ cond_names (cond_tree c.args.cond.now))) c.new-names.ensures.items))
