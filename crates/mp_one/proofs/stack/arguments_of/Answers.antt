use Rattle.std.proofs.Common.{ap, ◌∙◌, ◌∷◌, [], sym}
use Rattle.mp_term.specs.View.{tree}
use Rattle.mp_theory.specs.Machine.{arguments}
use Rattle.mp_one.proofs.SameLaws.{arguments-app}
use Rattle.mp_one.proofs.stack.arguments_of.Goals as goal

pub returns-in_ok-all-in-App : goal.returns-in_ok-all-in-App
returns-in_ok-all-in-App c = c.in_ok-all-in-App.ensures ∙ c.as_slice.ensures
    ∙ arguments-app c.in-App.field-0.0 c.in-App.args ∙ ap (λ t. arguments (tree t ∷ [])) (sym c.in-App.is)
