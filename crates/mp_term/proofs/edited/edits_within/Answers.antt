use Rattle.std.proofs.Common.{◌∙◌}
use Rattle.mp_term.proofs.EditWalkLaws.{same-edited}
use Rattle.mp_term.proofs.edited.edits_within.Goals as goal

pub returns : goal.returns
returns c = λ t.
    same-edited c.args.edits.now c.to_last.result.now c.args.position.now t
    (λ test narrow. c.to_last.ensures test narrow ∙ c.from_first.ensures test narrow)
