use Rattle.mp_choice.proofs.Steps.{to_come-advanced_by, item-advanced_by}
use Rattle.mp_choice.proofs.laws.steps_give_the_items_in_turn.Goals as goal

pub returns-clause-rest : goal.returns-clause-rest
returns-clause-rest c = λ d k. to_come-advanced_by k d

pub returns-clause-item : goal.returns-clause-item
returns-clause-item c = λ d k. item-advanced_by k d
