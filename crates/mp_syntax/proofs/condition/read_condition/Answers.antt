use Rattle.mp_parser.specs.Syntax.{IsConditionOf, ConditionHasNames}
use Rattle.mp_parser.specs.View.{condition_tree}
use Rattle.mp_syntax.proofs.Whole.{condition_is_read, answer-holds, answer-only, answer-fault, condition_bytes-names}
use Rattle.mp_syntax.proofs.condition.read_condition.Goals as goal

pub returns-clause-found : goal.returns-clause-found
returns-clause-found c = answer-holds condition_is_read condition_tree c.args.bytes.now c.alone.result
    (IsConditionOf c.args.bytes.now) (λ v f. f) c.alone.ensures

pub returns-clause-names : goal.returns-clause-names
returns-clause-names c = answer-holds condition_is_read condition_tree c.args.bytes.now c.alone.result ConditionHasNames
    (condition_bytes-names c.args.bytes.now) c.alone.ensures

pub returns-clause-only : goal.returns-clause-only
returns-clause-only c = answer-only condition_is_read condition_tree c.args.bytes.now c.alone.result c.alone.ensures

pub returns-clause-fault : goal.returns-clause-fault
returns-clause-fault c = answer-fault condition_is_read condition_tree c.args.bytes.now c.alone.result c.alone.ensures
