use Rattle.mp_pattern.specs.View.{pattern_tree}
use Rattle.mp_rewrite.proofs.CancellationSteps.{taken-one}
use Rattle.mp_rewrite.proofs.cancellation.taken_by.Goals as goal

pub returns-in-len1 : goal.returns-in-len1
returns-in-len1 c =
    taken-one pattern_tree c.args.first.now c.one-item.result c.args.rest.now c.taken_symbol.result
    c.in-len1.len_at_least c.in-len1.len_below c.one-item.is c.taken_symbol.ensures
