use Rattle.std.proofs.Common.{◌≡◌, ◌+◌, ◌++◌, ◌∷◌, [], sym, ap, ◌∙◌, arith}
use Rattle.mp_net.specs.Items.{items_from}
use Rattle.mp_net.proofs.ItemLaws.{items_from-more}
use Rattle.mp_net.proofs.group.starts.Goals as goal

pub loop-index-preserved : goal.loop-index-preserved
loop-index-preserved c =
    let first = c.args.first in
    let index = c.loop-index.index in
    c.in_ok-push.ensures.items
    ∙ ap (λ is. is ++ record { rule = first + index; free = 0; at = 0 } ∷ []) c.loop-index.invariant
    ∙ sym (items_from-more first index)

pub returns : goal.returns
returns c =
    let all : c.loop-index.index ≡ c.args.count = omega arith in
    c.loop-index.invariant ∙ ap (items_from c.args.first) all
