use Rattle.std.proofs.Common.{◌∙◌, ap}
use Rattle.mp_term.specs.View.{tree}
use Rattle.mp_term.specs.Order.{tree_cmp}
use Rattle.mp_term.specs.OrderLaws.{tree_cmp_total, tree_same}
use Rattle.mp_term.specs.Sorting.{sorted}
use Rattle.mp_term.proofs.Sorting.{sorted_is}
use Rattle.mp_one.specs.Lists.{trees_of}
use Rattle.mp_one.proofs.terms.in_order.Goals as goal

pub returns : goal.returns
returns c = sorted_is tree_cmp tree_cmp_total tree_same
    (λ t. tree t.now) _ _ c.sort_unstable.ensures.permutation c.sort_unstable.ensures.sorted
    ∙ ap (λ ts. sorted tree_cmp (trees_of ts)) c.in_ok-copy.ensures
