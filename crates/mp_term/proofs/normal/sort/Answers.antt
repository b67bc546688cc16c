use Rattle.std.proofs.Common.{◌∙◌, ap}
use Rattle.mp_term.specs.View.{tree}
use Rattle.mp_term.specs.Order.{tree_cmp}
use Rattle.mp_term.specs.OrderLaws.{tree_cmp_total, tree_same}
use Rattle.mp_term.specs.Sorting.{sorted}
use Rattle.mp_term.proofs.Sorting.{sorted_is}
use Rattle.mp_term.proofs.normal.sort.Goals as goal

pub returns : goal.returns
returns c = sorted_is tree_cmp tree_cmp_total tree_same tree _ _ c.sort_unstable.ensures.permutation
    c.sort_unstable.ensures.sorted ∙ ap (sorted tree_cmp) c.terms.view_is
