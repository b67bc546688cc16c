use Rattle.std.proofs.Common.{◌∙◌}
use Rattle.mp_table.specs.Table.{rank_cmp}
use Rattle.mp_search.proofs.PieceLaws.{is_sublist-end}
use Rattle.mp_search.proofs.pieces.is_sublist.Goals as goal

pub returns : goal.returns
returns c = is_sublist-end rank_cmp c.loop-item.found c.args.ranks.now c.loop-item.item-index c.args.list.now
    c.loop-item.invariant.within c.loop-item-test.false ∙ c.loop-item.invariant.rest
