use Rattle.std.proofs.Common.{sym, ◌∙◌}
use Rattle.mp_table.specs.Table.{rank_cmp}
use Rattle.mp_search.proofs.PieceLaws.{is_prefix-end}
use Rattle.mp_search.proofs.pieces.is_prefix.Goals as goal

pub returns-then-i-list : goal.returns-then-i-list
returns-then-i-list c = sym (is_prefix-end rank_cmp c.loop-i.i c.args.ranks.now c.args.list.now c.loop-i-test.true
    c.if-i-list.true) ∙ c.loop-i.invariant
