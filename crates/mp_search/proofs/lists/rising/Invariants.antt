use Rattle.std.proofs.Common.{◌-◌, length, drop}
use Rattle.mp_table.specs.Table.{rank_cmp}
use Rattle.mp_search.specs.Sublists.{IsStuck}
use Rattle.mp_search.proofs.lists.rising.Given as goal

abbrev pub invariant-loop-back : goal.invariant-loop-back
invariant-loop-back l = IsStuck rank_cmp l.pool (drop (length l.list - l.back) l.list)
