use Rattle.std.proofs.Common.{◌≡◌, drop}
use Rattle.mp_table.specs.Table.{rank_cmp}
use Rattle.mp_term.specs.Pieces as pieces
use Rattle.mp_search.proofs.pieces.is_prefix.Given as goal

abbrev pub invariant-loop-i : goal.invariant-loop-i
invariant-loop-i l = pieces.is_prefix rank_cmp (drop l.i l.ranks) (drop l.i l.list)
    ≡ pieces.is_prefix rank_cmp l.ranks l.list
