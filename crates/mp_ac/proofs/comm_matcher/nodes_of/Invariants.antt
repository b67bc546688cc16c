use Rattle.std.proofs.Common.{◌≡◌, ◌+◌, drop}
use Rattle.mp_term.specs.Size.{all_nodes}
use Rattle.mp_table.specs.Table.{terms_at}
use Rattle.mp_ac.proofs.comm_matcher.nodes_of.Given as goal

abbrev pub invariant-loop-rank : goal.invariant-loop-rank
invariant-loop-rank l = l.nodes + all_nodes (terms_at l.table (drop l.rank-index l.ranks))
    ≡ all_nodes (terms_at l.table l.ranks)
