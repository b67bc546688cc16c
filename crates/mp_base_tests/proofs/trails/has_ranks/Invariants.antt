use Rattle.std.proofs.Common.{drop}
use Rattle.mp_table.specs.Table.{HasRanks}
use Rattle.mp_base_tests.proofs.trails.has_ranks.Given as goal

abbrev pub invariant-loop-rank : goal.invariant-loop-rank
invariant-loop-rank l = HasRanks l.table (drop l.rank-index l.ranks) → HasRanks l.table l.ranks
