use Rattle.mp_table.specs.Table.{HasRanks}
use Rattle.mp_base_tests.proofs.bound.ranks.Given as goal

abbrev pub invariant-loop-term : goal.invariant-loop-term
invariant-loop-term g l = record { have : HasRanks l.table l.ranks.items }
