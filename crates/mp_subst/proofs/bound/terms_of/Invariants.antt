use Rattle.std.proofs.Common.{◌≡◌, ◌++◌, drop}
use Rattle.mp_table.specs.Table.{terms_at, HasRanks}
use Rattle.mp_subst.proofs.bound.terms_of.Given as goal

abbrev pub invariant-loop-rank : goal.invariant-loop-rank
invariant-loop-rank l = record {
  terms : l.terms ++ terms_at l.table (drop l.rank-index l.ranks) ≡ terms_at l.table l.ranks;
  rest : HasRanks l.table (drop l.rank-index l.ranks);
}
