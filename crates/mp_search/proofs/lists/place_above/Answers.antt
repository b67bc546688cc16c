use Rattle.std.proofs.Common.{leb, rules}
use Rattle.std.proofs.lemmas.List.Sorted.{IsNonDecreasingBy-from_sort, IsPartitionedBy-leb}
use Rattle.std.proofs.lemmas.List.Sorted.{IsPartitionPoint-from_clause}
use Rattle.mp_search.proofs.RankOrder.{drop-above}
use Rattle.mp_search.proofs.lists.place_above.Goals as goal

pub returns-clause-above : goal.returns-clause-above
returns-clause-above c =
    let xs = c.args.list.now in
    let up = IsPartitionedBy-leb (λ r. r.0) xs c.args.rank.0 (IsNonDecreasingBy-from_sort (λ r. r.0) xs c.requires) in
    drop-above c.args.rank xs c.partition_point.result
    (IsPartitionPoint-from_clause (λ r. leb r.0 c.args.rank.0) xs c.partition_point.result
    c.partition_point.ensures.partitioned up (λ a r f k. search rules))
