use Rattle.mp_table.proofs.RankLaws.{rank_order, slice_get-rank_of, rank_of-slice_get}
use Rattle.mp_table.proofs.laws.ranks_compare_as_their_terms.Goals as goal

pub returns-clause-order : goal.returns-clause-order
returns-clause-order c t is r s h k = rank_order t is.ascending r s h k

pub returns-clause-found : goal.returns-clause-found
returns-clause-found c t is u r = (slice_get-rank_of t u r, rank_of-slice_get t u is.ascending r)
