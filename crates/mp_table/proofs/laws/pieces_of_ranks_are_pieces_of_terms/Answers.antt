use Rattle.mp_table.proofs.RankLaws.{without-terms, is_sublist-terms, is_prefix-terms}
use Rattle.mp_table.proofs.laws.pieces_of_ranks_are_pieces_of_terms.Goals as goal

pub returns-clause-without : goal.returns-clause-without
returns-clause-without c t is rs ss h k = without-terms t is.ascending rs ss h k

pub returns-clause-sublist : goal.returns-clause-sublist
returns-clause-sublist c t is rs ss h k = is_sublist-terms t is.ascending rs ss h k

pub returns-clause-prefix : goal.returns-clause-prefix
returns-clause-prefix c t is rs ss h k = is_prefix-terms t is.ascending rs ss h k
