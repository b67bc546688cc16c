use Rattle.std.proofs.Common.{arith}
use Rattle.mp_table.specs.Table.{term_at}
use Rattle.mp_search.proofs.ReadsLaws.{same_terms-ranks, same_terms-other}
use Rattle.mp_search.proofs.reads.is_one_rank.Goals as goal

pub returns-in-len1 : goal.returns-in-len1
returns-in-len1 c = same_terms-ranks c.args.table.now c.requires.table c.args.ranks.now c.args.rank _ c.requires.ranks
    c.requires.rank (omega (arith, c.in-len1.len_at_least, c.in-len1.len_below))

pub returns-in_default-2 : goal.returns-in_default-2
returns-in_default-2 c =
    same_terms-other (term_at c.args.table.now) c.args.ranks.now (term_at c.args.table.now c.args.rank)
    (λ e. omega (arith, c.in_default.len_at_least))
