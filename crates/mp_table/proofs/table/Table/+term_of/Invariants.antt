use Rattle.std.proofs.Common.{◌≡◌, ◌++◌, drop}
use Rattle.mp_term.specs.Size.{node_count}
use Rattle.mp_table.specs.Subterms.{arguments}
use Rattle.mp_table.specs.Table.{term_at, terms_at, HasRanks}
use Rattle.mp_table.proofs.table.Table.+term_of.Given as goal

abbrev pub decreases-term_of : goal.decreases-term_of
decreases-term_of l = node_count (term_at l.self.now l.rank)

abbrev pub invariant-loop-arg : goal.invariant-loop-arg
invariant-loop-arg l = record {
  ranks : HasRanks l.self l.arg-items;
  all : terms_at l.self l.arg-items ≡ arguments (term_at l.self l.fn.rank);
  copied : l.terms ++ terms_at l.self (drop l.arg-index l.arg-items) ≡ arguments (term_at l.self l.fn.rank);
}
