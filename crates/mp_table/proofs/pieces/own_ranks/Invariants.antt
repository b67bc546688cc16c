use Rattle.std.proofs.Common.{◌≡◌}
use Rattle.mp_table.specs.Pieces.{piece_terms, AreSomeRanks}
use Rattle.mp_table.specs.Text.{shown, counts, ranks}
use Rattle.mp_table.proofs.pieces.own_ranks.Given as goal

abbrev pub invariant-loop-rank : goal.invariant-loop-rank
invariant-loop-rank l = record {
  terms : shown l.nodes ≡ shown l.fn.nodes;
  nodes : counts l.nodes ≡ counts l.fn.nodes;
  ranks : AreSomeRanks (shown l.fn.nodes) (piece_terms l.pieces) (ranks l.nodes);
}
