use Rattle.std.proofs.Common.{◌≡◌, ℕ, ◌<◌, ◌-◌, length, get_or}
use Rattle.mp_table.specs.Pieces.{piece_terms, AreSomeRanks}
use Rattle.mp_table.specs.Text.{shown, counts, ranks}
use Rattle.mp_table.proofs.pieces.tell_ranks.Given as goal

abbrev pub invariant-loop-place : goal.invariant-loop-place
invariant-loop-place l = record {
  terms : shown l.nodes ≡ shown l.fn.nodes;
  nodes : counts l.nodes ≡ counts l.fn.nodes;
  some : AreSomeRanks (shown l.fn.nodes) (piece_terms l.pieces) (ranks l.nodes);
  within : (i d : ℕ) → i < l.place → get_or (ranks l.nodes) i d < length (piece_terms l.pieces);
}

abbrev pub decreases-loop-place : goal.decreases-loop-place
decreases-loop-place l = length l.nodes - l.place
