use Rattle.std.proofs.Common.{take}
use Rattle.std.specs.List.{AllByRecursion}
use Rattle.mp_term.specs.Listing.{In}
use Rattle.mp_term.specs.View.{tree}
use Rattle.mp_table.specs.Pieces.{piece_terms, IsPiece}
use Rattle.mp_table.specs.Text.{shown}
use Rattle.mp_table.proofs.pieces.new_pieces.Given as goal

abbrev pub invariant-loop-start : goal.invariant-loop-start
invariant-loop-start l = record {
  pieces : AllByRecursion (IsPiece (shown l.nodes)) l.pieces.items;
  all : AllByRecursion (λ n. In (tree n.term.now) (piece_terms l.pieces.items)) (take l.start l.nodes);
}
