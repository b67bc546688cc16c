use Rattle.std.proofs.Common.{◌≡◌, ◌≤◌, length, take}
use Rattle.std.specs.List.{AllByRecursion}
use Rattle.std.specs.List.Sorted.{IsStrictlySortedBy}
use Rattle.mp_term.specs.Listing.{In}
use Rattle.mp_term.specs.Order.{tree_cmp}
use Rattle.mp_term.specs.Tree.{Tree}
use Rattle.mp_term.specs.View.{tree}
use Rattle.mp_table.specs.Pieces.{is_symbol, piece_terms, IsPiece}
use Rattle.mp_table.specs.Text.{shown}
use Rattle.mp_table.proofs.pieces.add_pieces.Given as goal

abbrev pub invariant-loop-start : goal.invariant-loop-start
invariant-loop-start l = record {
  room : length l.pieces ≡ length l.fn.pieces;
  count : l.all ≤ length l.pieces;
  ascending : IsStrictlySortedBy tree_cmp (piece_terms (take l.all l.pieces));
  pieces : AllByRecursion (IsPiece (shown l.nodes)) (take l.all l.pieces);
  kept : (u : Tree) → In u (piece_terms (take l.count l.fn.pieces)) → In u (piece_terms (take l.all l.pieces));
  all : AllByRecursion
      (λ n. is_symbol (tree n.term.now) ≡ l.symbols → In (tree n.term.now) (piece_terms (take l.all l.pieces)))
      (take l.start l.nodes);
}
