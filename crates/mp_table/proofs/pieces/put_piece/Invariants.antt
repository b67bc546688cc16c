use Rattle.std.proofs.Common.{◌≡◌, ◌+◌, ◌≤◌, length, set, take}
use Rattle.std.specs.List.{insert}
use Rattle.mp_table.specs.declared.piece.Piece.{Piece}
use Rattle.mp_table.proofs.pieces.put_piece.Given as goal

abbrev pub invariant-loop-end : goal.invariant-loop-end
invariant-loop-end l = record {
  room : length l.pieces ≡ length l.fn.pieces;
  low : l.place ≤ l.end;
  high : l.end ≤ l.count;
  gap : (x : Piece) → take (l.count + 1) (set l.pieces l.end x) ≡ insert (take l.count l.fn.pieces) l.end x;
}

abbrev pub decreases-loop-end : goal.decreases-loop-end
decreases-loop-end l = l.end
