use Rattle.std.proofs.Common.{take}
use Rattle.mp_table.specs.Reading.{AreEntriesOf}
use Rattle.mp_table.specs.Pieces.{piece_terms}
use Rattle.mp_table.proofs.entries.entries_of.Given as goal

abbrev pub invariant-loop-piece : goal.invariant-loop-piece
invariant-loop-piece l =
    AreEntriesOf l.args.items (piece_terms l.pieces) l.entries.items
    (take l.piece-index (piece_terms l.pieces))
