use Rattle.std.proofs.Common.{◌≡◌, ◌++◌, drop, map}
use Rattle.mp_parser.specs.View.{spot_of, position_of}
use Rattle.mp_build.specs.Edits.{index_of, indexes}
use Rattle.mp_build.proofs.edit.indexes.Given as goal

-- the indexes so far stand before those of the others
abbrev pub invariant-loop-other : goal.invariant-loop-other
invariant-loop-other l = l.indexes.items ++ map index_of (map spot_of (drop l.other-index l.other-items))
    ≡ indexes (position_of l.position)
