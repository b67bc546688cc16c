use Rattle.std.proofs.Common.{◌≡◌, drop}
use Rattle.mp_term.specs.Order.{tree_cmp}
use Rattle.mp_term.specs.Pieces as pieces
use Rattle.mp_one.specs.Lists.{trees_of}
use Rattle.mp_one.proofs.pieces.is_prefix.Given as goal

abbrev pub invariant-loop-i : goal.invariant-loop-i
invariant-loop-i l = pieces.is_prefix tree_cmp (trees_of (drop l.i l.terms)) (trees_of (drop l.i l.list))
    ≡ pieces.is_prefix tree_cmp (trees_of l.terms) (trees_of l.list)
