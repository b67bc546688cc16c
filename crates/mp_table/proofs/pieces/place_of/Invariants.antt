use Rattle.std.proofs.Common.{◌≡◌, ◌≤◌, length, drop}
use Rattle.std.specs.declared.cmp.Ordering.TheVariants.{Greater}
use Rattle.std.specs.List.{AllByRecursion}
use Rattle.mp_term.specs.Order.{tree_cmp}
use Rattle.mp_term.specs.View.{tree}
use Rattle.mp_table.specs.Pieces.{piece_terms}
use Rattle.mp_table.proofs.pieces.place_of.Given as goal

abbrev pub invariant-loop-end : goal.invariant-loop-end
invariant-loop-end l = record {
  within : l.end ≤ length l.pieces;
  above : AllByRecursion (λ u. tree_cmp u (tree l.term) ≡ Greater) (drop l.end (piece_terms l.pieces));
}

abbrev pub decreases-loop-end : goal.decreases-loop-end
decreases-loop-end l = l.end
