use Rattle.std.proofs.Common.{◌≡◌, ◌≤◌, length, drop}
use Rattle.mp_term.specs.Order.{tree_cmp}
use Rattle.mp_term.specs.Pieces as pieces
use Rattle.mp_one.specs.Lists.{trees_of}
use Rattle.mp_one.proofs.pieces.is_sublist.Given as goal

abbrev pub invariant-loop-term : goal.invariant-loop-term
invariant-loop-term l = record {
  within : l.found ≤ length l.terms;
  rest : pieces.is_sublist tree_cmp (trees_of (drop l.found l.terms)) (trees_of (drop l.term-index l.list))
      ≡ pieces.is_sublist tree_cmp (trees_of l.terms) (trees_of l.list);
}
