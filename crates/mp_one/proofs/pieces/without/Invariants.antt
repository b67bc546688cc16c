use Rattle.std.proofs.Common.{◌≡◌, ◌≤◌, ◌++◌, length, drop}
use Rattle.mp_term.specs.Order.{tree_cmp}
use Rattle.mp_term.specs.Pieces as pieces
use Rattle.mp_one.specs.Lists.{trees_of}
use Rattle.mp_one.proofs.pieces.without.Given as goal

abbrev pub invariant-loop-term : goal.invariant-loop-term
invariant-loop-term l = record {
  within : l.taken ≤ length l.terms;
  rest : trees_of l.rest.items ++ pieces.without tree_cmp (trees_of (drop l.taken l.terms))
      (trees_of (drop l.term-index l.list)) ≡ pieces.without tree_cmp (trees_of l.terms) (trees_of l.list);
}
