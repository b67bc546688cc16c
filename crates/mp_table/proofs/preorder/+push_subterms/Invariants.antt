use Rattle.std.proofs.Common.{◌≡◌, ◌+◌, ◌*◌, ◌++◌, map, drop}
use Rattle.mp_term.specs.View.{tree}
use Rattle.mp_term.specs.Size.{node_count}
use Rattle.mp_table.specs.Preorder.{all_preorder}
use Rattle.mp_table.specs.Text.{shown, counts, AreUnranked}
use Rattle.mp_table.proofs.preorder.+push_subterms.Given as goal

abbrev pub decreases-push_subterms : goal.decreases-push_subterms
decreases-push_subterms l = 2 * node_count (tree l.term.now) + 1

abbrev pub decreases-push_arguments : goal.decreases-push_arguments
decreases-push_arguments l = 2 * node_count (tree l.term.now)

abbrev pub invariant-push_arguments-loop-arg : goal.invariant-push_arguments-loop-arg
invariant-push_arguments-loop-arg l = record {
  terms : shown l.found.items ++ all_preorder (map tree (drop l.arg-index l.arg-items))
      ≡ shown l.fn.found.items ++ all_preorder (map tree l.arg-items);
  nodes : counts l.found.items ++ map node_count (all_preorder (map tree (drop l.arg-index l.arg-items)))
      ≡ counts l.fn.found.items ++ map node_count (all_preorder (map tree l.arg-items));
  unranked : AreUnranked l.found.items;
}
