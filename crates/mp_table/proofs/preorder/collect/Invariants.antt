use Rattle.std.proofs.Common.{◌≡◌, ◌++◌, ◌∷◌, map, drop}
use Rattle.mp_term.specs.View.{tree}
use Rattle.mp_term.specs.Size.{node_count}
use Rattle.mp_table.specs.Preorder.{all_preorder}
use Rattle.mp_table.specs.Text.{shown, counts, AreUnranked}
use Rattle.mp_table.proofs.preorder.collect.Given as goal

abbrev pub invariant-loop-constant : goal.invariant-loop-constant
invariant-loop-constant l = record {
  all : map tree l.constant-items ≡ l.constants;
  terms : shown l.found.items ++ all_preorder (map tree (drop l.constant-index l.constant-items))
      ≡ all_preorder (tree l.subject ∷ map tree l.constant-items);
  nodes : counts l.found.items ++ map node_count (all_preorder (map tree (drop l.constant-index l.constant-items)))
      ≡ map node_count (all_preorder (tree l.subject ∷ map tree l.constant-items));
  unranked : AreUnranked l.found.items;
}
