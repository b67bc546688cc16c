use Rattle.std.proofs.Common.{◌≡◌, ◌∷◌, map, length, get_or, drop, ap, arith, length-append}
use Rattle.std.proofs.lemmas.List.{length-map}
use Rattle.mp_term.specs.View.{tree}
use Rattle.mp_term.specs.Size.{node_count, all_nodes}
use Rattle.mp_table.specs.Preorder.{all_preorder}
use Rattle.mp_table.specs.Text.{counts}
use Rattle.mp_table.proofs.PreorderLaws.{length-all_preorder, next_within}
use Rattle.mp_table.proofs.preorder.collect.Goals as goal

pub push_subterms-requires-in-loop-constant-clause-short : goal.push_subterms-requires-in-loop-constant-clause-short
push_subterms-requires-in-loop-constant-clause-short c =
    let items = c.as_slice-constant-items.result.now in
    let n = c.loop-constant.constant-index in
    let x = c.constant-item.result in
    let is : x ≡ get_or items n x = c.constant-item.is in
    let left = all_preorder (map tree (drop n items)) in
    let whole = all_preorder (tree c.args.subject.now ∷ map tree items) in
    rw is (omega (
      arith,
      c.requires,
      ap length c.loop-constant.invariant.nodes,
      ap all_nodes c.loop-constant.invariant.all,
      length-append (counts c.loop-constant.found.items) (map node_count left),
      length-map c.loop-constant.found.items (λ n. n.nodes),
      length-map left node_count,
      length-map whole node_count,
      length-all_preorder (map tree (drop n items)),
      length-all_preorder (tree c.args.subject.now ∷ map tree items),
      next_within tree items n x c.loop-constant-test.true,
    ))
