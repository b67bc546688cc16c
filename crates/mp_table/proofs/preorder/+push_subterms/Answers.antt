use Rattle.std.proofs.Common.{◌≡◌, ◌∙◌, ℕ, ◌+◌, ◌-◌, ◌^◌, ◌<◌, ◌≤◌, List, ◌++◌, ◌∷◌, [], map, length, sym, ap, refl}
use Rattle.std.proofs.Common.{drop, get_or, arith, append_assoc, subst}
use Rattle.std.proofs.Common.{length-append, set}
use Rattle.std.proofs.Math.Seq.{map-set_same}
use Rattle.std.proofs.lemmas.List.{map-set, set_at, length-map}
use Rattle.std.specs.List.{All}
use Rattle.mp_term.specs.Tree.{Tree}
use Rattle.mp_term.specs.TreeLists.{tree_list-trees}
use Rattle.mp_term.specs.declared.term.OpId.{OpId}
use Rattle.mp_term.specs.declared.term.Term.{Term}
use Rattle.mp_term.specs.declared.term.Term.TheVariants.{App}
use Rattle.mp_term.proofs.SizeLaws.{node_count-element}
use Rattle.mp_term.specs.View.{tree}
use Rattle.mp_term.specs.Size.{node_count, all_nodes}
use Rattle.mp_table.specs.Preorder.{preorder, all_preorder}
use Rattle.mp_table.specs.Subterms.{arguments}
use Rattle.mp_table.specs.Text.{shown, counts}
use Rattle.mp_table.specs.declared.node.Node.{Node}
use Rattle.mp_table.proofs.PreorderLaws.{preorder_is, node_count_is, length-all_preorder, at_end, next_within}
use Rattle.mp_table.proofs.preorder.+push_subterms.Goals as goal

pub push_subterms-push_arguments-requires : goal.push_subterms-push_arguments-requires
push_subterms-push_arguments-requires t c =
    let old = c.args.found.now.items in
    let new = c.push_node.new.found.items in
    let own = node_count_is (tree c.args.term.now) in (
      omega (arith, c.decreases),
      (
        omega (
          arith,
          own,
          ap length c.in_ok-push_node.ensures.nodes,
          length-append (counts old) (1 ∷ []),
          length-map old (λ n. n.nodes),
          length-map new (λ n. n.nodes),
          c.requires.short,
        ),
        c.in_ok-push_node.ensures.unranked,
      ),
    )

-- how long the list of counts is after the arguments
many : (old ms new : List ℕ) (t : Tree) → ms ≡ old ++ 1 ∷ []
    → new ≡ ms ++ map node_count (all_preorder (arguments t)) → length new ≡ length old + node_count t
many old ms new t e h =
    let rest = all_preorder (arguments t) in
    omega (
      arith,
      node_count_is t,
      length-all_preorder (arguments t),
      length-map rest node_count,
      ap length h,
      ap length e,
      length-append old (1 ∷ []),
      length-append ms (map node_count rest),
    )

-- what the list of counts becomes
counted : (old ms new : List ℕ) (t : Tree) (start count : ℕ) → ms ≡ old ++ 1 ∷ []
    → new ≡ ms ++ map node_count (all_preorder (arguments t)) → start ≡ length old → count ≡ length new
    → set new start (count - start) ≡ old ++ map node_count (preorder t)
counted old ms new t start count e h s l =
    let rest = map node_count (all_preorder (arguments t)) in
    let own : count - start ≡ node_count t = omega (arith, many old ms new t e h, s, l) in
    ap (λ ns. set ns start (count - start)) (h ∙ ap (λ ns. ns ++ rest) e ∙ append_assoc old (1 ∷ []) rest)
    ∙ set_at old 1 rest (count - start) start (sym s)
    ∙ ap (λ n. old ++ n ∷ rest) own
    ∙ ap (λ ts. old ++ map node_count ts) (sym (preorder_is t))

pub push_subterms-returns-clause-terms : goal.push_subterms-returns-clause-terms
push_subterms-returns-clause-terms t c =
    let old = c.args.found.now.items in
    let own = tree c.args.term.now in
    let first = c.index_mut.result.now in
    let counted : Node = record { term = first.term; nodes = c.len.result - c.len-start.result; rank = first.rank } in
    map-set_same (λ n. tree n.term.now) c.push_arguments.new.found.items c.len-start.result counted first
    (ap (λ (n : Node). tree n.term.now) c.index_mut.ensures.value)
    ∙ c.in_ok-push_arguments.ensures.terms
    ∙ ap (λ ts. ts ++ all_preorder (arguments own)) c.in_ok-push_node.ensures.terms
    ∙ append_assoc (shown old) (own ∷ []) (all_preorder (arguments own))
    ∙ ap (λ ts. shown old ++ ts) (sym (preorder_is own))

pub push_subterms-overflow_cast-len : goal.push_subterms-overflow_cast-len
push_subterms-overflow_cast-len t c =
    let old = c.args.found.now.items in
    let new = c.push_arguments.new.found.items in
    let long = many (counts old) (counts c.push_node.new.found.items) (counts new) (tree c.args.term.now)
    c.in_ok-push_node.ensures.nodes
    c.in_ok-push_arguments.ensures.nodes in
    omega (
      arith,
      long,
      length-map old (λ n. n.nodes),
      length-map new (λ n. n.nodes),
      c.requires.short,
      c.len.ensures,
      c.len-start.ensures,
      c.push_arguments.new.found.ok.0,
      c.args.found.now.ok.0,
    )

pub push_subterms-returns-clause-nodes : goal.push_subterms-returns-clause-nodes
push_subterms-returns-clause-nodes t c =
    let old = c.args.found.now.items in
    let new = c.push_arguments.new.found.items in
    let start = c.len-start.result in
    let first = c.index_mut.result.now in
    map-set (λ n. n.nodes) new start
    (record { term = first.term; nodes = c.len.result - start; rank = first.rank })
    ∙ counted (counts old) (counts c.push_node.new.found.items) (counts new) (tree c.args.term.now) start c.len.result
    c.in_ok-push_node.ensures.nodes
    c.in_ok-push_arguments.ensures.nodes
    (c.len-start.ensures ∙ c.args.found.now.ok.0 ∙ sym (length-map old (λ n. n.nodes)))
    (c.len.ensures ∙ c.push_arguments.new.found.ok.0 ∙ sym (length-map new (λ n. n.nodes)))

-- the room that is left for the next argument
room : (found old : List ℕ) (items : List Term) (n : ℕ) (d : Term) → n < length items
    → length old + all_nodes (map tree items) < 2 ^ 32
    → found ++ map node_count (all_preorder (map tree (drop n items)))
    ≡ old ++ map node_count (all_preorder (map tree items))
    → length found + node_count (tree (get_or items n d)) < 2 ^ 32
room found old items n d h k e =
    let left = all_preorder (map tree (drop n items)) in
    let whole = all_preorder (map tree items) in
    omega (
      arith,
      ap length e,
      length-append found (map node_count left),
      length-append old (map node_count whole),
      length-map left node_count,
      length-map whole node_count,
      length-all_preorder (map tree (drop n items)),
      length-all_preorder (map tree items),
      next_within tree items n d h,
    )

pub push_arguments-push_subterms-requires : goal.push_arguments-push_subterms-requires
push_arguments-push_subterms-requires t c =
    let items = c.as_slice-arg-items.result.now in
    let n = c.loop-arg.arg-index in
    let x = c.arg-item.result in
    let is : x ≡ get_or items n x = c.arg-item.is in
    let own : node_count (tree c.args.term.now) ≡ all_nodes (map tree items) + 1 =
    rw c.in-App.is (ap (λ l. all_nodes l + 1) (sym c.as_slice-arg-items.ensures)) in
    let below : node_count (tree x) ≤ all_nodes (map tree items) =
    rw is (node_count-element tree items n x c.loop-arg-test.true) in
    let few : length (counts c.args.found.now.items) + all_nodes (map tree items) < 2 ^ 32 =
    omega (
      arith,
      own,
      node_count_is (tree c.args.term.now),
      length-map c.args.found.now.items (λ n. n.nodes),
      c.requires.short,
    ) in (
      omega (arith, own, below, c.decreases),
      (
        rw is (omega (
          arith,
          room (counts c.loop-arg.found.items) (counts c.args.found.now.items) items n x c.loop-arg-test.true few
              c.loop-arg.invariant.nodes,
          length-map c.loop-arg.found.items (λ n. n.nodes),
        )),
        c.loop-arg.invariant.unranked,
      ),
    )

-- the arguments as the slice shows them
shown_args : (items : List Term) (t : Term) (f : OpId) (args : List Tree) → t ≡ App f args → map tree items ≡ args
    → map tree items ≡ arguments (tree t)
shown_args items t f args e h = rw (e, tree_list-trees args) h

pub push_arguments-returns-after-loop-arg-clause-terms : goal.push_arguments-returns-after-loop-arg-clause-terms
push_arguments-returns-after-loop-arg-clause-terms t c =
    let items = c.as_slice-arg-items.result.now in
    at_end (λ l. all_preorder (map tree l)) refl _ _ items c.loop-arg.arg-index c.loop-arg-test.false
    c.loop-arg.invariant.terms
    ∙ ap (λ l. shown c.args.found.now.items ++ all_preorder l)
    (shown_args items c.args.term.now c.in-App.field-0 c.in-App.args c.in-App.is c.as_slice-arg-items.ensures)

pub push_arguments-returns-after-loop-arg-clause-nodes : goal.push_arguments-returns-after-loop-arg-clause-nodes
push_arguments-returns-after-loop-arg-clause-nodes t c =
    let items = c.as_slice-arg-items.result.now in
    at_end (λ l. map node_count (all_preorder (map tree l))) refl _ _ items c.loop-arg.arg-index c.loop-arg-test.false
    c.loop-arg.invariant.nodes
    ∙ ap (λ l. counts c.args.found.now.items ++ map node_count (all_preorder l))
    (shown_args items c.args.term.now c.in-App.field-0 c.in-App.args c.in-App.is c.as_slice-arg-items.ensures)

pub push_subterms-returns-clause-unranked : goal.push_subterms-returns-clause-unranked
push_subterms-returns-clause-unranked t c =
    let first = c.index_mut.result.now in
    let counted : Node = record { term = first.term; nodes = c.len.result - c.len-start.result; rank = first.rank } in
    subst (All (λ r. 2 ^ 32 ≤ r + 1))
    (sym (map-set_same (λ n. n.rank) c.push_arguments.new.found.items c.len-start.result counted first
    (ap (λ (n : Node). n.rank) c.index_mut.ensures.value)))
    c.in_ok-push_arguments.ensures.unranked
