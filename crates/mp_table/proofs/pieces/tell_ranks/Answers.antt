use Rattle.std.proofs.Common.{◌≡◌, ◌∙◌, ℕ, ◌+◌, ◌<◌, [], length, get_or, ap, sym, subst, refl, arith}
use Rattle.std.proofs.Math.Seq.{map-set_same}
use Rattle.std.proofs.lemmas.List.{get_or-map, map-set, length-map}
use Rattle.mp_term.specs.Listing.{In}
use Rattle.mp_term.specs.Tree.{symbol}
use Rattle.mp_term.specs.View.{tree}
use Rattle.mp_table.specs.Pieces.{piece_terms, AreSomeRanks}
use Rattle.mp_table.specs.Text.{shown, ranks}
use Rattle.mp_table.specs.declared.node.Node.{Node}
use Rattle.mp_table.proofs.Distinct.{in-place}
use Rattle.mp_table.proofs.RankedLaws.{some_ranks-set, within-more, within-set}
use Rattle.mp_table.proofs.pieces.tell_ranks.Goals as goal
use Rattle.mp_table.proofs.pieces.tell_ranks.Goals.{then-nodes-place, else-nodes-place}

pub rank_of-requires-clause-there : goal.rank_of-requires-clause-there
rank_of-requires-clause-there c =
    let nodes = c.loop-place.nodes in
    let ts = shown c.args.nodes.now in
    let place = c.loop-place.place in
    let terms = c.loop-place.invariant.terms in
    let d = c.index-nodes-place-then-nodes-place.result in
    let is : tree (get_or nodes place d).term.now ≡ get_or ts place (symbol []) =
    sym (get_or-map (λ n. tree n.term.now) nodes place d (symbol []) c.loop-place-test.true)
    ∙ ap (λ l. get_or l place (symbol [])) terms in
    c.requires.pieces.all _ (subst (λ u. In u ts) (sym is) (in-place ts place (symbol []) (omega (
      arith,
      c.loop-place-test.true,
      length-map nodes (λ n. tree n.term.now),
      ap length terms,
    ))))

pub loop-place-preserved : goal.loop-place-preserved
loop-place-preserved c =
    let nodes = c.loop-place.nodes in
    let ts = shown c.args.nodes.now in
    let ps = c.args.pieces.now in
    let us = piece_terms ps in
    let place = c.loop-place.place in
    let known = c.loop-place.invariant in
    let there : place < length nodes = c.loop-place-test.true in
    let many = length-map ps (λ p. tree p.term.now) in
    elim c.if-nodes-place.branch [
      | then-nodes-place w ↦
          let rank = w.rank_of.result.0 in
          let d = w.index-nodes-place-then-nodes-place.result in
          let e = w.index-nodes-place-then-nodes-place-2.result in
          let new : Node =
          record { term = (get_or nodes place e).term; nodes = (get_or nodes place e).nodes; rank = rank } in
          let is : get_or us rank (symbol []) ≡ get_or ts place (symbol []) =
          w.rank_of.ensures.term
          ∙ sym (get_or-map (λ n. tree n.term.now) nodes place d (symbol []) there)
          ∙ ap (λ l. get_or l place (symbol [])) known.terms in
          let below : rank < length us = omega (arith, w.rank_of.ensures.within, many) in
          let told = map-set (λ n. n.rank) nodes place new in
          rw w.nodes-is (record {
            terms = map-set_same (λ n. tree n.term.now) nodes place new e refl ∙ known.terms;
            nodes = map-set_same (λ n. n.nodes) nodes place new e refl ∙ known.nodes;
            some = subst (AreSomeRanks ts us) (sym told) (some_ranks-set ts us (ranks nodes) place rank (omega (
              arith,
              there,
              length-map nodes (λ n. tree n.term.now),
              ap length known.terms,
            )) is known.some);
            within = subst (λ rs. (i d : ℕ) → i < place + 1 → get_or rs i d < length us) (sym told)
                (within-set (ranks nodes) place rank (length us) (omega (arith, there, length-map nodes (λ n. n.rank)))
                below known.within);
          })
      | else-nodes-place w ↦
          let d = c.index-nodes-place.result in
          let own : (get_or nodes place d).rank < length us =
          omega (arith, w.if-nodes-place.false, many) in
          rw w.nodes-is (record {
            terms = known.terms;
            nodes = known.nodes;
            some = known.some;
            within = within-more (ranks nodes) place (length us) (λ e.
                omega (arith, own, get_or-map (λ n. n.rank) nodes place d e there)) known.within;
          })
    ]
