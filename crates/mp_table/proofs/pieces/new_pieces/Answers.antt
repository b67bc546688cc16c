use Rattle.std.proofs.Common.{◌≡◌, ◌<◌, ◌+◌, ◌++◌, ◌∙◌, List, [], ◌∷◌, length, take, get_or, sym, ap, subst, refl}
use Rattle.std.proofs.Common.{arith}
use Rattle.std.proofs.lemmas.List.{get_or-map, take_all, map_push, length-map}
use Rattle.std.specs.List.{AllByRecursion}
use Rattle.mp_term.specs.Listing.{In}
use Rattle.mp_term.specs.Tree.{symbol}
use Rattle.mp_term.specs.View.{tree}
use Rattle.mp_term.proofs.ListLaws.{all-append}
use Rattle.mp_table.specs.Pieces.{piece_terms, IsPiece}
use Rattle.mp_table.specs.Text.{shown}
use Rattle.mp_table.specs.declared.piece.Piece.{Piece}
use Rattle.mp_table.proofs.Distinct.{in-place, members-more, members-pushed}
use Rattle.mp_table.proofs.pieces.new_pieces.Goals as goal

pub loop-start-preserved-then-has_term : goal.loop-start-preserved-then-has_term
loop-start-preserved-then-has_term c =
    let nodes = c.args.nodes.now in
    let start = c.loop-start.start in
    let node = c.index-nodes-start.result in
    let ps = c.deref.result.now in
    let within : c.at-near.result < length (piece_terms ps) = omega (
      arith,
      c.if-has_term.ensures.within refl,
      length-map ps (λ p. tree p.term.now),
    ) in
    let there : In (tree node.term.now) (piece_terms c.loop-start.pieces.items) =
    subst (λ (l : List Piece). In (tree node.term.now) (piece_terms l)) c.deref.ensures.value
    (subst (λ u. In u (piece_terms ps)) (c.if-has_term.ensures.term refl)
    (in-place (piece_terms ps) c.at-near.result (symbol []) within)) in
    record {
      pieces = c.loop-start.invariant.pieces;
      all = members-more (λ n. tree n.term.now) (piece_terms c.loop-start.pieces.items) nodes start node
          c.loop-start-test.true
          (subst (λ n. In (tree n.term.now) (piece_terms c.loop-start.pieces.items)) c.index-nodes-start.is there)
          c.loop-start.invariant.all;
    }

pub loop-start-preserved : goal.loop-start-preserved
loop-start-preserved c =
    let nodes = c.args.nodes.now in
    let start = c.loop-start.start in
    let node = c.index-nodes-start.result in
    let ps = c.loop-start.pieces.items in
    let added : Piece = record { term = node.term; start = start } in
    let there : start < length nodes = c.loop-start-test.true in
    let is : tree node.term.now ≡ get_or (shown nodes) start (symbol []) =
    ap (λ n. tree n.term.now) c.index-nodes-start.is
    ∙ sym (get_or-map (λ n. tree n.term.now) nodes start node (symbol []) there) in
    let pushed : piece_terms c.push-in-loop-start-2.new.self.items
    ≡ piece_terms ps ++ tree (get_or nodes start node).term.now ∷ [] =
    ap piece_terms c.in_ok-push-3.ensures.items ∙ map_push (λ p. tree p.term.now) ps added
    ∙ ap (λ n. piece_terms ps ++ tree n.term.now ∷ []) c.index-nodes-start.is in
    record {
      pieces = rw c.in_ok-push-3.ensures.items (all-append (IsPiece (shown nodes)) ps _
          c.loop-start.invariant.pieces (
            (omega (arith, there, length-map nodes (λ n. tree n.term.now)), is),
            tt,
          ));
      all = subst (λ ks. AllByRecursion (λ n. In (tree n.term.now) ks) (take (start + 1) nodes)) (sym pushed)
          (members-pushed (λ n. tree n.term.now) (piece_terms ps) nodes start node there c.loop-start.invariant.all);
    }

pub returns-clause-all : goal.returns-clause-all
returns-clause-all c =
    subst (AllByRecursion (λ n. In (tree n.term.now) (piece_terms c.loop-start.pieces.items)))
    (take_all c.loop-start.start c.args.nodes.now c.loop-start-test.false) c.loop-start.invariant.all
