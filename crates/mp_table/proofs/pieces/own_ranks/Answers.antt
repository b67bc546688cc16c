use Rattle.std.proofs.Common.{◌≡◌, ◌∙◌, [], get_or, ap, sym, subst, refl}
use Rattle.std.proofs.Math.Seq.{map-set_same}
use Rattle.std.proofs.lemmas.List.{map-set}
use Rattle.std.proofs.lemmas.List.Elements.{All-from_recursion}
use Rattle.mp_term.specs.Tree.{symbol}
use Rattle.mp_term.specs.View.{tree}
use Rattle.mp_table.specs.Pieces.{piece_terms, IsPiece, AreSomeRanks}
use Rattle.mp_table.specs.Text.{shown, ranks}
use Rattle.mp_table.specs.declared.node.Node.{Node}
use Rattle.mp_table.specs.declared.piece.Piece.{Piece}
use Rattle.mp_table.proofs.PieceLaws.{piece_at}
use Rattle.mp_table.proofs.RankedLaws.{some_ranks-set}
use Rattle.mp_table.proofs.pieces.own_ranks.Goals as goal

pub loop-rank-preserved : goal.loop-rank-preserved
loop-rank-preserved c =
    let nodes = c.loop-rank.nodes in
    let ts = shown c.args.nodes.now in
    let ps = c.args.pieces.now in
    let rank = c.loop-rank.rank in
    let piece = c.index-pieces-rank.result in
    let place = piece.start in
    let d = c.index-nodes-piece.result in
    let new : Node = record { term = (get_or nodes place d).term; nodes = (get_or nodes place d).nodes; rank = rank } in
    let own : IsPiece ts piece = subst (IsPiece ts) (sym c.index-pieces-rank.is)
    (All-from_recursion (IsPiece ts) ps c.requires.pieces rank piece c.loop-rank-test.true) in
    let is : get_or (piece_terms ps) rank (symbol []) ≡ get_or ts place (symbol []) =
    piece_at ts ps c.requires.pieces rank piece c.loop-rank-test.true
    ∙ ap (λ (p : Piece). get_or ts p.start (symbol [])) (sym c.index-pieces-rank.is) in
    record {
      terms = map-set_same (λ n. tree n.term.now) nodes place new d refl ∙ c.loop-rank.invariant.terms;
      nodes = map-set_same (λ n. n.nodes) nodes place new d refl ∙ c.loop-rank.invariant.nodes;
      ranks = subst (AreSomeRanks ts (piece_terms ps)) (sym (map-set (λ n. n.rank) nodes place new))
          (some_ranks-set ts (piece_terms ps) (ranks nodes) place rank own.0 is c.loop-rank.invariant.ranks);
    }
