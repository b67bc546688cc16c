use Rattle.std.proofs.Common.{◌≡◌, ◌∙◌, [], take, subst}
use Rattle.std.proofs.lemmas.List.{get_or-map}
use Rattle.mp_term.specs.Listing.{In}
use Rattle.mp_term.specs.Tree.{symbol}
use Rattle.mp_term.specs.View.{tree}
use Rattle.mp_term.proofs.ListLaws.{all-also}
use Rattle.mp_table.specs.Pieces.{is_symbol, piece_terms}
use Rattle.mp_table.proofs.Distinct.{all-more}
use Rattle.mp_table.proofs.pieces.add_pieces.Goals as goal

pub loop-start-preserved : goal.loop-start-preserved
loop-start-preserved c =
    let nodes = c.args.nodes.now in
    let start = c.loop-start.start in
    let node = c.index-nodes-start.result in
    let us = piece_terms (take c.loop-start.all c.loop-start.pieces) in
    let vs = piece_terms (take c.add_piece-all.result c.add_piece-all.new.pieces) in
    let added = c.add_piece-all.ensures in
    record {
      room = added.room ∙ c.loop-start.invariant.room;
      count = added.count;
      ascending = added.ascending;
      pieces = added.pieces;
      kept = λ u h. added.kept u (c.loop-start.invariant.kept u h);
      all = all-more (λ n. is_symbol (tree n.term.now) ≡ c.args.symbols → In (tree n.term.now) vs) nodes start node
          c.loop-start-test.true
          (λ e.
          subst (λ u. In u vs) (get_or-map (λ n. tree n.term.now) nodes start node (symbol []) c.loop-start-test.true)
          added.there)
          (all-also (λ n. is_symbol (tree n.term.now) ≡ c.args.symbols → In (tree n.term.now) us)
          (λ n. is_symbol (tree n.term.now) ≡ c.args.symbols → In (tree n.term.now) vs) (λ n h e. added.kept _ (h e))
          (take start nodes) c.loop-start.invariant.all);
    }
