use Rattle.std.proofs.lemmas.List.Filters.{dedup_is}
use Rattle.mp_term.specs.Order.{tree_cmp}
use Rattle.mp_term.specs.OrderLaws.{tree_cmp_total, tree_same}
use Rattle.mp_term.specs.View.{tree}
use Rattle.mp_table.specs.Pieces.{piece_terms, IsPiece}
use Rattle.mp_table.specs.Text.{shown}
use Rattle.mp_table.proofs.Distinct.{distinct_ascends, distinct_keep, distinct_all, from-keys}
use Rattle.mp_table.proofs.pieces.many_pieces.Goals as goal

pub returns : goal.returns
returns c =
    let nodes = c.args.nodes.now in
    let ps = c.in_ok-found.found.pieces.items in
    let qs = c.sort.new.self.items in
    rw (dedup_is _ _ _ c.dedup.ensures.filtered) (record {
      ascending = distinct_ascends tree_cmp tree_cmp_total (λ p. tree p.term.now) qs c.in_ok-sort.ensures.sorted;
      pieces = distinct_keep tree_cmp tree_cmp_total (λ p. tree p.term.now) (IsPiece (shown nodes)) ps
          qs c.in_ok-sort.ensures.permutation c.in_ok-found.ensures.pieces;
      all = λ u h. distinct_all tree_cmp tree_cmp_total (λ p. tree p.term.now) tree_same ps qs
          c.in_ok-sort.ensures.permutation u (from-keys (λ n. tree n.term.now) (piece_terms ps) nodes
          c.in_ok-found.ensures.all u h);
    })
