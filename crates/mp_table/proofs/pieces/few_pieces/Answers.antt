use Rattle.std.proofs.Common.{◌≡◌, [], true, take, refl}
use Rattle.mp_term.specs.Listing.{In}
use Rattle.mp_term.specs.Order.{tree_cmp}
use Rattle.mp_term.specs.View.{tree}
use Rattle.mp_term.proofs.ListLaws.{all-also}
use Rattle.mp_table.specs.Pieces.{is_symbol, piece_terms}
use Rattle.mp_table.proofs.Distinct.{from-keys}
use Rattle.mp_table.proofs.Inserted.{all-both, none_ascend}
use Rattle.mp_table.proofs.pieces.few_pieces.Goals as goal

pub add_pieces-symbols-requires-clause-ascending : goal.add_pieces-symbols-requires-clause-ascending
add_pieces-symbols-requires-clause-ascending c = none_ascend tree_cmp [] refl

pub returns-clause-pieces : goal.returns-clause-pieces
returns-clause-pieces c =
    let nodes = c.args.nodes.now in
    let us = piece_terms (take c.add_pieces-symbols.result c.add_pieces-symbols.new.pieces) in
    let vs = piece_terms (take c.add_pieces.result c.add_pieces.new.pieces) in
    let symbols = c.add_pieces-symbols.ensures in
    let all = c.add_pieces.ensures in
    record {
      ascending = all.ascending;
      pieces = all.pieces;
      all = from-keys (λ n. tree n.term.now) vs nodes (all-both (λ n. is_symbol (tree n.term.now))
          (λ n. In (tree n.term.now) vs) nodes
          (all-also (λ n. is_symbol (tree n.term.now) ≡ true → In (tree n.term.now) us)
          (λ n. is_symbol (tree n.term.now) ≡ true → In (tree n.term.now) vs) (λ n h e. all.kept _ (h e)) nodes
          symbols.all) all.all);
    }
