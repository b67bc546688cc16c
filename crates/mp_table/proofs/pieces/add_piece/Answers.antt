use Rattle.std.proofs.Common.{◌∙◌, ◌+◌, [], get_or, take, sym, ap, subst, arith}
use Rattle.std.specs.List.Sorted.{IsStrictlySortedBy}
use Rattle.std.proofs.lemmas.List.{get_or-map, length-map, length-take-le}
use Rattle.mp_term.specs.Listing.{In}
use Rattle.mp_term.specs.Order.{tree_cmp}
use Rattle.mp_term.specs.Tree.{symbol}
use Rattle.mp_term.specs.View.{tree}
use Rattle.mp_term.proofs.ListLaws.{map-insert}
use Rattle.mp_table.specs.Pieces.{piece_terms}
use Rattle.mp_table.specs.Text.{shown}
use Rattle.mp_table.specs.declared.piece.Piece.{Piece}
use Rattle.mp_table.proofs.Inserted.{in-insert, in-inserted}
use Rattle.mp_table.proofs.PieceLaws.{room-more}
use Rattle.mp_table.proofs.pieces.add_piece.Goals as goal

pub put_piece-requires-clause-room : goal.put_piece-requires-clause-room
put_piece-requires-clause-room c =
    let ps = take c.args.count c.args.pieces.now in
    let nodes = c.args.nodes.now in
    let node = get_or nodes c.args.start c.index-nodes-start.result in
    let added : Piece = record { term = node.term; start = c.args.start } in
    let many = length-map nodes (λ n. tree n.term.now) in
    let own = sym (get_or-map (λ n. tree n.term.now) nodes c.args.start c.index-nodes-start.result (symbol [])
    c.requires.start) in
    omega (
      arith,
      room-more (shown nodes) ps c.in-Some.place added c.in-Some.ensures.within c.in-Some.ensures.ascending
          c.requires.pieces (omega (arith, many, c.requires.start), own),
      many,
      c.requires.room,
      length-take-le c.args.count c.args.pieces.now c.requires.count,
    )

pub returns-in-Some-clause-ascending : goal.returns-in-Some-clause-ascending
returns-in-Some-clause-ascending c =
    let ps = take c.args.count c.args.pieces.now in
    let node = get_or c.args.nodes.now c.args.start c.index-nodes-start.result in
    let added : Piece = record { term = node.term; start = c.args.start } in
    subst (IsStrictlySortedBy tree_cmp) (sym (ap piece_terms c.put_piece.ensures.pieces
    ∙ map-insert (λ p. tree p.term.now) c.in-Some.place ps added)) c.in-Some.ensures.ascending

pub returns-in-Some-clause-kept : goal.returns-in-Some-clause-kept
returns-in-Some-clause-kept c = λ u h.
    let ps = take c.args.count c.args.pieces.now in
    let node = get_or c.args.nodes.now c.args.start c.index-nodes-start.result in
    let added : Piece = record { term = node.term; start = c.args.start } in
    subst (In u) (sym (ap piece_terms c.put_piece.ensures.pieces
    ∙ map-insert (λ p. tree p.term.now) c.in-Some.place ps added))
    (in-insert u _ (piece_terms ps) c.in-Some.place h)

pub returns-in-Some-clause-there : goal.returns-in-Some-clause-there
returns-in-Some-clause-there c =
    let ps = take c.args.count c.args.pieces.now in
    let nodes = c.args.nodes.now in
    let node = get_or nodes c.args.start c.index-nodes-start.result in
    let added : Piece = record { term = node.term; start = c.args.start } in
    subst (λ u. In u (piece_terms (take (c.args.count + 1) c.put_piece.new.pieces)))
    (sym (get_or-map (λ n. tree n.term.now) nodes c.args.start c.index-nodes-start.result (symbol []) c.requires.start))
    (subst (In (tree node.term.now)) (sym (ap piece_terms c.put_piece.ensures.pieces
    ∙ map-insert (λ p. tree p.term.now) c.in-Some.place ps added))
    (in-inserted (tree node.term.now) (piece_terms ps) c.in-Some.place))
