-- The terms of the pieces of a text are its subterms.
use Rattle.std.proofs.Common.{◌≡◌, ◌∙◌, ℕ, ◌<◌, ◌≤◌, List, [], ◌∷◌, length, get_or, sym, subst, inl, inr, arith}
use Rattle.std.specs.List.{AllByRecursion, insert}
use Rattle.std.specs.List.Sorted.{IsStrictlySortedBy}
use Rattle.std.proofs.lemmas.List.{get_or-map, length-map}
use Rattle.std.proofs.lemmas.List.Edits.{length-insert}
use Rattle.std.proofs.lemmas.List.Elements.{All-from_recursion}
use Rattle.mp_term.specs.Listing.{In}
use Rattle.mp_term.specs.Order.{tree_cmp}
use Rattle.mp_term.specs.OrderLaws.{tree_cmp_total, tree_same}
use Rattle.mp_term.specs.Tree.{Tree, symbol}
use Rattle.mp_term.specs.View.{tree}
use Rattle.mp_term.proofs.ListLaws.{map-insert}
use Rattle.mp_table.specs.declared.piece.Piece.{Piece}
use Rattle.mp_table.specs.Pieces.{piece_terms, IsPiece}
use Rattle.mp_table.proofs.Distinct.{in-place}
use Rattle.mp_table.proofs.Inserted.{all-insert, length-ascending}

module _ (ts : List Tree) where
  -- the term of a piece is a subterm
  pub in-text : (ps : List Piece) → AllByRecursion (IsPiece ts) ps → (u : Tree) → In u (piece_terms ps) → In u ts
  in-text [] h u i = absurd i
  in-text (p ∷ ps) h u (inl e) =
      subst (λ v. In v ts) (sym (e ∙ h.0.1)) (in-place ts p.start (symbol []) h.0.0)
  in-text (p ∷ ps) h u (inr i) = in-text ps h.1 u i

  -- the term of the piece at a rank stands where the piece begins
  pub piece_at : (ps : List Piece) → AllByRecursion (IsPiece ts) ps → (r : ℕ) (d : Piece) → r < length ps
      → get_or (piece_terms ps) r (symbol []) ≡ get_or ts (get_or ps r d).start (symbol [])
  piece_at ps h r d k =
      get_or-map (λ p. tree p.term.now) ps r d (symbol []) k ∙ (All-from_recursion (IsPiece ts) ps h r d k).1

  -- there are no more ascending pieces than subterms
  pub length-ascending_pieces : (ps : List Piece) → IsStrictlySortedBy tree_cmp (piece_terms ps)
      → AllByRecursion (IsPiece ts) ps → length ps ≤ length ts
  length-ascending_pieces ps up pieces =
      omega (
        arith,
        length-ascending tree_cmp tree_cmp_total tree_same (piece_terms ps) ts up (in-text ps pieces),
        length-map ps (λ p. tree p.term.now),
      )

  -- where a piece more ascends among them, they are fewer
  pub room-more : (ps : List Piece) (i : ℕ) (p : Piece) → i ≤ length ps
      → IsStrictlySortedBy tree_cmp (insert (piece_terms ps) i (tree p.term.now))
      → AllByRecursion (IsPiece ts) ps → IsPiece ts p → length ps < length ts
  room-more ps i p within up pieces own =
      omega (
        arith,
        length-ascending_pieces (insert ps i p)
            (subst (IsStrictlySortedBy tree_cmp) (sym (map-insert (λ q. tree q.term.now) i ps p)) up)
            (all-insert (IsPiece ts) ps i p pieces own),
        length-insert ps i p within,
      )
