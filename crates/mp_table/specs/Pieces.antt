-- The pieces of a text: its distinct subterms, each with a place where it begins.
use Rattle.std.specs.Prelude.{◌≡◌, ◌<◌, ℕ, List, [], map, length, slice_index_or, Bool, true, false}
use Rattle.std.specs.List.{AllByRecursion}
use Rattle.std.specs.List.Sorted.{IsStrictlySortedBy}
use Rattle.mp_term.specs.Listing.{In}
use Rattle.mp_term.specs.Order.{tree_cmp}
use Rattle.mp_term.specs.Tree.{Tree, symbol, app}
use Rattle.mp_term.specs.View.{tree}
use Rattle.mp_table.specs.declared.piece.Piece.{Piece}

-- whether a tree is a symbol
abbrev pub is_symbol : Tree → Bool
is_symbol (symbol n) = true
is_symbol (app f ts) = false

-- the terms of pieces
abbrev pub piece_terms : List Piece → List Tree
piece_terms = map (λ p. tree p.term.now)

-- a piece has the subterm that begins at its place
abbrev pub IsPiece : List Tree → Piece → Type 0
IsPiece ts p = (p.start < length ts) × (tree p.term.now ≡ slice_index_or ts p.start (symbol []))

-- a piece for each distinct subterm, ascending
pub record ArePieces (ts : List Tree) (ps : List Piece) : Type 0 where
  pub ascending : IsStrictlySortedBy tree_cmp (piece_terms ps)
  pub pieces : AllByRecursion (IsPiece ts) ps
  pub all : (u : Tree) → In u ts → In u (piece_terms ps)

-- a number for each place, which is the rank of the subterm there in us if it is a rank
pub record AreSomeRanks (ts us : List Tree) (rs : List ℕ) : Type 0 where
  pub many : length rs ≡ length ts
  pub terms : (i d : ℕ) → i < length ts → slice_index_or rs i d < length us
      → slice_index_or us (slice_index_or rs i d) (symbol []) ≡ slice_index_or ts i (symbol [])

-- the rank of the subterm at each place
pub record AreRanks (ts us : List Tree) (rs : List ℕ) : Type 0 where
  pub many : length rs ≡ length ts
  pub within : (i d : ℕ) → i < length ts → slice_index_or rs i d < length us
  pub terms : (i d : ℕ) → i < length ts
      → slice_index_or us (slice_index_or rs i d) (symbol []) ≡ slice_index_or ts i (symbol [])
