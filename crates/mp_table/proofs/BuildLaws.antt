-- The entries of the pieces of a text are the table of its trees.
use Rattle.std.proofs.Common.{◌≡◌, ◌∙◌, ℕ, ◌^◌, ◌<◌, ◌≤◌, List, [], ◌∷◌, ◌++◌, map, length, get_or, ap, sym, subst}
use Rattle.std.proofs.Common.{arith}
use Rattle.std.proofs.Common.{Result, Ok, Err}
use Rattle.std.specs.Prelude.{IfOk, Some, slice_get}
use Rattle.std.specs.List.{AllByRecursion}
use Rattle.std.specs.List.Sorted.{IsStrictlySortedBy}
use Rattle.std.proofs.lemmas.List.{length-map}
use Rattle.std.proofs.lemmas.Option.{slice_get-get_or}
use Rattle.mp_term.specs.Listing.{In, IsListing}
use Rattle.mp_term.specs.Normal.{IsNormal}
use Rattle.mp_term.specs.Order.{tree_cmp}
use Rattle.mp_term.specs.Signature.{Sig}
use Rattle.mp_term.specs.Size.{node_count, all_nodes}
use Rattle.mp_term.specs.Tree.{Tree, symbol}
use Rattle.mp_term.specs.View.{tree}
use Rattle.mp_term.proofs.ListingLaws.{all_in, contains-from_in, in-from_contains}
use Rattle.mp_term.specs.declared.limits.TheConstants.{MAX_TERM_NODES}
use Rattle.mp_term.proofs.SearchLaws.{all-from_in}
use Rattle.mp_table.specs.declared.limits.TheConstants.{MAX_CONSTANT_NODES}
use Rattle.mp_table.specs.declared.entry.Entry.{Entry}
use Rattle.mp_table.specs.declared.node.Node.{Node}
use Rattle.mp_table.specs.declared.piece.Piece.{Piece}
use Rattle.mp_table.specs.declared.rank.Rank.{Rank}
use Rattle.mp_table.specs.Pieces.{piece_terms, ArePieces, AreRanks}
use Rattle.mp_table.specs.Preorder.{all_preorder}
use Rattle.mp_table.specs.Reading.{entry_trees, AreEntries}
use Rattle.mp_table.specs.Subterms.{IsSubtermOf}
use Rattle.mp_table.specs.Table.{Table, IsTableOf}
use Rattle.mp_table.specs.Text.{shown, counts, IsText}
use Rattle.mp_table.proofs.NormalSubterms.{normal_subterms}
use Rattle.mp_table.proofs.PreorderLaws.{preorder_is, length-all_preorder, subterm_of-from_in, in-from_subterm_of}
use Rattle.mp_table.proofs.PreorderLaws.{node_count_is}
use Rattle.mp_table.proofs.ReadingLaws.{entry_trees-is, length-entries}
use Rattle.mp_table.proofs.PieceLaws.{in-text}
use Rattle.mp_table.proofs.TextLaws.{term_in}

-- what two facts of an answer give
pub if_both : {T E : Type 0} (P Q R : T → Type 0) (r : Result T E) → IfOk r P → IfOk r Q
    → ((t : T) → P t → Q t → R t) → IfOk r R
if_both P Q R (Ok t) p q f = f t p q
if_both P Q R (Err e) p q f = tt

-- so many places has the text
pub few_places : (places : List ℕ) (subject : Tree) (constants : List Tree)
    → places ≡ map node_count (all_preorder (subject ∷ constants)) → node_count subject ≤ MAX_TERM_NODES
    → all_nodes constants ≤ MAX_CONSTANT_NODES → length places < 2 ^ 32
few_places places subject constants e h k =
    let all = all_preorder (subject ∷ constants) in
    omega (arith, ap length e, length-map all node_count, length-all_preorder (subject ∷ constants))

first-preorder : (t : Tree) (ts : List Tree) → term_in (all_preorder (t ∷ ts)) 0 ≡ t
first-preorder t ts = ap (λ l. term_in (l ++ all_preorder ts) 0) (preorder_is t)

module _ (subject : Tree) (constants : List Tree) (text : List Node)
    (terms : shown text ≡ all_preorder (subject ∷ constants))
    (widths : counts text ≡ map node_count (all_preorder (subject ∷ constants))) where
  -- it is a text
  pub is_text : IsText text
  is_text = record {
    roots = subject ∷ constants;
    terms = terms;
    nodes = widths ∙ ap (map node_count) (sym terms);
  }

  pub some_place : 0 < length text
  some_place =
      omega (
        arith,
        ap length terms,
        length-map text (λ n. tree n.term.now),
        length-all_preorder (subject ∷ constants),
        node_count_is subject,
      )

  -- the table of its pieces
  module _ (ps : List Piece) (pieces : ArePieces (shown text) ps) (t : Table) (is : t.terms ≡ piece_terms ps)
      (root : slice_get t.terms t.root ≡ Some (term_in (shown text) 0)) where
    from_table : (u : Tree) → In u (piece_terms ps) → In u (all_preorder (subject ∷ constants))
    from_table u i = subst (In u) terms (in-text (shown text) ps pieces.pieces u i)

    to_table : (u : Tree) → In u (all_preorder (subject ∷ constants)) → In u (piece_terms ps)
    to_table u i = pieces.all u (subst (In u) (sym terms) i)

    -- is that of the trees
    pub table_built : IsTableOf subject constants t
    table_built = record {
      listing = subst (IsListing tree_cmp (IsSubtermOf (subject ∷ constants))) (sym is) (record {
        exactly = λ u. (
          λ h. subterm_of-from_in (subject ∷ constants) u (from_table u (in-from_contains u (piece_terms ps) h)),
          λ h. contains-from_in u (piece_terms ps) (to_table u (in-from_subterm_of (subject ∷ constants) u h)),
        );
        ascending = pieces.ascending;
      });
      root = root ∙ ap Some (ap (λ l. term_in l 0) terms ∙ first-preorder subject constants);
    }

    -- and its terms are normal
    pub normal_built : (sig : Sig) → IsNormal sig subject → AllByRecursion (IsNormal sig) constants
        → AllByRecursion (IsNormal sig) t.terms
    normal_built sig h k = subst (AllByRecursion (IsNormal sig)) (sym is) (all-from_in (IsNormal sig)
        (piece_terms ps) (λ u i. all_in (IsNormal sig) (all_preorder (subject ∷ constants)) u
        (normal_subterms sig (subject ∷ constants) (h, k)) (from_table u i)))

module _ (ts : List Tree) (some : 0 < length ts) (ps : List Piece) (rs : List ℕ)
    (ranks : AreRanks ts (piece_terms ps) rs) (root : ℕ) (read : root ≡ get_or rs 0 root) where
  -- the rank that is read at the first place is one
  pub root-within : root < length ps
  root-within = omega (arith, read, ranks.within 0 root some, length-map ps (λ p. tree p.term.now))

  -- and has the term there
  pub root-first : slice_get (piece_terms ps) root ≡ Some (term_in ts 0)
  root-first =
      slice_get-get_or (piece_terms ps) root (symbol []) (omega (
        arith,
        root-within,
        length-map ps (λ p. tree p.term.now),
      ))
      ∙ ap Some (ap (λ r. get_or (piece_terms ps) r (symbol [])) read ∙ ranks.terms 0 root some)

module _ (ps : List Piece) (rs : List Rank) (es : List Entry) (entries : AreEntries rs es (piece_terms ps)) where
  pub length-built : length es ≡ length ps
  length-built =
      length-entries rs (piece_terms ps) es (piece_terms ps) entries ∙ length-map ps (λ p. tree p.term.now)

  -- the terms that the entries are read as
  pub terms_built : entry_trees rs es ≡ piece_terms ps
  terms_built = entry_trees-is rs (piece_terms ps) es entries

  pub entries_built : AreEntries rs es (entry_trees rs es)
  entries_built = subst (AreEntries rs es) (sym terms_built) entries

  pub ascending_built : IsStrictlySortedBy tree_cmp (piece_terms ps) → IsStrictlySortedBy tree_cmp (entry_trees rs es)
  ascending_built up = subst (IsStrictlySortedBy tree_cmp) (sym terms_built) up
