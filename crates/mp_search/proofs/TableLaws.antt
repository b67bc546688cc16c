-- The table of a subject and of constants holds these, and its subject is normal where all its terms are.
use Rattle.std.proofs.Common.{◌≡◌, List, [], ◌∷◌, refl, ap, sym, subst, inl, inr}
use Rattle.std.specs.Prelude.{Some, IsSome, slice_index_or}
use Rattle.std.specs.List.{AllByRecursion}
use Rattle.std.proofs.lemmas.Option.{get_or_from_slice_get}
use Rattle.mp_term.specs.Listing.{In}
use Rattle.mp_term.specs.Normal.{IsNormal}
use Rattle.mp_term.specs.Signature.{Sig}
use Rattle.mp_term.specs.Tree.{Tree, symbol}
use Rattle.mp_term.proofs.ListingLaws.{in-from_contains, place-in}
use Rattle.mp_term.proofs.ListLaws.{all-get}
use Rattle.mp_table.specs.Subterms.{IsSubtermOf}
use Rattle.mp_table.specs.Table.{Table, IsTable, IsTableOf, rank_of}
use Rattle.mp_table.proofs.RankLaws.{rank_of-slice_get}
use Rattle.mp_subst.proofs.TrailLaws.{item_at}

-- a term is one of its own subterms
own-subterm : (u : Tree) (ts : List Tree) → In u ts → IsSubtermOf ts u
own-subterm u [] h = absurd h
own-subterm u (t ∷ ts) (inl e) = inl ([], ap Some (sym e))
own-subterm u (t ∷ ts) (inr i) = inr (own-subterm u ts i)

-- the table holds the terms with which it was built, and its subject is that of its build
module _ (table : Table) (subject : Tree) (constants : List Tree) (built : IsTableOf subject constants table) where
  pub subject-built : slice_index_or table.terms table.root (symbol []) ≡ subject
  subject-built = get_or_from_slice_get table.terms table.root subject (symbol []) built.root

  pub held-built : (u : Tree) → In u constants → IsSome (rank_of table u)
  held-built u i =
      let held : In u table.terms = in-from_contains u table.terms
      ((built.listing.exactly u).1 (inr (own-subterm u constants i))) in
      let place = place-in u table.terms held in
      subst IsSome (sym (rank_of-slice_get table u built.listing.ascending place.0 place.1)) refl

-- the subject of a table of normal terms is normal
pub subject-normal : (sig : Sig) (t : Table) → IsTable t → AllByRecursion (IsNormal sig) t.terms
    → IsNormal sig (slice_index_or t.terms t.root (symbol []))
subject-normal sig t h n =
    let at = item_at t.terms t.root h.root in
    subst (IsNormal sig) (sym (get_or_from_slice_get t.terms t.root at.0 (symbol []) at.1))
    (all-get (IsNormal sig) t.terms t.root at.0 n at.1)
