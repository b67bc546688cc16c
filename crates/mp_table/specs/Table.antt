-- Tables: the distinct subterms of some trees, ascending by the term order, each by its rank.
use Rattle.std.specs.Prelude.{◌≡◌, ◌<◌, ℕ, List, [], ◌∷◌, map, length, slice_get, slice_index_or, position, Option}
use Rattle.std.specs.Prelude.{Some}
use Rattle.std.specs.declared.cmp.Ordering.{Ordering}
use Rattle.std.specs.Ordering.{eq_by_cmp, nat_cmp}
use Rattle.std.specs.List.{AllByRecursion}
use Rattle.std.specs.List.Sorted.{IsStrictlySortedBy}
use Rattle.mp_term.specs.Tree.{Tree, symbol}
use Rattle.mp_term.specs.Order.{tree_cmp}
use Rattle.mp_term.specs.Listing.{In, IsListing}
use Rattle.mp_table.specs.Subterms.{IsSubtermOf, arguments}
use Rattle.mp_table.specs.declared.rank.Rank.{Rank}

-- the terms, each at its rank, and the rank of the subject
pub record Table : Type 0 where
  pub terms : List Tree
  pub root : ℕ

-- the term of a rank
abbrev pub term_at : Table → Rank → Tree
term_at t r = slice_index_or t.terms r.0 (symbol [])

-- the terms of ranks
abbrev pub terms_at : Table → List Rank → List Tree
terms_at t = map (term_at t)

-- the table has the rank
abbrev pub HasRank : Table → Rank → Type 0
HasRank t r = r.0 < length t.terms

-- the table has the ranks
abbrev pub HasRanks : Table → List Rank → Type 0
HasRanks t = AllByRecursion (HasRank t)

-- ranks compare as numbers
abbrev pub rank_cmp : Rank → Rank → Ordering
rank_cmp r s = nat_cmp r.0 s.0

-- the rank of a term, if the table holds it
abbrev pub rank_of : Table → Tree → Option ℕ
rank_of t u = position (eq_by_cmp tree_cmp u) t.terms

-- the table's subject
abbrev pub subject_of : Table → Tree
subject_of t = slice_index_or t.terms t.root (symbol [])

-- what holds of each table: its terms ascend, it holds the arguments of each, and the root is one of them
pub record IsTable (t : Table) : Type 0 where
  pub ascending : IsStrictlySortedBy tree_cmp t.terms
  pub arguments : AllByRecursion (λ u. AllByRecursion (λ v. In v t.terms) (arguments u)) t.terms
  pub root : t.root < length t.terms

-- the table of a subject and of constants: exactly their subterms, each once, with the subject's rank
pub record IsTableOf (subject : Tree) (constants : List Tree) (t : Table) : Type 0 where
  pub listing : IsListing tree_cmp (IsSubtermOf (subject ∷ constants)) t.terms
  pub root : slice_get t.terms t.root ≡ Some subject
