-- The terms of a list of ranks, one after the other.
use Rattle.std.proofs.Common.{◌≡◌, ◌∙◌, ℕ, ◌+◌, ◌<◌, Bool, ◌&&◌, List, ◌∷◌, length, get_or, drop, ap, sym, subst}
use Rattle.std.proofs.lemmas.List.{get_or_default}
use Rattle.std.proofs.lemmas.List.Elements.{All-from_recursion}
use Rattle.std.specs.List.{list_all}
use Rattle.mp_term.specs.Tree.{Tree}
use Rattle.mp_term.proofs.ListLaws.{drop-item}
use Rattle.mp_table.specs.Table.{Table, term_at, terms_at, HasRank, HasRanks}
use Rattle.mp_table.specs.declared.rank.Rank.{Rank}

module _ (t : Table) (rs : List Rank) where
  -- those from an index on
  abbrev pub terms_behind : ℕ → List Tree
  terms_behind i = terms_at t (drop i rs)

  -- the term at an index, and those behind it
  pub terms_behind-cut : (i : ℕ) (r : Rank) → i < length rs → r ≡ get_or rs i r
      → terms_behind i ≡ term_at t r ∷ terms_behind (i + 1)
  terms_behind-cut i r h at = ap (terms_at t) (drop-item rs i r h at)

  -- a test of the term at an index, and of those behind it
  pub list_all-terms_behind : (test : Tree → Bool) (i : ℕ) (d : Rank) (b : Bool) → i < length rs
      → b ≡ test (term_at t (get_or rs i d))
      → b && list_all test (terms_behind (i + 1)) ≡ list_all test (terms_behind i)
  list_all-terms_behind test i d b h e =
      let r = get_or rs i d in
      ap (λ v. v && list_all test (terms_behind (i + 1))) e
      ∙ sym (ap (list_all test) (terms_behind-cut i r h (get_or_default rs i d r h)))

  pub has_rank : (i : ℕ) (r : Rank) → i < length rs → r ≡ get_or rs i r → HasRanks t rs → HasRank t r
  has_rank i r h at all = subst (HasRank t) (sym at) (All-from_recursion (HasRank t) rs all i r h)
