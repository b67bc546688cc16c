-- A term that a table doesn't hold is no subterm of a term that it holds.
use Rattle.std.proofs.Common.{◌≡◌, ℕ, ◌+◌, Bool, true, false, ◌&&◌, ◌||◌, not, List, [], ◌∷◌}
use Rattle.std.proofs.Common.{refl, ap, sym, ◌∙◌, inl}
use Rattle.std.proofs.Common.{inr, subst}
use Rattle.std.specs.Prelude.{Option, Some, None, option_map, position}
use Rattle.std.specs.List.{AllByRecursion, list_all}
use Rattle.std.specs.Ordering.{eq_by_cmp}
use Rattle.mp_term.specs.Tree.{Tree, symbol, app, Trees, no_trees, more_trees, tree_list, trees}
use Rattle.mp_term.specs.TreeLists.{tree_list-trees}
use Rattle.mp_term.specs.Order.{tree_cmp}
use Rattle.mp_term.specs.Sorting.{sorted}
use Rattle.mp_term.specs.Listing.{In}
use Rattle.mp_term.proofs.ListingLaws.{all_in}
use Rattle.mp_term.proofs.SignatureLaws.{position-first, position-behind}
use Rattle.mp_term.proofs.Sorting.{sorted-single}
use Rattle.mp_pattern.specs.Value.{same_terms}
use Rattle.mp_pattern.specs.Holds.{same_term, occurs, occurs_in}
use Rattle.mp_table.specs.Table.{Table, IsTable, terms_at, HasRanks, rank_of}
use Rattle.mp_table.specs.declared.rank.Rank.{Rank}
use Rattle.mp_table.proofs.TextLaws.{in-place}
use Rattle.mp_cond.proofs.TermTests.{same_term-itself, same_term-other, same_terms-other}
use Rattle.mp_cond.proofs.Occurs.{list_all-occurs}

apart : (b : Bool) → b ≡ true → b ≡ false → ⊥
apart true e d = cc
apart false e d = cc

-- the position of a member is found
some_none : (k : ℕ) → Some k ≡ None → ⊥
some_none k e = cc

no_more : (o : Option ℕ) → option_map (λ k. k + 1) o ≡ None → o ≡ None
no_more None e = refl
no_more (Some k) e = cc

none_there : {X : Type 0} (p : X → Bool) (xs : List X) (x : X) → In x xs → p x ≡ true → position p xs ≡ None → ⊥
none_there p [] x i h e = absurd i
none_there p (y ∷ ys) x i h e =
    elim (p y) as (λ b. p y ≡ b → ⊥) [
      | true ↦ λ first. some_none 0 (sym (position-first p y ys first) ∙ e)
      | false ↦ λ first. elim i [
        | inl same ↦ apart (p x) h (ap p same ∙ first)
        | inr there ↦ none_there p ys x there h
            (no_more (position p ys) (sym (position-behind p y ys first) ∙ e))
      ]
    ] refl

-- the terms of ranks are terms of the table
pub terms_at-in : (t : Table) (rs : List Rank) → HasRanks t rs → AllByRecursion (λ u. In u t.terms) (terms_at t rs)
terms_at-in t [] h = tt
terms_at-in t (r ∷ rs) h = (in-place t.terms r.0 h.0, terms_at-in t rs h.1)

module _ (t : Table) (is : IsTable t) (w : Tree) (none : rank_of t w ≡ None) where
  not_there : In w t.terms → ⊥
  not_there i = none_there (eq_by_cmp tree_cmp w) t.terms w i (same_term-itself w) none

  -- it is another term than each of the table
  unlike : (u : Tree) → In u t.terms → w ≡ u → ⊥
  unlike u i e = not_there (subst (λ v. In v t.terms) (sym e) i)

  pub same_term-missing : (u : Tree) → In u t.terms → same_term w u ≡ false
  same_term-missing u i = same_term-other w u (unlike u i)

  pub missing-same_term : (u : Tree) → In u t.terms → same_term u w ≡ false
  missing-same_term u i = same_term-other u w (λ e. unlike u i (sym e))

  mutual
    -- it occurs in none of them
    occurs-missing : (u : Tree) → In u t.terms → occurs w u ≡ false
    occurs-missing (symbol n) i = same_term-missing (symbol n) i
    occurs-missing (app f us) i =
        ap (λ b. b || occurs_in w us) (same_term-missing (app f us) i)
        ∙ occurs_in-missing us (all_in (λ v. AllByRecursion (λ x. In x t.terms) _) t.terms (app f us) is.arguments i)

    occurs_in-missing : (us : Trees) → AllByRecursion (λ u. In u t.terms) (tree_list us) → occurs_in w us ≡ false
    occurs_in-missing no_trees h = refl
    occurs_in-missing (more_trees u us) h =
        ap (λ b. b || occurs_in w us) (occurs-missing u h.0) ∙ occurs_in-missing us h.1

  module _ (rs : List Rank) (h : HasRanks t rs) where
    -- nor in the terms of ranks
    pub occurs_in-missing_ranks : occurs_in w (trees (terms_at t rs)) ≡ false
    occurs_in-missing_ranks = occurs_in-missing (trees (terms_at t rs))
        (subst (AllByRecursion (λ u. In u t.terms)) (sym (tree_list-trees (terms_at t rs))) (terms_at-in t rs h))

    pub list_all-missing : list_all (λ u. not (occurs w u)) (terms_at t rs) ≡ true
    list_all-missing = list_all-occurs w (terms_at t rs) ∙ ap not occurs_in-missing_ranks

    -- the list of it alone is another list than that of the terms of ranks
    single_unlike : (us : List Tree) → AllByRecursion (λ u. In u t.terms) us → w ∷ [] ≡ us → ⊥
    single_unlike [] k e = cc
    single_unlike (u ∷ us) k e = let same : w ≡ u = cc in unlike u k.0 same

    pub same_terms-missing : same_terms (w ∷ []) (terms_at t rs) ≡ false
    same_terms-missing = same_terms-other _ _ (single_unlike (terms_at t rs) (terms_at-in t rs h))

    pub missing-same_terms : same_terms (terms_at t rs) (w ∷ []) ≡ false
    missing-same_terms = same_terms-other _ _ (λ e. single_unlike (terms_at t rs) (terms_at-in t rs h) (sym e))

    sorted_unlike : w ∷ [] ≡ sorted tree_cmp (terms_at t rs) → ⊥
    sorted_unlike e = single_unlike (terms_at t rs) (terms_at-in t rs h)
        (sym (sorted-single tree_cmp (terms_at t rs) w (sym e)))

    pub same_terms-missing_sorted : same_terms (w ∷ []) (sorted tree_cmp (terms_at t rs)) ≡ false
    same_terms-missing_sorted = same_terms-other _ _ sorted_unlike

    pub missing-same_terms_sorted : same_terms (sorted tree_cmp (terms_at t rs)) (w ∷ []) ≡ false
    missing-same_terms_sorted = same_terms-other _ _ (λ e. sorted_unlike (sym e))

    -- of terms of the table, none occurs in an application of the same arguments but below it
    pub list_all-below : (f : ℕ) (us : List Tree) → w ≡ app f (trees us)
        → list_all (λ v. list_all (λ u. not (occurs v u)) (w ∷ [])) (terms_at t rs)
        ≡ list_all (λ v. list_all (λ u. not (occurs v u)) us) (terms_at t rs)
    list_all-below f us e = go (terms_at t rs) (terms_at-in t rs h)
      where
        alone : (v : Tree) → list_all (λ u. not (occurs v u)) (w ∷ []) ≡ not (occurs v w)
        alone v = elim (occurs v w) as (λ b. not b && true ≡ not b) [ true ↦ refl | false ↦ refl ]

        below : (v : Tree) → In v t.terms → occurs v w ≡ occurs_in v (trees us)
        below v i = ap (occurs v) e ∙ ap (λ b. b || occurs_in v (trees us))
            (ap (same_term v) (sym e) ∙ missing-same_term v i)

        go : (vs : List Tree) → AllByRecursion (λ v. In v t.terms) vs
            → list_all (λ v. list_all (λ u. not (occurs v u)) (w ∷ [])) vs
            ≡ list_all (λ v. list_all (λ u. not (occurs v u)) us) vs
        go [] k = refl
        go (v ∷ vs) k =
            λ j. (alone v ∙ ap not (below v k.0) ∙ sym (list_all-occurs v us)) j && go vs k.1 j
