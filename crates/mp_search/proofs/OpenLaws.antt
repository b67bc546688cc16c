-- What is left to a child ascends under a commutative operation.
use Rattle.std.proofs.Common.{◌≡◌, List, [], Bool, true}
use Rattle.std.proofs.Common.{sym, ◌∙◌, subst}
use Rattle.std.specs.Prelude.{if◌then◌else◌}
use Rattle.std.specs.List.Sorted.{IsSorted}
use Rattle.mp_term.specs.Order.{tree_cmp}
use Rattle.mp_term.specs.Sorting.{sorted}
use Rattle.mp_term.specs.Tree.{Tree}
use Rattle.mp_term.proofs.Sorting.{Ascends, ascends-sorted, sorted-ascends}
use Rattle.mp_pattern.specs.Variables.{comm_above}
use Rattle.mp_pattern.proofs.SortedLaws.{all-sorted}
use Rattle.mp_table.specs.Table.{terms_at, HasRank, rank_cmp}
use Rattle.mp_subst.proofs.BoundLaws.{sorted-terms, ranks_same}
use Rattle.mp_subst.proofs.RankLists.{rank_cmp_total}
use Rattle.mp_search.specs.declared.query.Query.{Query}
use Rattle.mp_search.specs.declared.site.Site.{Site}
use Rattle.mp_search.specs.Frames.{above}
use Rattle.mp_search.specs.Query.{IsQuery}
use Rattle.mp_search.specs.Site.{IsSite}

module _ (q : Query) (x : Site) (h : IsQuery q) (k : IsSite q x) where
  abbrev left : List Tree
  left = terms_at q.table.now x.left.now

  abbrev comm : Bool
  comm = comm_above q.sig.now (above x.under)

  -- what is left ascends where the operation is commutative
  pub left-sorted : comm ≡ true → IsSorted rank_cmp x.left.now
  left-sorted c =
      let t = q.table.now in
      let rs = x.left.now in
      let terms : terms_at t (sorted rank_cmp rs) ≡ left =
      sym (sorted-terms t h.table rs k.left)
      ∙ subst (λ b. (if b then sorted tree_cmp left else left) ≡ left) c k.arranged in
      let same : sorted rank_cmp rs ≡ rs =
      ranks_same t h.table (sorted rank_cmp rs) rs (all-sorted (HasRank t) rank_cmp rs k.left) k.left terms in
      sorted-ascends rank_cmp rank_cmp_total rs
      (subst (Ascends rank_cmp) same (ascends-sorted rank_cmp rank_cmp_total rs))
