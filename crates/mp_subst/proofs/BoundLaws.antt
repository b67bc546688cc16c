-- Values by ranks in a table are equal where their forms, their operations and their ranks are.
use Rattle.std.proofs.Common.{◌≡◌, ◌≢◌, ℕ, true, false, List, [], ◌∷◌, refl, ap, sym}
use Rattle.std.proofs.Common.{◌∙◌, subst, arith}
use Rattle.std.specs.Prelude.{Option, Some, None, if◌then◌else◌}
use Rattle.std.specs.declared.cmp.Ordering.TheVariants.{Equal}
use Rattle.std.specs.Ordering.{is_eq, is_gt, eq_by_cmp}
use Rattle.std.specs.Cmp.Lexicographic.{slice_cmp}
use Rattle.std.specs.FinMap.{slice_cmp-IsAntisymmetric}
use Rattle.std.proofs.lemmas.Cmp.{tied_itself, lists_total}
use Rattle.mp_term.specs.Tree.{Tree, symbol, app, trees, tree_list}
use Rattle.mp_term.specs.Order.{tree_cmp}
use Rattle.mp_term.specs.OrderLaws.{tree_cmp_total}
use Rattle.mp_term.specs.Sorting.{insert_sorted, sorted}
use Rattle.mp_term.specs.TreeLists.{tree_list-trees}
use Rattle.mp_pattern.specs.Value.{Value, one, seq, bag, Form, one_form, seq_form, bag_form, same_terms}
use Rattle.mp_pattern.proofs.SortedLaws.{all-sorted}
use Rattle.mp_table.specs.Table.{Table, term_at, terms_at, HasRank, HasRanks, rank_of, rank_cmp, IsTable}
use Rattle.mp_table.specs.declared.rank.Rank.{Rank}
use Rattle.mp_table.proofs.RankLaws.{ranks_cmp, rank_order, rank_of-found}
use Rattle.mp_subst.specs.Bound.{Bound, value_from, value_in, IsBoundIn}
use Rattle.mp_subst.proofs.RankLists.{rank_same}

abbrev head_of : Tree → ℕ
head_of (symbol n) = 0
head_of (app f ts) = f

abbrev args_of : Tree → List Tree
args_of (symbol n) = []
args_of (app f ts) = tree_list ts

abbrev of_one : Value → Tree
of_one (one t) = t
of_one (seq ts) = symbol []
of_one (bag ts) = symbol []

abbrev of_list : Value → List Tree
of_list (one t) = []
of_list (seq ts) = ts
of_list (bag ts) = ts

module _ (t : Table) (h : IsTable t) where
  -- ranks of the same terms
  pub ranks_same : (rs ss : List Rank) → HasRanks t rs → HasRanks t ss → terms_at t rs ≡ terms_at t ss → rs ≡ ss
  ranks_same rs ss p q e =
      let tied : slice_cmp tree_cmp (terms_at t rs) (terms_at t ss) ≡ Equal =
      subst (λ us. slice_cmp tree_cmp (terms_at t rs) us ≡ Equal) e
      (tied_itself (lists_total tree_cmp_total) (terms_at t rs)) in
      slice_cmp-IsAntisymmetric rank_same rs ss (sym (ranks_cmp t h.ascending rs ss p q) ∙ tied)

  -- whether the terms are the same
  pub same_terms-ranks : (rs ss : List Rank) → HasRanks t rs → HasRanks t ss
      → same_terms (terms_at t rs) (terms_at t ss) ≡ eq_by_cmp (slice_cmp rank_cmp) rs ss
  same_terms-ranks rs ss p q = ap is_eq (ranks_cmp t h.ascending rs ss p q)

  insert_sorted-terms : (r : Rank) (rs : List Rank) → HasRank t r → HasRanks t rs
      → insert_sorted tree_cmp (term_at t r) (terms_at t rs) ≡ terms_at t (insert_sorted rank_cmp r rs)
  insert_sorted-terms r [] p q = refl
  insert_sorted-terms r (s ∷ rs) p q =
      rw (rank_order t h.ascending r s p q.0)
      (elim (is_gt (rank_cmp r s)) as
      (λ b. (if b then term_at t s ∷ insert_sorted tree_cmp (term_at t r) (terms_at t rs)
      else (term_at t r ∷ term_at t s ∷ terms_at t rs))
      ≡ terms_at t (if b then s ∷ insert_sorted rank_cmp r rs else (r ∷ s ∷ rs))) [
        | true ↦ ap (λ us. term_at t s ∷ us) (insert_sorted-terms r rs p q.1)
        | false ↦ refl
      ])

  -- the terms in order
  pub sorted-terms : (rs : List Rank) → HasRanks t rs
      → sorted tree_cmp (terms_at t rs) ≡ terms_at t (sorted rank_cmp rs)
  sorted-terms [] p = refl
  sorted-terms (r ∷ rs) p =
      ap (insert_sorted tree_cmp (term_at t r)) (sorted-terms rs p.1)
      ∙ insert_sorted-terms r (sorted rank_cmp rs) p.0 (all-sorted (HasRank t) rank_cmp rs p.1)

  -- whether the terms are the same, each as often
  pub same_multiset-ranks : (rs ss : List Rank) → HasRanks t rs → HasRanks t ss
      → same_terms (sorted tree_cmp (terms_at t rs)) (sorted tree_cmp (terms_at t ss))
      ≡ eq_by_cmp (slice_cmp rank_cmp) (sorted rank_cmp rs) (sorted rank_cmp ss)
  same_multiset-ranks rs ss p q =
      rw (sorted-terms rs p, sorted-terms ss q)
      (same_terms-ranks (sorted rank_cmp rs) (sorted rank_cmp ss) (all-sorted (HasRank t) rank_cmp rs p)
      (all-sorted (HasRank t) rank_cmp ss q))

  -- the table holds the term of a rank
  held : (r : Rank) → HasRank t r → rank_of t (term_at t r) ≡ Some r.0
  held r p = rank_of-found t (term_at t r) h.ascending r p (tied_itself tree_cmp_total (term_at t r))

  not_held : (r : Rank) (u : Tree) → HasRank t r → rank_of t u ≡ None → term_at t r ≢ u
  not_held r u p q e = let wrong : Some r.0 ≡ None = sym (held r p) ∙ ap (rank_of t) e ∙ q in cc

  one-same : (w v : Option ℕ) (rs ss : List Rank) → IsBoundIn t (record { form = one_form; wrap = w; ranks = rs })
      → IsBoundIn t (record { form = one_form; wrap = v; ranks = ss })
      → value_from t one_form w rs ≡ value_from t one_form v ss → (w ≡ v) × (rs ≡ ss)
  one-same None None [] ss a b e = absurd (omega (arith, a.formed))
  one-same None None (r ∷ r2 ∷ rs) ss a b e = absurd (omega (arith, a.formed))
  one-same None None (r ∷ []) [] a b e = absurd (omega (arith, b.formed))
  one-same None None (r ∷ []) (s ∷ s2 ∷ ss) a b e = absurd (omega (arith, b.formed))
  one-same None None (r ∷ []) (s ∷ []) a b e =
      let same : term_at t r ≡ term_at t s = ap of_one e in
      (refl, ranks_same (r ∷ []) (s ∷ []) a.ranks b.ranks (ap (λ u. u ∷ []) same))
  one-same None (Some g) [] ss a b e = absurd (omega (arith, a.formed))
  one-same None (Some g) (r ∷ r2 ∷ rs) ss a b e = absurd (omega (arith, a.formed))
  one-same None (Some g) (r ∷ []) ss a b e =
      absurd (not_held r (app g (trees (terms_at t ss))) a.ranks.0 b.wrap (ap of_one e))
  one-same (Some f) None rs [] a b e = absurd (omega (arith, b.formed))
  one-same (Some f) None rs (s ∷ s2 ∷ ss) a b e = absurd (omega (arith, b.formed))
  one-same (Some f) None rs (s ∷ []) a b e =
      absurd (not_held s (app f (trees (terms_at t rs))) b.ranks.0 a.wrap (sym (ap of_one e)))
  one-same (Some f) (Some g) rs ss a b e =
      let same = ap of_one e in
      let args : terms_at t rs ≡ terms_at t ss =
      sym (tree_list-trees (terms_at t rs)) ∙ ap args_of same ∙ tree_list-trees (terms_at t ss) in
      (ap Some (ap head_of same), ranks_same rs ss a.ranks b.ranks args)

  same-from : (f g : Form) (w v : Option ℕ) (rs ss : List Rank)
      → IsBoundIn t (record { form = f; wrap = w; ranks = rs })
      → IsBoundIn t (record { form = g; wrap = v; ranks = ss }) → value_from t f w rs ≡ value_from t g v ss
      → (f ≡ g) × (w ≡ v) × (rs ≡ ss)
  same-from one_form one_form w v rs ss a b e = let i = one-same w v rs ss a b e in (refl, i.0, i.1)
  same-from one_form seq_form None v rs ss a b e = cc
  same-from one_form seq_form (Some f) v rs ss a b e = cc
  same-from one_form bag_form None v rs ss a b e = cc
  same-from one_form bag_form (Some f) v rs ss a b e = cc
  same-from seq_form one_form w None rs ss a b e = cc
  same-from seq_form one_form w (Some f) rs ss a b e = cc
  same-from seq_form seq_form None None rs ss a b e = (refl, refl, ranks_same rs ss a.ranks b.ranks (ap of_list e))
  same-from seq_form seq_form (Some f) v rs ss a b e = absurd a.formed
  same-from seq_form seq_form None (Some g) rs ss a b e = absurd b.formed
  same-from seq_form bag_form w v rs ss a b e = cc
  same-from bag_form one_form w None rs ss a b e = cc
  same-from bag_form one_form w (Some f) rs ss a b e = cc
  same-from bag_form seq_form w v rs ss a b e = cc
  same-from bag_form bag_form None None rs ss a b e = (refl, refl, ranks_same rs ss a.ranks b.ranks (ap of_list e))
  same-from bag_form bag_form (Some f) v rs ss a b e = absurd a.formed
  same-from bag_form bag_form None (Some g) rs ss a b e = absurd b.formed

  -- equal values are equal bounds
  pub bounds_same : (a b : Bound) → IsBoundIn t a → IsBoundIn t b → value_in t a ≡ value_in t b → a ≡ b
  bounds_same a b p q e =
      let s = same-from a.form b.form a.wrap b.wrap a.ranks b.ranks p q e in
      ap (λ f. record { form = f; wrap = a.wrap; ranks = a.ranks }) s.0
      ∙ ap (λ w. record { form = b.form; wrap = w; ranks = a.ranks }) s.1
      ∙ ap (λ rs. record { form = b.form; wrap = b.wrap; ranks = rs }) s.2
