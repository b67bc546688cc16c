-- The order of ranks, and where those above a rank stand in an ascending list.
use Rattle.std.proofs.Common.{◌≡◌, ℕ, zero, suc, ◌<◌, ◌≤◌, List, [], ◌∷◌, Bool, true, false, refl, ap}
use Rattle.std.proofs.Common.{length, filter, drop, get_or, leb, arith}
use Rattle.std.specs.List.{AllWithin}
use Rattle.std.specs.List.Sorted.{IsSorted, IsPartitionPoint}
use Rattle.std.specs.Ordering.{is_lt, nat_cmp}
use Rattle.std.specs.Cmp.{nat_cmp_total}
use Rattle.std.proofs.lemmas.Bool.{leb-true, leb-false}
use Rattle.std.proofs.lemmas.Cmp.{by_ranked, ranked}
use Rattle.std.proofs.lemmas.List.MinMax.{ranks_by}
use Rattle.mp_term.specs.Pieces.{without}
use Rattle.mp_term.proofs.PiecesLaws.{nat_cmp-less}
use Rattle.std.proofs.lemmas.List.Sorted.{sorted_far}
use Rattle.mp_table.specs.Table.{rank_cmp}
use Rattle.mp_table.specs.declared.rank.Rank.{Rank}
use Rattle.mp_term.specs.Listing.{above}
use Rattle.mp_search.proofs.Sublists.{Ascends, ascends-from_far}
use Rattle.mp_subst.proofs.RankLists.{rank_same, rank_cmp_total}

-- a list of ranks that is sorted ascends
pub ascending-ranks : (rs : List Rank) → IsSorted rank_cmp rs → Ascends rank_cmp rank_cmp_total rank_same rs
ascending-ranks rs h = ascends-from_far rank_cmp rank_cmp_total rank_same rs
    (sorted_far (λ r s. is_lt (rank_cmp r s)) (ranks_by nat_cmp_total (λ r. r.0)) rs h)

-- the items that pass, where they stand behind those that don't
drop-filter : {X : Type 0} (q : X → Bool) (xs : List X) (i : ℕ) → AllWithin (λ y. q y ≡ false) xs 0 i
    → AllWithin (λ y. q y ≡ true) xs i (length xs) → drop i xs ≡ filter q xs
drop-filter q [] zero h k = refl
drop-filter q [] (suc i) h k = refl
drop-filter q (x ∷ xs) zero h k =
    rw (k 0 x (omega arith) (omega arith))
    (ap (λ ys. x ∷ ys) (drop-filter q xs zero (λ n d a b. absurd (omega (arith, b)))
    (λ n d a b. k (suc n) d (omega arith) (omega (arith, b)))))
drop-filter q (x ∷ xs) (suc i) h k =
    rw (h 0 x (omega arith) (omega arith))
    (drop-filter q xs i (λ n d a b. h (suc n) d (omega arith) (omega (arith, b)))
    (λ n d a b. k (suc n) d (omega (arith, a)) (omega (arith, b))))

-- the ranks above r stand behind those that are at most r
pub drop-above : (r : Rank) (rs : List Rank) (i : ℕ)
    → IsPartitionPoint (λ s. leb s.0 r.0 ≡ true) (λ s. leb s.0 r.0 ≡ false) rs i → drop i rs ≡ above rank_cmp r rs
drop-above r rs i h =
    drop-filter (λ s. is_lt (rank_cmp r s)) rs i
    (λ k d a b. not_above (get_or rs k d) (leb-true _ _ (h.0 k d a b)))
    (λ k d a b. ap is_lt (nat_cmp-less r.0 (get_or rs k d).0 (leb-false _ _ (h.1 k d a b))))
  where
    not_above : (s : Rank) → s.0 ≤ r.0 → is_lt (rank_cmp r s) ≡ false
    not_above s l =
        by_ranked (r.0 < s.0) (r.0 ≡ s.0) (s.0 < r.0) (nat_cmp r.0 s.0) (ranked r.0 s.0 (nat_cmp r.0 s.0) refl)
        (λ e p. absurd (omega (arith, p, l))) (λ e p. ap is_lt e) (λ e p. ap is_lt e)

-- of nothing nothing is left
pub without-nothing : (l : List Rank) → without rank_cmp l [] ≡ []
without-nothing [] = refl
without-nothing (r ∷ l) = refl
