-- Where a rank first stands in an ascending list.
use Rattle.std.proofs.Common.{◌≡◌, ℕ, zero, suc, ◌+◌, ◌<◌, ◌≤◌, List, [], ◌∷◌, ◌++◌, length, take, drop, Bool, true}
use Rattle.std.proofs.Common.{false}
use Rattle.std.proofs.Common.{refl, ap, sym, ◌∙◌, subst, get_or, ltb, arith}
use Rattle.std.specs.Prelude.{if◌then◌else◌}
use Rattle.std.specs.List.Sorted.{IsNonDecreasingBy, IsPartitionPoint}
use Rattle.std.proofs.lemmas.Bool.{ltb-true, ltb-false}
use Rattle.mp_term.specs.Pieces.{same, is_sublist, without}
use Rattle.mp_term.proofs.PiecesLaws.{same-itself, same-sound}
use Rattle.mp_table.specs.Table.{rank_cmp}
use Rattle.mp_table.specs.declared.rank.Rank.{Rank}
use Rattle.mp_search.specs.Sublists.{IsFirstAt}
use Rattle.mp_subst.proofs.RankLists.{rank_same, rank_cmp_total}

-- ranks of other numbers aren't the same
pub differ : (x y : Rank) → (x.0 ≡ y.0 → ⊥) → same rank_cmp x y ≡ false
differ x y h = by_test (same rank_cmp x y) refl
  where
    by_test : (b : Bool) → same rank_cmp x y ≡ b → b ≡ false
    by_test true e = absurd (h (ap (λ r. r.0) (same-sound rank_cmp rank_cmp_total rank_same x y e)))
    by_test false e = refl

-- what stands nowhere is no sublist
pub missing : (r : Rank) (xs : List Rank) → ((k : ℕ) → k < length xs → (get_or xs k r).0 ≡ r.0 → ⊥)
    → is_sublist rank_cmp (r ∷ []) xs ≡ false
missing r [] h = refl
missing r (x ∷ xs) h =
    ap (λ b. if b then true else is_sublist rank_cmp (r ∷ []) xs) (differ x r (h zero (omega arith)))
    ∙ missing r xs (λ k l. h (suc k) (omega (arith, l)))

-- and nothing is taken out
pub missing-left : (r : Rank) (xs : List Rank) → is_sublist rank_cmp (r ∷ []) xs ≡ false
    → without rank_cmp (r ∷ []) xs ≡ xs
missing-left r [] e = refl
missing-left r (x ∷ xs) e = by_test (same rank_cmp x r) (missing-left r xs) e
  where
    by_test : (b : Bool) → (is_sublist rank_cmp (r ∷ []) xs ≡ false → without rank_cmp (r ∷ []) xs ≡ xs)
        → (if b then true else is_sublist rank_cmp (r ∷ []) xs) ≡ false
        → (if b then xs else x ∷ without rank_cmp (r ∷ []) xs) ≡ x ∷ xs
    by_test true h e = cc
    by_test false h e = ap (λ ys. x ∷ ys) (h e)

-- behind lesser ranks it stands first at its place
pub first-at : (r : Rank) (xs : List Rank) (p : ℕ) → p < length xs → (get_or xs p r).0 ≡ r.0
    → ((k : ℕ) → k < p → (get_or xs k r).0 < r.0) → IsFirstAt rank_cmp r xs p
first-at r [] p l e h = absurd (omega (arith, l))
first-at r (x ∷ xs) zero l e h =
    let i : x ≡ r = ap (λ n. record { 0 = n }) e in
    let hit : same rank_cmp x r ≡ true =
    subst (λ y. same rank_cmp y r ≡ true) (sym i) (same-itself rank_cmp rank_cmp_total rank_same r) in
    record {
      within = l;
      there = ap (λ b. if b then true else is_sublist rank_cmp (r ∷ []) xs) hit;
      others = ap (λ b. if b then xs else x ∷ without rank_cmp (r ∷ []) xs) hit;
    }
first-at r (x ∷ xs) (suc p) l e h =
    let less : x.0 < r.0 = h zero (omega arith) in
    let miss : same rank_cmp x r ≡ false = differ x r (λ i. omega (arith, less, i)) in
    let more : suc p + 1 ≡ suc (p + 1) = omega arith in
    let rest = first-at r xs p (omega (arith, l)) e (λ k m. h (suc k) (omega (arith, m))) in
    record {
      within = l;
      there = ap (λ b. if b then true else is_sublist rank_cmp (r ∷ []) xs) miss ∙ rest.there;
      others = ap (λ b. if b then xs else x ∷ without rank_cmp (r ∷ []) xs) miss ∙ ap (λ ys. x ∷ ys) rest.others
          ∙ ap (λ j. x ∷ (take p xs ++ drop j (x ∷ xs))) (sym more);
    }

-- it stands nowhere where it isn't at the first place that isn't less
pub missing-from : (r : Rank) (xs : List Rank) (p : ℕ) → IsNonDecreasingBy (λ s. s.0) xs
    → IsPartitionPoint (λ s. ltb s.0 r.0 ≡ true) (λ s. ltb s.0 r.0 ≡ false) xs p
    → (p < length xs → (get_or xs p r).0 ≡ r.0 → ⊥) → is_sublist rank_cmp (r ∷ []) xs ≡ false
missing-from r xs p up point other = missing r xs nowhere
  where
    nowhere : (k : ℕ) → k < length xs → (get_or xs k r).0 ≡ r.0 → ⊥
    nowhere k l e = by_test (ltb k p) refl
      where
        by_test : (b : Bool) → ltb k p ≡ b → ⊥
        by_test true t =
            let less = ltb-true _ _ (point.0 k r (omega arith) (ltb-true k p t)) in omega (arith, less, e)
        by_test false t =
            let from : p ≤ k = ltb-false k p t in
            let within : p < length xs = omega (arith, from, l) in
            let low = ltb-false _ _ (point.1 p r (omega arith) within) in
            let high = up p k r from l in
            other within (omega (arith, low, high, e))

-- and else first there
pub found-at : (r : Rank) (xs : List Rank) (p : ℕ)
    → IsPartitionPoint (λ s. ltb s.0 r.0 ≡ true) (λ s. ltb s.0 r.0 ≡ false) xs p → p < length xs
    → (get_or xs p r).0 ≡ r.0 → IsFirstAt rank_cmp r xs p
found-at r xs p point l e = first-at r xs p l e (λ k m. ltb-true _ _ (point.0 k r (omega arith) m))
