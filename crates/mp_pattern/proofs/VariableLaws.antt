-- A pattern and its normal form have the same names as often, and the same variables.
use Rattle.std.proofs.Common.{◌≡◌, ℕ, ◌+◌, ◌≤◌, min, cond, Bool, true, false, ◌||◌, ◌⊎◌, inl, inr, List, [], ◌∷◌, ◌++◌}
use Rattle.std.proofs.Common.{refl, ap, sym, ◌∙◌, subst, arith}
use Rattle.std.specs.Prelude.{None, if◌then◌else◌}
use Rattle.std.specs.declared.cmp.Ordering.{Ordering}
use Rattle.std.specs.declared.cmp.Ordering.TheVariants.{Less, Equal, Greater}
use Rattle.std.specs.Ordering.{nat_cmp, is_gt, is_eq, ordering_reverse}
use Rattle.std.specs.Cmp.Lexicographic.{slice_cmp}
use Rattle.std.specs.List.Sorted.{IsPermutation}
use Rattle.std.proofs.lemmas.Cmp.{nat_list_cmp_total}
use Rattle.std.proofs.lemmas.List.Sorted.{IsPermutation-refl, IsPermutation-sym, IsPermutation-trans}
use Rattle.std.proofs.lemmas.List.Sorted.{IsPermutation-cons, IsPermutation-swap}
use Rattle.mp_term.specs.Sorting.{insert_sorted, sorted}
use Rattle.mp_term.specs.Signature.{Sig}
use Rattle.mp_term.specs.OrderLaws.{nats_same}
use Rattle.mp_term.proofs.Sorting.{hit, tally, tally-sorted, ascends-sorted, one_order}
use Rattle.mp_pattern.specs.PatternTree.{Pattern}
use Rattle.mp_pattern.specs.Firsts.{is_known, add_new, firsts_after}
use Rattle.mp_pattern.specs.Value.{same_name}
use Rattle.mp_pattern.specs.Normal.{normal_pattern}
use Rattle.mp_pattern.specs.Variables.{variables}
use Rattle.mp_pattern.proofs.NormalMeasures.{names, occurrences-normal_pattern, tally-append}

-- the order of names
abbrev cmp : List ℕ → List ℕ → Ordering
cmp = slice_cmp nat_cmp

IsPermutation-insert_sorted : (x : List ℕ) (ys : List (List ℕ)) → IsPermutation (x ∷ ys) (insert_sorted cmp x ys)
IsPermutation-insert_sorted x [] = IsPermutation-refl (x ∷ [])
IsPermutation-insert_sorted x (y ∷ ys) =
    elim (is_gt (cmp x y)) as (λ b.
    IsPermutation (x ∷ y ∷ ys) (if b then y ∷ insert_sorted cmp x ys else (x ∷ y ∷ ys))) [
      | true ↦ IsPermutation-trans (x ∷ y ∷ ys) (y ∷ x ∷ ys) (y ∷ insert_sorted cmp x ys)
          (IsPermutation-swap (x ∷ y ∷ ys) (y ∷ x ∷ ys) 0 1 (omega arith) (omega arith) refl)
          (IsPermutation-cons y (x ∷ ys) (insert_sorted cmp x ys) (IsPermutation-insert_sorted x ys))
      | false ↦ IsPermutation-refl (x ∷ y ∷ ys)
    ]

IsPermutation-sorted : (xs : List (List ℕ)) → IsPermutation xs (sorted cmp xs)
IsPermutation-sorted [] = IsPermutation-refl []
IsPermutation-sorted (x ∷ xs) = IsPermutation-trans (x ∷ xs) (x ∷ sorted cmp xs) (insert_sorted cmp x (sorted cmp xs))
    (IsPermutation-cons x xs (sorted cmp xs) (IsPermutation-sorted xs)) (IsPermutation-insert_sorted x (sorted cmp xs))

-- two lists that have each name as often are one in another order
by_tally : (xs ys : List (List ℕ)) → ((z : List ℕ) → tally cmp z xs ≡ tally cmp z ys) → IsPermutation xs ys
by_tally xs ys t =
    let same : sorted cmp xs ≡ sorted cmp ys =
    one_order cmp nat_list_cmp_total nats_same (sorted cmp xs) (sorted cmp ys)
    (ascends-sorted cmp nat_list_cmp_total xs) (ascends-sorted cmp nat_list_cmp_total ys)
    (λ z. tally-sorted cmp z xs ∙ t z ∙ sym (tally-sorted cmp z ys)) in
    IsPermutation-trans xs (sorted cmp xs) ys (IsPermutation-sorted xs)
    (subst (λ l. IsPermutation l ys) (sym same) (IsPermutation-sym ys (sorted cmp ys) (IsPermutation-sorted ys)))

hit-back : (x y : List ℕ) → is_eq (cmp x y) ≡ is_eq (cmp y x)
hit-back x y = rw (nat_list_cmp_total.antisymm x y) (turned (cmp y x))
  where
    turned : (r : Ordering) → is_eq (ordering_reverse r) ≡ is_eq r
    turned Less = refl
    turned Equal = refl
    turned Greater = refl

-- a name is known exactly where it occurs
known_tally : (x : List ℕ) (ys : List (List ℕ)) → min 1 (tally cmp x ys) ≡ cond (is_known same_name ys x) 1 0
known_tally x [] = omega arith
known_tally x (y ∷ ys) =
    rw (hit-back x y)
    (elim (is_eq (cmp y x)) as (λ b. min 1 (cond b 1 0 + tally cmp x ys) ≡ cond (b || is_known same_name ys x) 1 0) [
      | true ↦ omega arith
      | false ↦ omega (arith, known_tally x ys)
    ])

-- a name is the other, or doesn't count as it
hit_cases : (z x : List ℕ) → ((z ≡ x) × (hit cmp z x ≡ 1)) ⊎ (hit cmp z x ≡ 0)
hit_cases z x =
    elim (cmp z x) as (λ r. cmp z x ≡ r → ((z ≡ x) × (hit cmp z x ≡ 1)) ⊎ (hit cmp z x ≡ 0)) [
      | Less ↦ λ e. inr (rw e refl)
      | Equal ↦ λ e. inl (nats_same z x e, rw e refl)
      | Greater ↦ λ e. inr (rw e refl)
    ] refl

-- a name that stands once at most still does when one is added
tally-add_new : (z x : List ℕ) (ys : List (List ℕ)) → tally cmp z ys ≤ 1
    → tally cmp z (add_new same_name ys x) ≡ min 1 (tally cmp z ys + hit cmp z x)
tally-add_new z x ys l = by_known (is_known same_name ys x) (known_tally x ys) (hit_cases z x)
  where
    by_known : (b : Bool) → min 1 (tally cmp x ys) ≡ cond b 1 0 → ((z ≡ x) × (hit cmp z x ≡ 1)) ⊎ (hit cmp z x ≡ 0)
        → tally cmp z (if b then ys else (ys ++ (x ∷ []))) ≡ min 1 (tally cmp z ys + hit cmp z x)
    by_known true e (inl h) = let k : tally cmp z ys ≡ tally cmp x ys = ap (λ y. tally cmp y ys) h.0 in
        omega (arith, k, h.1, e)
    by_known true e (inr h) = omega (arith, h, l)
    by_known false e (inl h) = let k : tally cmp z ys ≡ tally cmp x ys = ap (λ y. tally cmp y ys) h.0 in
        omega (arith, k, h.1, e, tally-append z ys (x ∷ []))
    by_known false e (inr h) = omega (arith, h, l, tally-append z ys (x ∷ []))

-- each name stands once where it occurs
tally-firsts_after : (z : List ℕ) (ys xs : List (List ℕ)) → tally cmp z ys ≤ 1
    → tally cmp z (firsts_after same_name ys xs) ≡ min 1 (tally cmp z ys + tally cmp z xs)
tally-firsts_after z ys [] l = omega (arith, l)
tally-firsts_after z ys (x ∷ xs) l =
    let added = tally-add_new z x ys l in
    let rest = tally-firsts_after z (add_new same_name ys x) xs (omega (arith, added)) in
    omega (arith, added, rest)

-- the names at the occurrences are the same, each as often
pub IsPermutation-names : (sig : Sig) (p : Pattern) → IsPermutation (names None p) (names None (normal_pattern sig p))
IsPermutation-names sig p = by_tally (names None p) (names None (normal_pattern sig p))
    (λ z. sym (occurrences-normal_pattern sig z p))

-- the variables are the same
pub IsPermutation-variables : (sig : Sig) (p : Pattern) → IsPermutation (variables p) (variables (normal_pattern sig p))
IsPermutation-variables sig p =
    by_tally (variables p) (variables (normal_pattern sig p)) (λ z.
    tally-firsts_after z [] (names None p) (omega arith)
    ∙ ap (λ n. min 1 (0 + n)) (sym (occurrences-normal_pattern sig z p))
    ∙ sym (tally-firsts_after z [] (names None (normal_pattern sig p)) (omega arith)))
