-- Lists of one length, in which each element of the first stands equally often, compare as equal once sorted.
use Rattle.std.proofs.Common.{◌≡◌, suc, ◌+◌, ◌<◌, Bool, true, false, cond, List, [], ◌∷◌, length, refl, ap, sym, ◌∙◌}
use Rattle.std.proofs.Common.{arith}
use Rattle.std.specs.Prelude.{if◌then◌else◌, count_by}
use Rattle.std.specs.declared.cmp.Ordering.{Ordering}
use Rattle.std.specs.declared.cmp.Ordering.TheVariants.{Less, Equal, Greater}
use Rattle.std.specs.Ordering.{is_eq, ordering_reverse, eq_by_cmp}
use Rattle.std.specs.Cmp.{IsTotalOrder, Equal-is}
use Rattle.std.specs.Cmp.Lexicographic.{slice_cmp}
use Rattle.std.specs.List.{AllByRecursion}
use Rattle.std.proofs.lemmas.Cmp.{alike_right}
use Rattle.std.proofs.lemmas.List.Recursion.{is_count_by}
use Rattle.mp_term.specs.OrderLaws.{both_equal}
use Rattle.mp_term.specs.Sorting.{sorted}
use Rattle.mp_term.proofs.Sorting.{hit, tally, tally-sorted, length-sorted, Ascends, AtLeast, ascends-sorted}
use Rattle.mp_term.proofs.Sorting.{none_below, hit_itself}

module _ {X : Type 0} (cmp : X → X → Ordering) where
  -- x stands in the two lists equally often
  abbrev pub Alike : List X → List X → X → Type 0
  Alike xs ys x = count_by (eq_by_cmp cmp x) xs ≡ count_by (eq_by_cmp cmp x) ys

  -- the sorted lists are equal
  abbrev pub is_same_multiset : List X → List X → Bool
  is_same_multiset xs ys = eq_by_cmp (slice_cmp cmp) (sorted cmp xs) (sorted cmp ys)

  tally-count_by : (x : X) (ys : List X) → tally cmp x ys ≡ count_by (eq_by_cmp cmp x) ys
  tally-count_by x =
      is_count_by (tally cmp x) (eq_by_cmp cmp x) refl
      (λ y ys.
      elim (is_eq (cmp x y)) as (λ b. cond b 1 0 + tally cmp x ys ≡ cond b (1 + tally cmp x ys) (tally cmp x ys))
      [ true ↦ refl | false ↦ omega arith ])

  -- the list without the first element equal to x
  abbrev without : X → List X → List X
  without x [] = []
  without x (y ∷ ys) = if is_eq (cmp x y) then ys else y ∷ without x ys

  length-without : (x : X) (ys : List X) → 0 < tally cmp x ys → length ys ≡ suc (length (without x ys))
  length-without x [] h = absurd (omega (arith, h))
  length-without x (y ∷ ys) h =
      elim (is_eq (cmp x y)) as (λ b. 0 < cond b 1 0 + tally cmp x ys
      → suc (length ys) ≡ suc (length (if b then ys else y ∷ without x ys))) [
        | true ↦ λ _. refl
        | false ↦ λ k. ap suc (length-without x ys (omega (arith, k)))
      ] h

  module _ (o : IsTotalOrder cmp) where
    hit-alike : (z x y : X) → cmp x y ≡ Equal → hit cmp z x ≡ hit cmp z y
    hit-alike z x y e = ap (λ r. cond (is_eq r) 1 0) (alike_right o x y z e)

    tally-without : (z x : X) (ys : List X) → 0 < tally cmp x ys
        → tally cmp z ys ≡ hit cmp z x + tally cmp z (without x ys)
    tally-without z x [] h = absurd (omega (arith, h))
    tally-without z x (y ∷ ys) h =
        elim (is_eq (cmp x y)) as (λ b. is_eq (cmp x y) ≡ b → 0 < cond b 1 0 + tally cmp x ys
        → hit cmp z y + tally cmp z ys ≡ hit cmp z x + tally cmp z (if b then ys else y ∷ without x ys)) [
          | true ↦ λ e _. ap (λ n. n + tally cmp z ys) (sym (hit-alike z x y ((Equal-is _).0 e)))
          | false ↦ λ _ k. omega (arith, tally-without z x ys (omega (arith, k)))
        ] refl h

    alike-without : (x : X) (xs ys zs : List X) → 0 < tally cmp x ys
        → AllByRecursion (λ z. tally cmp z (x ∷ xs) ≡ tally cmp z ys) zs
        → AllByRecursion (λ z. tally cmp z xs ≡ tally cmp z (without x ys)) zs
    alike-without x xs ys [] h k = tt
    alike-without x xs ys (z ∷ zs) h k = (omega (arith, k.0, tally-without z x ys h), alike-without x xs ys zs h k.1)

    tally-same : (xs ys : List X) → length xs ≡ length ys → AllByRecursion (λ z. tally cmp z xs ≡ tally cmp z ys) xs
        → (z : X) → tally cmp z xs ≡ tally cmp z ys
    tally-same [] [] e h z = refl
    tally-same [] (y ∷ ys) e h z = absurd (omega (arith, e))
    tally-same (x ∷ xs) ys e h z =
        let p : 0 < tally cmp x ys = omega (arith, h.0, hit_itself cmp o x) in
        let l : length xs ≡ length (without x ys) = omega (arith, e, length-without x ys p) in
        omega (arith, tally-without z x ys p, tally-same xs (without x ys) l (alike-without x xs ys xs p h.1) z)

    by_tally : (xs ys zs : List X) → AllByRecursion (Alike xs ys) zs
        → AllByRecursion (λ z. tally cmp z xs ≡ tally cmp z ys) zs
    by_tally xs ys [] h = tt
    by_tally xs ys (z ∷ zs) h = (tally-count_by z xs ∙ h.0 ∙ sym (tally-count_by z ys), by_tally xs ys zs h.1)

    -- the lists differ in their first elements, and the first of xs is the lesser
    apart : (x y : X) (xs ys : List X) → cmp x y ≡ Less → AtLeast cmp y ys
        → tally cmp x (x ∷ xs) ≡ tally cmp x (y ∷ ys) → ⊥
    apart x y xs ys e h t =
        let a : hit cmp x y ≡ 0 = rw e refl in
        omega (arith, hit_itself cmp o x, none_below cmp o x y ys e h, a, t)

    tied : (xs ys : List X) → Ascends cmp xs → Ascends cmp ys → ((z : X) → tally cmp z xs ≡ tally cmp z ys)
        → slice_cmp cmp xs ys ≡ Equal
    tied [] [] a b t = refl
    tied [] (y ∷ ys) a b t = absurd (omega (arith, hit_itself cmp o y, t y))
    tied (x ∷ xs) [] a b t = absurd (omega (arith, hit_itself cmp o x, t x))
    tied (x ∷ xs) (y ∷ ys) a b t =
        elim (cmp x y) as (λ r. cmp x y ≡ r → slice_cmp cmp (x ∷ xs) (y ∷ ys) ≡ Equal) [
          | Less ↦ λ e. absurd (apart x y xs ys e b.0 (t x))
          | Equal ↦ λ e. rw e (tied xs ys a.1 b.1 (λ z. omega (arith, t z, hit-alike z x y e)))
          | Greater ↦ λ e. absurd (apart y x ys xs (o.antisymm y x ∙ ap ordering_reverse e) a.0 (sym (t y)))
        ] refl

    tally-tied : (z : X) (xs ys : List X) → slice_cmp cmp xs ys ≡ Equal → tally cmp z xs ≡ tally cmp z ys
    tally-tied z [] [] e = refl
    tally-tied z [] (y ∷ ys) e = cc
    tally-tied z (x ∷ xs) [] e = cc
    tally-tied z (x ∷ xs) (y ∷ ys) e =
        let p : (cmp x y ≡ Equal) × (slice_cmp cmp xs ys ≡ Equal) = both_equal _ _ e in
        omega (arith, hit-alike z x y p.0, tally-tied z xs ys p.1)

    length-tied : (xs ys : List X) → slice_cmp cmp xs ys ≡ Equal → length xs ≡ length ys
    length-tied [] [] e = refl
    length-tied [] (y ∷ ys) e = cc
    length-tied (x ∷ xs) [] e = cc
    length-tied (x ∷ xs) (y ∷ ys) e = ap suc (length-tied xs ys (both_equal _ _ e).1)

    -- lists with the same elements, each as often; with other lengths; and with an element more often in one
    pub same_multisets : (xs ys : List X) → length xs ≡ length ys → AllByRecursion (Alike xs ys) xs
        → true ≡ is_same_multiset xs ys
    same_multisets xs ys e h =
        sym (ap is_eq (tied (sorted cmp xs) (sorted cmp ys) (ascends-sorted cmp o xs) (ascends-sorted cmp o ys)
        (λ z. tally-sorted cmp z xs ∙ tally-same xs ys e (by_tally xs ys xs h) z ∙ sym (tally-sorted cmp z ys))))

    other : (xs ys : List X) → (slice_cmp cmp (sorted cmp xs) (sorted cmp ys) ≡ Equal → ⊥)
        → false ≡ is_same_multiset xs ys
    other xs ys h =
        elim (is_same_multiset xs ys) as (λ b. is_same_multiset xs ys ≡ b → false ≡ b)
        [ true ↦ λ e. absurd (h ((Equal-is _).0 e)) | false ↦ λ _. refl ] refl

    pub other_lengths : (xs ys : List X) → (length xs ≡ length ys → ⊥) → false ≡ is_same_multiset xs ys
    other_lengths xs ys h = other xs ys
        (λ e. h (sym (length-sorted cmp xs) ∙ length-tied (sorted cmp xs) (sorted cmp ys) e ∙ length-sorted cmp ys))

    pub other_multiplicity : (xs ys : List X) (x : X) → (Alike xs ys x → ⊥) → false ≡ is_same_multiset xs ys
    other_multiplicity xs ys x h = other xs ys
        (λ e. h (sym (tally-count_by x xs) ∙ sym (tally-sorted cmp x xs)
        ∙ tally-tied x (sorted cmp xs) (sorted cmp ys) e ∙ tally-sorted cmp x ys ∙ tally-count_by x ys))
