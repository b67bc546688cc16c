-- A binary search among names that ascend finds each name that is there.
use Rattle.std.proofs.Common.{◌≡◌, ◌∙◌, refl, ℕ, zero, suc, Bool, true, false, List, [], ◌∷◌, length, get_or, Result}
use Rattle.std.proofs.Common.{Ok, Err, sym, ap, arith}
use Rattle.std.specs.Prelude.{bytes_eq, is_ok, nat_lt}
use Rattle.std.specs.declared.cmp.Ordering.{Ordering}
use Rattle.std.specs.declared.cmp.Ordering.TheVariants.{Less, Equal, Greater}
use Rattle.std.specs.Ordering.{nat_cmp, is_lt, is_eq, ordering_reverse, ordering_index}
use Rattle.std.specs.List.{list_any, All}
use Rattle.std.specs.List.Sorted.{IsPartitionPoint, IsSorted, IsSearchInRange, IsBinarySearchResult, IsNonDecreasingBy}
use Rattle.std.specs.Cmp.Lexicographic.{slice_cmp}
use Rattle.std.proofs.lemmas.Bool.{and_parts}
use Rattle.std.proofs.lemmas.Bool.Decides.{nat_tests}
use Rattle.std.proofs.lemmas.Cmp.{nat_list_cmp_total}
use Rattle.std.proofs.lemmas.List.Folds.{list_any_at, list_any_none}
use Rattle.std.proofs.lemmas.List.Sorted.{searchable_from_sorted}
use Rattle.std.proofs.lemmas.Map.Text.{is_eq-slice_cmp}
use native.Mathlib.Numerals.{unary_clauses}
use Rattle.mp_term.specs.Names.{names_ascend}

abbrev cmp : List ℕ → List ℕ → Ordering
cmp = slice_cmp nat_cmp

-- what is less isn't greater
not_back : (r s : Ordering) → s ≡ ordering_reverse r → is_lt r ≡ true → is_lt s ≡ false
not_back Less s e h = rw e refl
not_back Equal s e h = cc
not_back Greater s e h = cc

is_sorted : (ns : List (List ℕ)) → names_ascend ns ≡ true → IsSorted cmp ns
is_sorted [] h k d low high = absurd (omega arith)
is_sorted (m ∷ []) h k d low high = absurd (omega arith)
is_sorted (m ∷ n ∷ ns) h zero d low high =
    not_back (cmp m n) (cmp n m) (nat_list_cmp_total.antisymm n m) (and_parts _ _ h).0
is_sorted (m ∷ n ∷ ns) h (suc k) d low high =
    simp unary_clauses (simp unary_clauses at (is_sorted (n ∷ ns) (and_parts _ _ h).1 k d (omega arith) (omega arith)))

-- the comparisons with n rise along the names
rising : (ns : List (List ℕ)) (n : List ℕ) → names_ascend ns ≡ true
    → IsNonDecreasingBy (λ m. ordering_index (cmp m n)) ns
rising ns n h = searchable_from_sorted nat_list_cmp_total (λ m. m) ns n (is_sorted ns h)

bytes_eq-cmp : (m n : List ℕ) → bytes_eq n m ≡ is_eq (ordering_reverse (cmp m n))
bytes_eq-cmp m n = sym (is_eq-slice_cmp n m) ∙ ap is_eq (nat_list_cmp_total.antisymm n m)

other : (m n : List ℕ) (r : Ordering) → is_eq (ordering_reverse r) ≡ false → cmp m n ≡ r → bytes_eq n m ≡ false
other m n r f e = bytes_eq-cmp m n ∙ ap (λ s. is_eq (ordering_reverse s)) e ∙ f

all_other : (ns : List (List ℕ)) (n : List ℕ) (i : ℕ)
    → IsPartitionPoint (λ m. cmp m n ≡ Less) (λ m. cmp m n ≡ Greater) ns i → All (λ m. bytes_eq n m ≡ false) ns
all_other ns n i h k d within = by_place (nat_lt k i) refl
  where
    by_place : (b : Bool) → nat_lt k i ≡ b → bytes_eq n (get_or ns k d) ≡ false
    by_place true e = other (get_or ns k d) n Less refl (h.0 k d (omega arith) (grind (arith, nat_tests)))
    by_place false e = other (get_or ns k d) n Greater refl (h.1 k d (grind (arith, nat_tests)) within)

-- a search finds a name exactly where it is there
pub searched : (ns : List (List ℕ)) (n : List ℕ) (r : Result ℕ ℕ) → names_ascend ns ≡ true
    → IsSearchInRange r (length ns) → IsBinarySearchResult (λ m. cmp m n) ns r → is_ok r ≡ list_any (bytes_eq n) ns
searched ns n (Ok i) h within found = sym
    (list_any_at (bytes_eq n) ns i [] within (bytes_eq-cmp _ n ∙ ap (λ r. is_eq (ordering_reverse r)) (found [])))
searched ns n (Err i) h within parted = sym (list_any_none (bytes_eq n) ns (all_other ns n i (parted (rising ns n h))))
