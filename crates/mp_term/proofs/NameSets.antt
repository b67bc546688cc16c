-- A set of names ascends strictly.
use Rattle.std.proofs.Common.{◌≡◌, Bool, true, false, cond, List, [], ◌∷◌, ℕ, refl, sym, ◌∙◌}
use Rattle.std.specs.declared.cmp.Ordering.{Ordering}
use Rattle.std.specs.declared.cmp.Ordering.TheVariants.{Less, Equal, Greater}
use Rattle.std.specs.Ordering.{nat_cmp, eq_by_cmp, is_lt, is_gt, is_eq}
use Rattle.std.specs.List.{dedup, dedup_from}
use Rattle.std.specs.Cmp.Lexicographic.{slice_cmp}
use Rattle.std.proofs.lemmas.Cmp.{nat_list_cmp_total}
use Rattle.mp_term.specs.Sorting.{sorted}
use Rattle.mp_term.specs.Names.{name_set, names_ascend}
use Rattle.mp_term.proofs.Sorting.{Ascends, ascends-sorted}

abbrev cmp : List ℕ → List ℕ → Ordering
cmp = slice_cmp nat_cmp

-- neither greater nor equal is less
is_lt_from : (r : Ordering) → is_gt r ≡ false → (r ≡ Equal → ⊥) → is_lt r ≡ true
is_lt_from Less g n = refl
is_lt_from Equal g n = absurd (n refl)
is_lt_from Greater g n = cc

-- x is less than the one after it, which isn't the same
less_next : (k x : List ℕ) → is_gt (cmp k x) ≡ false → is_eq (cmp x k) ≡ false → is_lt (cmp k x) ≡ true
less_next k x g e = is_lt_from (cmp k x) g
    (λ i. let j : cmp x k ≡ Equal = nat_list_cmp_total.antisymm x k ∙ rw i refl in
    let t : is_eq (cmp x k) ≡ true = rw j refl in let f : true ≡ false = sym t ∙ e in cc)

ascends-dedup_from : (j k : List ℕ) (xs : List (List ℕ)) → is_lt (cmp j k) ≡ true → Ascends cmp (k ∷ xs)
    → names_ascend (j ∷ dedup_from (eq_by_cmp cmp) k xs) ≡ true
ascends-dedup_from j k [] l h = rw l refl
ascends-dedup_from j k (x ∷ xs) l h = by_test (is_eq (cmp x k)) refl (ascends-dedup_from j k xs l (h.0.1, h.1.1))
    (λ m. ascends-dedup_from k x xs m h.1)
  where
    by_test : (b : Bool) → is_eq (cmp x k) ≡ b → names_ascend (j ∷ dedup_from (eq_by_cmp cmp) k xs) ≡ true
        → (is_lt (cmp k x) ≡ true → names_ascend (k ∷ dedup_from (eq_by_cmp cmp) x xs) ≡ true)
        → names_ascend (j ∷ cond b (dedup_from (eq_by_cmp cmp) k xs) (k ∷ dedup_from (eq_by_cmp cmp) x xs)) ≡ true
    by_test true e same new = same
    by_test false e same new = rw l (new (less_next k x h.0.0 e))

first_ascends : (k : List ℕ) (xs : List (List ℕ)) → Ascends cmp (k ∷ xs)
    → names_ascend (dedup_from (eq_by_cmp cmp) k xs) ≡ true
first_ascends k [] h = refl
first_ascends k (x ∷ xs) h = by_test (is_eq (cmp x k)) refl (first_ascends k xs (h.0.1, h.1.1))
  where
    by_test : (b : Bool) → is_eq (cmp x k) ≡ b → names_ascend (dedup_from (eq_by_cmp cmp) k xs) ≡ true
        → names_ascend (cond b (dedup_from (eq_by_cmp cmp) k xs) (k ∷ dedup_from (eq_by_cmp cmp) x xs)) ≡ true
    by_test true e same = same
    by_test false e same = ascends-dedup_from k x xs (less_next k x h.0.0 e) h.1

ascends-dedup : (xs : List (List ℕ)) → Ascends cmp xs → names_ascend (dedup (eq_by_cmp cmp) xs) ≡ true
ascends-dedup [] h = refl
ascends-dedup (x ∷ xs) h = first_ascends x xs h

pub names_ascend-name_set : (ns : List (List ℕ)) → names_ascend (name_set ns) ≡ true
names_ascend-name_set ns = ascends-dedup (sorted cmp ns) (ascends-sorted cmp nat_list_cmp_total ns)
