-- Parts of lists.
use Rattle.std.proofs.Common.{◌≡◌, ◌+◌, ◌-◌, ◌<◌, ◌≤◌, ℕ, zero, suc, List, [], ◌∷◌, ◌++◌, take, drop, length, get_or}
use Rattle.std.proofs.Common.{ap, sym, ◌∙◌, subst, drop-cons, arith}
use Rattle.std.specs.Prelude.{slice_index_or}
use Rattle.std.specs.List.{AllByRecursion}
use Rattle.std.proofs.lemmas.List.{length-append, length-drop, take-append-le, drop-append-le}
use Rattle.mp_term.proofs.ListLaws.{drop-item}

-- a part within a list is the same of a longer one
pub taken-more : {X : Type 0} (i n : ℕ) (xs ys : List X) → i + n ≤ length xs
    → take n (drop i (xs ++ ys)) ≡ take n (drop i xs)
taken-more i n xs ys h = ap (take n) (drop-append-le i xs ys (omega (arith, h)))
    ∙ take-append-le n (drop i xs) ys (omega (arith, h, length-drop i xs))

-- the first item of a part that isn't empty, found in a longer list
pub part-next : {X : Type 0} (i end : ℕ) (xs more ys : List X) (x : X) → ys ≡ xs ++ more → i < end → end ≤ length xs
    → x ≡ get_or ys i x → take (end - i) (drop i xs) ≡ x ∷ take (end - (i + 1)) (drop (i + 1) xs)
part-next i end xs more ys x longer before within is =
    let count : end - i ≡ suc (end - (i + 1)) = omega (arith, before) in
    let room : i < length ys = omega (arith, before, within, ap length longer, length-append xs more) in
    sym (taken-more i (end - i) xs more (omega (arith, before, within)))
    ∙ ap (λ l. take (end - i) (drop i l)) (sym longer)
    ∙ ap (take (end - i)) (drop-item ys i x room is)
    ∙ ap (λ n. take n (x ∷ drop (i + 1) ys)) count
    ∙ ap (λ l. x ∷ take (end - (i + 1)) (drop (i + 1) l)) longer
    ∙ ap (λ l. x ∷ l) (taken-more (i + 1) (end - (i + 1)) xs more (omega (arith, before, within)))

-- none is in a part that ends where it begins, or before
pub part-none : {X : Type 0} (i end : ℕ) (xs : List X) → end ≤ i → take (end - i) (drop i xs) ≡ []
part-none i end xs over = let none : end - i ≡ 0 = omega (arith, over) in ap (λ n. take n (drop i xs)) none

-- the first item of a part within its list, and one in its midst
module _ {X : Type 0} (d : X) where
  pub part-first : (xs : List X) (i n : ℕ) → i < n → n ≤ length xs
      → take (n - i) (drop i xs) ≡ slice_index_or xs i d ∷ take (n - (i + 1)) (drop (i + 1) xs)
  part-first xs i n h k =
      let one_more : i + 1 ≡ suc i = omega arith in
      let size : n - i ≡ suc (n - (i + 1)) = omega (arith, h) in
      ap (λ ys. take (n - i) ys) (drop-cons xs i d (omega (arith, h, k)))
      ∙ ap (λ m. take m (get_or xs i d ∷ drop (suc i) xs)) size
      ∙ ap (λ j. get_or xs i d ∷ take (n - (i + 1)) (drop j xs)) (sym one_more)

  pub part-split : (xs : List X) (f i n : ℕ) → f ≤ i → i < n → n ≤ length xs
      → (us : List X) × (take (n - f) (drop f xs)
      ≡ us ++ slice_index_or xs i d ∷ take (n - (i + 1)) (drop (i + 1) xs))
  part-split xs f i n a b c = by_gap (i - f) f (omega (arith, a))
    where
      by_gap : (m f : ℕ) → f + m ≡ i → (us : List X) × (take (n - f) (drop f xs)
          ≡ us ++ slice_index_or xs i d ∷ take (n - (i + 1)) (drop (i + 1) xs))
      by_gap zero f e =
          let same : f ≡ i = omega (arith, e) in
          ([], ap (λ j. take (n - j) (drop j xs)) same ∙ part-first xs i n b c)
      by_gap (suc m) f e =
          let r = by_gap m (f + 1) (omega (arith, e)) in (
            slice_index_or xs f d ∷ r.0,
            part-first xs f n (omega (arith, e, b)) c ∙ ap (λ ys. slice_index_or xs f d ∷ ys) r.1,
          )

  pub part-get : (P : X → Type 0) (xs : List X) (f i n : ℕ) → f ≤ i → i < n → n ≤ length xs
      → AllByRecursion P (take (n - f) (drop f xs)) → P (slice_index_or xs i d)
  part-get P xs f i n a b c h =
      let s = part-split xs f i n a b c in
      behind s.0 (subst (AllByRecursion P) s.1 h)
    where
      behind : (us : List X) → AllByRecursion P (us ++ slice_index_or xs i d ∷ take (n - (i + 1)) (drop (i + 1) xs))
          → P (slice_index_or xs i d)
      behind [] k = k.0
      behind (u ∷ us) k = behind us k.1
