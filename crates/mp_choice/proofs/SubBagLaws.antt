-- The steps of a `SubBags`, class by class.
use Rattle.std.proofs.Common.{◌≡◌, ℕ, zero, suc, ◌<◌, ◌≤◌, ◌+◌, ◌-◌, min, List, [], ◌∷◌, refl, sym, ◌∙◌, inl, inr, sum}
use Rattle.std.proofs.Common.{arith, length, take, drop, subst}
use Rattle.std.specs.declared.cmp.Ordering.TheVariants.{Less}
use Rattle.std.proofs.lemmas.Slice.Zip.{AllZip-long}
use Rattle.mp_choice.specs.SubBags.{IsSubBag}
use Rattle.mp_choice.specs.SubBagSteps.{IsFilled, IsLastOfSize, IsNextOfSize}
use Rattle.mp_choice.proofs.Lexicographic.{lex, sum-cons, less_head, less_tail, less_cases}

pub bag_le : (cs ns : List ℕ) → IsSubBag cs ns → sum ns ≤ sum cs
bag_le [] [] w = omega arith
bag_le [] (n ∷ ns) w = absurd w
bag_le (c ∷ cs) [] w = absurd w
bag_le (c ∷ cs) (n ∷ ns) w = omega (arith, w.0, bag_le cs ns w.1, sum-cons c cs, sum-cons n ns)

pub length-sub_bag : (cs ns : List ℕ) → IsSubBag cs ns → length ns ≡ length cs
length-sub_bag cs ns w = AllZip-long (λ count n. n ≤ count) cs ns w

-- the first classes first
abbrev pub filled : ℕ → List ℕ → List ℕ
filled size [] = []
filled size (c ∷ cs) = min c size ∷ filled (size - min c size) cs

pub filled-is : (cs : List ℕ) (size : ℕ) → size ≤ sum cs → IsFilled cs (filled size cs) size
filled-is [] size h = record { within = tt; adds_up = omega arith; greatest = λ others w s l. none others w l }
  where
    none : (others : List ℕ) → IsSubBag [] others → lex [] others ≡ Less → ⊥
    none [] w l = cc
    none (y ∷ ys) w l = w
filled-is (c ∷ cs) size h = made (filled-is cs (size - min c size) (omega (arith, sum-cons c cs)))
  where
    made : IsFilled cs (filled (size - min c size) cs) (size - min c size)
        → IsFilled (c ∷ cs) (min c size ∷ filled (size - min c size) cs) size
    made p = record {
      within = (omega arith, p.within);
      adds_up = omega (arith, p.adds_up, sum-cons (min c size) (filled (size - min c size) cs));
      greatest = λ others w s l. none others w s l;
    }
      where
        none : (others : List ℕ) → IsSubBag (c ∷ cs) others → sum others ≡ size
            → lex (min c size ∷ filled (size - min c size) cs) others ≡ Less → ⊥
        none [] w s l = absurd w
        none (y ∷ ys) w s l =
            let s' : y + sum ys ≡ size = sym (sum-cons y ys) ∙ s in
            elim (less_cases (min c size) y (filled (size - min c size) cs) ys l)
            [ inl q ↦ omega (arith, w.0) | inr q ↦ p.greatest ys w.1 (omega (arith, q.0)) q.1 ]

pub last-nil : IsLastOfSize [] []
last-nil [] w s l = cc
last-nil (y ∷ ys) w s l = absurd w

-- a class that holds none, or behind which there is no room
pub last-cons : (c n : ℕ) (cs ns : List ℕ) → IsLastOfSize cs ns → (0 < n → sum cs ≤ sum ns)
    → IsLastOfSize (c ∷ cs) (n ∷ ns)
last-cons c n cs ns h stuck [] w s l = absurd w
last-cons c n cs ns h stuck (y ∷ ys) w s l =
    let s' : y + sum ys ≡ n + sum ns = sym (sum-cons y ys) ∙ (s ∙ sum-cons n ns) in
    elim (less_cases y n ys ns l) [ inl q ↦ lower s' q | inr q ↦ h ys w.1 (omega (arith, q.0)) q.1 ]
  where
    lower : y + sum ys ≡ n + sum ns → y < n → ⊥
    lower s' q = omega (arith, stuck (omega arith), bag_le cs ys w.1)

pub next-cons : (c n : ℕ) (cs ns ms : List ℕ) → n ≤ c → IsNextOfSize cs ns ms → IsNextOfSize (c ∷ cs) (n ∷ ns) (n ∷ ms)
next-cons c n cs ns ms a h = record {
  within = (a, h.within);
  adds_up = omega (arith, h.adds_up, sum-cons n ns, sum-cons n ms);
  below = less_tail n n ms ns refl h.below;
  none_between = λ others w s l m. none others w s l m;
}
  where
    none : (others : List ℕ) → IsSubBag (c ∷ cs) others → sum others ≡ sum (n ∷ ns) → lex others (n ∷ ns) ≡ Less
        → lex (n ∷ ms) others ≡ Less → ⊥
    none [] w s l m = absurd w
    none (y ∷ ys) w s l m =
        let s' : y + sum ys ≡ n + sum ns = sym (sum-cons y ys) ∙ (s ∙ sum-cons n ns) in
        elim (less_cases y n ys ns l) [
          | inl q ↦ elim (less_cases n y ms ys m) [ inl r ↦ omega arith | inr r ↦ omega (arith, r.0) ]
          | inr q ↦ elim (less_cases n y ms ys m)
              [ inl r ↦ omega (arith, q.0) | inr r ↦ h.none_between ys w.1 (omega (arith, q.0)) q.1 r.1 ]
        ]

-- the class gives one up, and what comes after it is filled anew
pub next-fall : (c n : ℕ) (cs ns ms : List ℕ) → n ≤ c → 0 < n → IsLastOfSize cs ns → IsFilled cs ms (sum ns + 1)
    → IsNextOfSize (c ∷ cs) (n ∷ ns) ((n - 1) ∷ ms)
next-fall c n cs ns ms a some last p = record {
  within = (omega arith, p.within);
  adds_up = omega (arith, p.adds_up, sum-cons n ns, sum-cons (n - 1) ms);
  below = less_head (n - 1) n ms ns (omega arith);
  none_between = λ others w s l m. none others w s l m;
}
  where
    none : (others : List ℕ) → IsSubBag (c ∷ cs) others → sum others ≡ sum (n ∷ ns) → lex others (n ∷ ns) ≡ Less
        → lex ((n - 1) ∷ ms) others ≡ Less → ⊥
    none [] w s l m = absurd w
    none (y ∷ ys) w s l m =
        let s' : y + sum ys ≡ n + sum ns = sym (sum-cons y ys) ∙ (s ∙ sum-cons n ns) in
        elim (less_cases y n ys ns l) [
          | inl q ↦ elim (less_cases (n - 1) y ms ys m)
              [ inl r ↦ omega arith | inr r ↦ p.greatest ys w.1 (omega (arith, r.0)) r.1 ]
          | inr q ↦ last ys w.1 (omega (arith, q.0)) q.1
        ]

-- the counts before i stay
pub next-from : (i : ℕ) (cs ns ms : List ℕ) → IsSubBag cs ns → take i ms ≡ take i ns → i < length ns → i < length ms
    → IsNextOfSize (drop i cs) (drop i ns) (drop i ms) → IsNextOfSize cs ns ms
next-from zero cs ns ms w e l m h = h
next-from (suc i) [] [] ms w e l m h = absurd (omega arith)
next-from (suc i) [] (n ∷ ns) ms w e l m h = absurd w
next-from (suc i) (c ∷ cs) [] ms w e l m h = absurd w
next-from (suc i) (c ∷ cs) (n ∷ ns) [] w e l m h = absurd (omega arith)
next-from (suc i) (c ∷ cs) (n ∷ ns) (k ∷ ms) w e l m h =
    let same : k ≡ n = cc in
    let rest : take i ms ≡ take i ns = cc in
    let t : IsNextOfSize cs ns ms = next-from i cs ns ms w.1 rest (omega arith) (omega arith) h in
    subst (λ x. IsNextOfSize (c ∷ cs) (n ∷ ns) (x ∷ ms)) (sym same) (next-cons c n cs ns ms w.0 t)
