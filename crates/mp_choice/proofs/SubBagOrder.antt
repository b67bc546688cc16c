-- The order of the counts is the shortlex of the class numbers, where both count the same classes.
use Rattle.std.proofs.Common.{◌≡◌, ℕ, zero, suc, ◌<◌, ◌≤◌, ◌+◌, List, [], ◌∷◌, ◌++◌, refl, sym, ◌∙◌, ◌⊎◌, inl, inr, sum}
use Rattle.std.proofs.Common.{arith, length, subst, replicate, length-append}
use Rattle.std.specs.declared.cmp.Ordering.{Ordering}
use Rattle.std.specs.declared.cmp.Ordering.TheVariants.{Less, Equal}
use Rattle.std.specs.Ordering.{nat_cmp, ordering_then}
use Rattle.std.specs.Cmp.{IsTotalOrder}
use Rattle.std.specs.List.{AllByRecursion}
use Rattle.std.specs.List.Sorted.{IsStrictlySortedBy}
use Rattle.std.proofs.lemmas.Cmp.{nat_cmp_total, nat_list_cmp_total, tied_itself, then_total, on_total, back_total}
use Rattle.std.proofs.lemmas.List.{length-replicate}
use Rattle.mp_term.specs.OrderLaws.{both_equal, nats_same}
use Rattle.mp_term.proofs.PiecesLaws.{nat_cmp-less}
use Rattle.mp_choice.specs.SubBags.{classes_from, bag_order}
use Rattle.mp_choice.specs.SubBagList.{counts_order}
use Rattle.mp_choice.proofs.Lexicographic.{lex, sum-cons, less_head, less_tail, less_then, less_cases}

pub counts_order_total : IsTotalOrder counts_order
counts_order_total = then_total (on_total sum nat_cmp_total) (back_total nat_list_cmp_total)

pub counts_order_same : (a b : List ℕ) → counts_order a b ≡ Equal → a ≡ b
counts_order_same a b h = sym (nats_same b a (both_equal (nat_cmp (sum a) (sum b)) (lex b a) h).1)

pub order_first : (m n : ℕ) (o : Ordering) → m < n → ordering_then (nat_cmp m n) o ≡ Less
order_first m n o h = rw (nat_cmp-less m n h) refl

pub order_second : (m n : ℕ) (o : Ordering) → m ≡ n → o ≡ Less → ordering_then (nat_cmp m n) o ≡ Less
order_second m n o e h = rw (← e) (rw (tied_itself nat_cmp_total m) h)

length-classes : (class : ℕ) (ns : List ℕ) → length (classes_from class ns) ≡ sum ns
length-classes class [] = refl
length-classes class (n ∷ ns) =
    omega (
      arith,
      length-append (replicate n class) (classes_from (class + 1) ns),
      length-replicate n class,
      length-classes (class + 1) ns,
      sum-cons n ns,
    )

same_front : (n class : ℕ) (xs ys : List ℕ) → lex xs ys ≡ Less
    → lex (replicate n class ++ xs) (replicate n class ++ ys) ≡ Less
same_front zero class xs ys h = h
same_front (suc n) class xs ys h = less_tail class class (replicate n class ++ xs) (replicate n class ++ ys) refl
    (same_front n class xs ys h)

-- a multiset that isn't empty begins with one of its classes
record Begins (class : ℕ) (xs : List ℕ) : Type 0 where
  head : ℕ
  tail : List ℕ
  is : xs ≡ head ∷ tail
  above : class ≤ head

begins : (class : ℕ) (ns : List ℕ) → 0 < sum ns → Begins class (classes_from class ns)
begins class [] h = absurd (omega arith)
begins class (zero ∷ ns) h =
    let b : Begins (class + 1) (classes_from (class + 1) ns) =
    begins (class + 1) ns (omega (arith, sum-cons zero ns)) in
    record { head = b.head; tail = b.tail; is = b.is; above = omega (arith, b.above) }
begins class (suc n ∷ ns) h = record {
  head = class;
  tail = replicate n class ++ classes_from (class + 1) ns;
  is = refl;
  above = omega arith;
}

-- where more of the first class stand in front
more_first : (k n class : ℕ) (xs ys : List ℕ) → n < k → Begins (class + 1) ys
    → lex (replicate k class ++ xs) (replicate n class ++ ys) ≡ Less
more_first zero n class xs ys h b = absurd (omega arith)
more_first (suc k) zero class xs ys h b =
    rw b.is (less_head class b.head (replicate k class ++ xs) b.tail (omega (arith, b.above)))
more_first (suc k) (suc n) class xs ys h b =
    less_tail class class (replicate k class ++ xs) (replicate n class ++ ys) refl
    (more_first k n class xs ys (omega arith) b)

classes-less : (class : ℕ) (xs ys : List ℕ) → length xs ≡ length ys → sum xs ≡ sum ys → lex ys xs ≡ Less
    → lex (classes_from class xs) (classes_from class ys) ≡ Less
classes-less class [] [] e s l = cc
classes-less class [] (b ∷ ys) e s l = absurd (omega arith)
classes-less class (a ∷ xs) [] e s l = absurd (omega arith)
classes-less class (a ∷ xs) (b ∷ ys) e s l =
    made (less_cases b a ys xs l) (λ t m. classes-less (class + 1) xs ys (omega arith) t m)
  where
    sums : a + sum xs ≡ b + sum ys
    sums = sym (sum-cons a xs) ∙ (s ∙ sum-cons b ys)

    made : (b < a) ⊎ ((b ≡ a) × (lex ys xs ≡ Less))
        → (sum xs ≡ sum ys → lex ys xs ≡ Less → lex (classes_from (class + 1) xs) (classes_from (class + 1) ys) ≡ Less)
        → lex (classes_from class (a ∷ xs)) (classes_from class (b ∷ ys)) ≡ Less
    made (inl q) f = more_first a b class (classes_from (class + 1) xs) (classes_from (class + 1) ys) q
        (begins (class + 1) ys (omega (arith, sums)))
    made (inr q) f =
        subst (λ k. lex (replicate a class ++ classes_from (class + 1) xs)
        (replicate k class ++ classes_from (class + 1) ys) ≡ Less) (sym q.0)
        (same_front a class (classes_from (class + 1) xs) (classes_from (class + 1) ys)
        (f (omega (arith, sums, q.0)) q.1))

pub counts_order-less : (xs ys : List ℕ) → length xs ≡ length ys → counts_order xs ys ≡ Less → bag_order xs ys ≡ Less
counts_order-less xs ys e h = made (less_then (sum xs) (sum ys) (lex ys xs) h)
  where
    made : (sum xs < sum ys) ⊎ ((sum xs ≡ sum ys) × (lex ys xs ≡ Less)) → bag_order xs ys ≡ Less
    made (inl q) = order_first (length (classes_from 0 xs)) (length (classes_from 0 ys))
        (lex (classes_from 0 xs) (classes_from 0 ys)) (omega (arith, length-classes 0 xs, length-classes 0 ys))
    made (inr q) = order_second (length (classes_from 0 xs)) (length (classes_from 0 ys))
        (lex (classes_from 0 xs) (classes_from 0 ys)) (omega (arith, length-classes 0 xs, length-classes 0 ys, q.0))
        (classes-less 0 xs ys e q.0 q.1)

-- so a list of bags of the same classes that ascends by the one order ascends by the other
pub ascends_too : (n : ℕ) (xs : List (List ℕ)) → AllByRecursion (λ x. length x ≡ n) xs
    → IsStrictlySortedBy counts_order xs → IsStrictlySortedBy bag_order xs
unfolding IsStrictlySortedBy
ascends_too n [] h s = tt
ascends_too n (x ∷ xs) h s = (above xs h.1 s.0, ascends_too n xs h.1 s.1)
  where
    above : (ys : List (List ℕ)) → AllByRecursion (λ y. length y ≡ n) ys
        → AllByRecursion (λ y. counts_order x y ≡ Less) ys → AllByRecursion (λ y. bag_order x y ≡ Less) ys
    above [] k l = tt
    above (y ∷ ys) k l = (counts_order-less x y (h.0 ∙ sym k.0) l.0, above ys k.1 l.1)
