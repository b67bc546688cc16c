-- Lists of numbers in lexicographic order, and their sums.
use Rattle.std.proofs.Common.{◌≡◌, ℕ, ◌<◌, ◌≤◌, ◌+◌, List, [], ◌∷◌, refl, sym, ◌∙◌, ◌⊎◌, inl, inr, sum, arith, subst}
use Rattle.std.specs.declared.cmp.Ordering.{Ordering}
use Rattle.std.specs.declared.cmp.Ordering.TheVariants.{Less, Equal, Greater}
use Rattle.std.specs.Ordering.{nat_cmp, ordering_then}
use Rattle.std.specs.Cmp.Lexicographic.{slice_cmp}
use Rattle.std.specs.List.{AllByRecursion}
use Rattle.std.proofs.lemmas.Cmp.{ranked, by_ranked, nat_cmp_total, nat_list_cmp_total, tied_itself}
use Rattle.std.proofs.lemmas.List.Sums.{sum_by-cons}
use Rattle.mp_term.specs.OrderLaws.{nats_same}
use Rattle.mp_term.proofs.PiecesLaws.{nat_cmp-less}

-- the lexicographic order
abbrev pub lex : List ℕ → List ℕ → Ordering
lex = slice_cmp nat_cmp

pub sum-cons : (x : ℕ) (xs : List ℕ) → sum (x ∷ xs) ≡ x + sum xs
sum-cons = sum_by-cons (λ x. x)

-- each number is at most the sum
pub each-sum : (ns : List ℕ) (most : ℕ) → sum ns ≤ most → AllByRecursion (λ n. n ≤ most) ns
each-sum [] most h = tt
each-sum (n ∷ ns) most h = (omega (arith, sum-cons n ns), each-sum ns most (omega (arith, sum-cons n ns)))

pub less_head : (x y : ℕ) (xs ys : List ℕ) → x < y → lex (x ∷ xs) (y ∷ ys) ≡ Less
less_head x y xs ys h = rw (nat_cmp-less x y h) refl

pub less_tail : (x y : ℕ) (xs ys : List ℕ) → x ≡ y → lex xs ys ≡ Less → lex (x ∷ xs) (y ∷ ys) ≡ Less
less_tail x y xs ys e h = rw (← e) (rw (tied_itself nat_cmp_total x) h)

-- where one comparison, and where the first is a tie another, gives less
pub less_then : (m n : ℕ) (o : Ordering) → ordering_then (nat_cmp m n) o ≡ Less → (m < n) ⊎ ((m ≡ n) × (o ≡ Less))
less_then m n o h =
    by_ranked (m < n) (m ≡ n) (n < m) (nat_cmp m n) (ranked m n (nat_cmp m n) refl)
    (λ e p. inl p)
    (λ e p. inr (p, rw e at h))
    (λ e p. absurd (let k : Greater ≡ Less = rw e at h in cc))

pub less_cases : (x y : ℕ) (xs ys : List ℕ) → lex (x ∷ xs) (y ∷ ys) ≡ Less → (x < y) ⊎ ((x ≡ y) × (lex xs ys ≡ Less))
less_cases x y xs ys h = less_then x y (lex xs ys) h

-- what is not below x is x or above it
pub not_less_cases : (x y : List ℕ) → (lex y x ≡ Less → ⊥) → (y ≡ x) ⊎ (lex x y ≡ Less)
not_less_cases x y h = by_cmp (lex y x) refl
  where
    by_cmp : (r : Ordering) → lex y x ≡ r → (y ≡ x) ⊎ (lex x y ≡ Less)
    by_cmp Less e = absurd (h e)
    by_cmp Equal e = inl (nats_same y x e)
    by_cmp Greater e = inr (rw e at (nat_list_cmp_total.antisymm x y))

pub less_or_not : (x y : List ℕ) → (lex x y ≡ Less) ⊎ (lex x y ≡ Less → ⊥)
less_or_not x y = by_cmp (lex x y) refl
  where
    by_cmp : (r : Ordering) → lex x y ≡ r → (lex x y ≡ Less) ⊎ (lex x y ≡ Less → ⊥)
    by_cmp Less e = inl e
    by_cmp Equal e = inr (λ m. let wrong : Less ≡ Equal = sym m ∙ e in cc)
    by_cmp Greater e = inr (λ m. let wrong : Less ≡ Greater = sym m ∙ e in cc)

pub less_not_less_trans : (x y z : List ℕ) → lex x y ≡ Less → (lex z y ≡ Less → ⊥) → lex x z ≡ Less
less_not_less_trans x y z l h = made (not_less_cases y z h)
  where
    made : (z ≡ y) ⊎ (lex y z ≡ Less) → lex x z ≡ Less
    made (inl e) = subst (λ w. lex x w ≡ Less) (sym e) l
    made (inr m) = nat_list_cmp_total.trans x y z l m

pub not_less_trans : (x y z : List ℕ) → (lex y x ≡ Less → ⊥) → (lex z y ≡ Less → ⊥) → lex z x ≡ Less → ⊥
not_less_trans x y z p q l = q (less_not_less_trans z x y l p)
