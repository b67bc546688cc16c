-- More items than marked classes have room for have no pairing.
use Rattle.std.proofs.Common.{◌≡◌, ℕ, zero, suc, ◌<◌, ◌≤◌, ◌+◌, List, [], ◌∷◌, ◌++◌, Bool, true, false, cond, refl, ap}
use Rattle.std.proofs.Common.{◌∙◌, inl, inr, arith, length, take, drop, get_or, subst}
use Rattle.std.specs.Prelude.{Contains, count_by, ◌==◌, slice_index}
use Rattle.std.specs.List.{AllZip, list_all}
use Rattle.std.proofs.lemmas.Bool.{and_parts}
use Rattle.std.proofs.lemmas.List.{length_push}
use Rattle.std.proofs.lemmas.List.Sums.{sum_by-cons, sum_by_push, sum_by-take-drop}
use Rattle.mp_term.specs.Search.{In}
use Rattle.mp_term.proofs.ListingLaws.{in-from_contains}
use Rattle.mp_choice.specs.Listed.{HasNone}
use Rattle.mp_pair.specs.Pairings.{IsPairing}
use Rattle.mp_pair.specs.PairingSteps.{HasRoom, IsDeadEnd}
use Rattle.mp_pair.specs.Tight.{is_marked, held_by, marked_sum, room_of}
use Rattle.mp_choice.proofs.Tests.{eq_test, eq_from}
use Rattle.mp_pair.proofs.PairLaws.{uses, uses_front}

-- one where the class is the number
abbrev one_at : ℕ → ℕ → ℕ
one_at x class = cond (x == class) 1 0

-- one where the class is marked
abbrev one_in : List Bool → ℕ → ℕ
one_in marks x = cond (is_marked marks x) 1 0

-- a sum is at most that of what is at most as much
sum-le : (f g : ℕ → ℕ) (marks : List Bool) → ((class : ℕ) → f class ≤ g class) → marked_sum f marks ≤ marked_sum g marks
sum-le f g [] h = omega arith
sum-le f g (true ∷ marks) h = omega (
  arith,
  h 0,
  sum-le (λ class. f (suc class)) (λ class. g (suc class)) marks (λ class. h (suc class)),
)
sum-le f g (false ∷ marks) h = omega (
  arith,
  sum-le (λ class. f (suc class)) (λ class. g (suc class)) marks (λ class. h (suc class)),
)

-- a sum of sums
sum-plus : (f g : ℕ → ℕ) (marks : List Bool)
    → marked_sum (λ class. f class + g class) marks ≡ marked_sum f marks + marked_sum g marks
sum-plus f g [] = refl
sum-plus f g (true ∷ marks) = omega (arith, sum-plus (λ class. f (suc class)) (λ class. g (suc class)) marks)
sum-plus f g (false ∷ marks) = omega (arith, sum-plus (λ class. f (suc class)) (λ class. g (suc class)) marks)

-- numbers that are equal are so one further on
one_at-suc : (x class : ℕ) → one_at x class ≤ one_at (suc x) (suc class)
one_at-suc x class = by_test (x == class) refl
  where
    by_test : (b : Bool) → (x == class) ≡ b → cond {A = ℕ} (x == class) 1 0 ≤ cond {A = ℕ} (suc x == suc class) 1 0
    by_test true t = rw (t, eq_test (suc x) (suc class) (ap suc (eq_from x class t))) (omega arith)
    by_test false t = rw t (omega arith)

-- the mark of a class is counted where the class is
sum-one : (marks : List Bool) (x : ℕ) → one_in marks x ≤ marked_sum (one_at x) marks
sum-one [] zero = omega arith
sum-one [] (suc x) = omega arith
sum-one (true ∷ marks) zero =
    let t : cond {A = ℕ} (0 == 0) 1 0 ≡ 1 = refl in
    omega arith
sum-one (false ∷ marks) zero = omega arith
sum-one (m ∷ marks) (suc x) = omega (
  arith,
  sum-one marks x,
  sum-le (one_at x) (λ class. one_at (suc x) (suc class)) marks (one_at-suc x),
)

-- how many choices are marked is the sum of the uses of the marked classes
uses_marked : (marks : List Bool) (choice : List ℕ)
    → count_by (is_marked marks) choice ≤ marked_sum (λ class. uses class choice) marks
uses_marked marks [] = omega arith
uses_marked marks (x ∷ xs) =
    let a : count_by (is_marked marks) (x ∷ xs) ≡ one_in marks x + count_by (is_marked marks) xs =
    sum_by-cons (one_in marks) x xs in
    let b : marked_sum (λ class. one_at x class + uses class xs) marks ≡ marked_sum (one_at x) marks +
    marked_sum (λ class. uses class xs) marks = sum-plus (one_at x) (λ class. uses class xs) marks in
    let d : marked_sum (λ class. one_at x class + uses class xs) marks ≤
    marked_sum (λ class. uses class (x ∷ xs)) marks =
    sum-le (λ class. one_at x class + uses class xs)
    (λ class. uses class (x ∷ xs)) marks (λ class. omega (arith, sum_by-cons (λ c. one_at c class) x xs)) in
    omega (arith, sum-one marks x, uses_marked marks xs)

-- each of classes that are all marked is marked
all_in_marked : (marks : List Bool) (classes : List ℕ) (x : ℕ) → list_all (is_marked marks) classes ≡ true
    → In x classes → is_marked marks x ≡ true
all_in_marked marks [] x h i = absurd i
all_in_marked marks (c ∷ cs) x h i = by_test (and_parts (is_marked marks c) (list_all (is_marked marks) cs) h) i
    (λ k j. all_in_marked marks cs x k j)
  where
    by_test : (is_marked marks c ≡ true) × (list_all (is_marked marks) cs ≡ true) → In x (c ∷ cs)
        → (list_all (is_marked marks) cs ≡ true → In x cs → is_marked marks x ≡ true) → is_marked marks x ≡ true
    by_test k (inl e) f = ap (is_marked marks) e ∙ k.0
    by_test k (inr j) f = f k.1 j

-- an item with nothing but marked classes has a marked choice
held-le : (marks : List Bool) (left : List (List ℕ)) (choice : List ℕ) → AllZip Contains left choice
    → held_by marks left ≤ count_by (is_marked marks) choice
held-le marks [] choice w = omega arith
held-le marks (l ∷ ls) [] w = absurd w
held-le marks (l ∷ ls) (x ∷ xs) w =
    omega (
      arith,
      sum_by-cons (λ classes. cond (list_all (is_marked marks) classes) 1 0) l ls,
      sum_by-cons (one_in marks) x xs,
      held-le marks ls xs w.1,
      one,
    )
  where
    one : cond {A = ℕ} (list_all (is_marked marks) l) 1 0 ≤ one_in marks x
    one = by_test (list_all (is_marked marks) l) refl
      where
        by_test : (b : Bool) → list_all (is_marked marks) l ≡ b
            → cond {A = ℕ} (list_all (is_marked marks) l) 1 0 ≤ one_in marks x
        by_test true t = rw (t, all_in_marked marks l x t (in-from_contains x l w.0)) (omega arith)
        by_test false t = rw t (omega arith)

-- the choices of the later items are one of its classes for each of these
zip-rest : (k : ℕ) (left : List (List ℕ)) (choice : List ℕ) → AllZip Contains left choice
    → AllZip Contains (drop k left) (drop k choice)
zip-rest zero left choice w = w
zip-rest (suc k) [] [] w = tt
zip-rest (suc k) [] (x ∷ xs) w = absurd w
zip-rest (suc k) (l ∷ ls) [] w = absurd w
zip-rest (suc k) (l ∷ ls) (x ∷ xs) w = zip-rest k ls xs w.1

-- where the items that are bound to take marked classes are more than these have room for, the front leads nowhere
pub tight-dead_end : (marks : List Bool) (cs : List ℕ) (left : List (List ℕ)) (front : List ℕ) (class : ℕ)
    → room_of marks cs < count_by (is_marked marks) front + cond (is_marked marks class) 1 0 +
    held_by marks (drop (length front + 1) left) → IsDeadEnd cs left (front ++ class ∷ [])
tight-dead_end marks cs left front class h others p e =
    let n : length (front ++ class ∷ []) ≡ length front + 1 = omega (arith, length_push front class) in
    let f : take (length front + 1) others ≡ front ++ class ∷ [] =
    subst (λ j. take j others ≡ front ++ class ∷ []) n e in
    let a : count_by (is_marked marks) (take (length front + 1) others) +
    count_by (is_marked marks) (drop (length front + 1) others) ≡ count_by (is_marked marks) others =
    sum_by-take-drop (one_in marks) others (length front + 1) in
    let b : count_by (is_marked marks) (front ++ class ∷ []) ≡ count_by (is_marked marks) front + one_in marks class =
    sum_by_push (one_in marks) front class in
    let c : count_by (is_marked marks) (take (length front + 1) others) ≡
    count_by (is_marked marks) (front ++ class ∷ []) = ap (count_by (is_marked marks)) f in
    let d : held_by marks (drop (length front + 1) left) ≤ count_by (is_marked marks) (drop (length front + 1) others) =
    held-le marks (drop (length front + 1) left) (drop (length front + 1) others)
    (zip-rest (length front + 1) left others p.one_each) in
    let u : count_by (is_marked marks) others ≤ marked_sum (λ class. uses class others) marks =
    uses_marked marks others in
    let v : marked_sum (λ class. uses class others) marks ≤ room_of marks cs =
    sum-le (λ class. uses class others) (λ class. slice_index cs class) marks p.within in
    omega arith

-- the sum over one class more
sum-suc : (f : ℕ → ℕ) (marks : List Bool) (i : ℕ) (d : Bool) → i < length marks
    → marked_sum f (take (suc i) marks) ≡ marked_sum f (take i marks) + cond (get_or marks i d) (f i) 0
sum-suc f [] i d h = absurd (omega arith)
sum-suc f (m ∷ marks) zero d h = omega arith
sum-suc f (m ∷ marks) (suc i) d h = omega (arith, sum-suc (λ class. f (suc class)) marks i d (omega arith))

-- the same, where the number of classes is a sum
pub sum-more : (f : ℕ → ℕ) (marks : List Bool) (i : ℕ) (d : Bool) → i < length marks
    → marked_sum f (take (i + 1) marks) ≡ marked_sum f (take i marks) + cond (get_or marks i d) (f i) 0
sum-more f marks i d h = let e : i + 1 ≡ suc i =
    omega arith in ap (λ j. marked_sum f (take j marks)) e ∙ sum-suc f marks i d h

-- a class that has no room leads nowhere
pub full-dead_end : (cs : List ℕ) (left : List (List ℕ)) (front : List ℕ) (class : ℕ) → (HasRoom cs front class → ⊥)
    → IsDeadEnd cs left (front ++ class ∷ [])
full-dead_end cs left front class h others p e =
    let t : cond {A = ℕ} (class == class) 1 0 ≡ 1 = ap (λ (b : Bool). cond {A = ℕ} b 1 0) (eq_test class class refl) in
    let a : uses class (front ++ class ∷ []) ≡ uses class front + cond (class == class) 1 0 =
    sum_by_push (λ c. cond (c == class) 1 0) front class in
    let b : uses class (take (length (front ++ class ∷ [])) others) ≡ uses class (front ++ class ∷ []) =
    ap (uses class) e in
    h (omega (arith, uses_front class (length (front ++ class ∷ [])) others, p.within class))

-- where more items have nothing but marked classes than these have room for, there is no pairing
pub tight-hopeless : (marks : List Bool) (cs : List ℕ) (left : List (List ℕ)) → room_of marks cs < held_by marks left
    → HasNone (IsPairing cs left)
tight-hopeless marks cs left h others p =
    omega (
      arith,
      held-le marks left others p.one_each,
      uses_marked marks others,
      sum-le (λ class. uses class others) (λ class. slice_index cs class) marks p.within,
    )
