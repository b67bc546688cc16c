-- The steps of an `Equations`, number by number.
use Rattle.std.proofs.Common.{◌≡◌, ℕ, zero, suc, ◌<◌, ◌≤◌, ◌+◌, ◌-◌, ◌*◌, ◌/◌, ◌%◌, List, [], ◌∷◌, refl, sym, ap}
use Rattle.std.proofs.Common.{inl, inr, arith, length, take, drop, get_or, set, subst, replicate}
use Rattle.std.specs.Prelude.{All}
use Rattle.std.specs.declared.cmp.Ordering.TheVariants.{Less, Equal}
use Rattle.std.proofs.Math.Nat.{mul-le-mul_left, mul-le-mul_right, div-le_self}
use Rattle.std.proofs.lemmas.List.{length-replicate}
use Rattle.std.proofs.lemmas.List.Elements.{All-head, All-tail}
use Rattle.mp_choice.specs.Equations.{weighed}
use Rattle.mp_choice.specs.EquationSteps.{IsLight, IsLastLight, IsNextLight, IsSolutionFrom, FillsLast}
use Rattle.mp_choice.proofs.Lexicographic.{lex, less_head, less_tail, less_cases}

-- nothing comes before zeros
pub none_below_zeros : (k : ℕ) (ys : List ℕ) → length ys ≡ k → lex ys (replicate k 0) ≡ Less → ⊥
none_below_zeros zero [] e l = cc
none_below_zeros zero (y ∷ ys) e l = absurd (omega arith)
none_below_zeros (suc k) [] e l = absurd (omega arith)
none_below_zeros (suc k) (y ∷ ys) e l = elim (less_cases y 0 ys (replicate k 0) l)
    [ inl q ↦ omega arith | inr q ↦ none_below_zeros k ys (omega arith) q.1 ]

pub weighed-zeros : (cs : List ℕ) (k : ℕ) → weighed cs (replicate k 0) ≡ 0
weighed-zeros [] k = refl
weighed-zeros (c ∷ cs) zero = refl
weighed-zeros (c ∷ cs) (suc k) = omega (arith, weighed-zeros cs k)

-- a greater number weighs more by the coefficient at least
heavier : (c m n : ℕ) → m < n → c * m + c ≤ c * n
heavier c m n h = omega (arith, mul-le-mul_left c (let k : m + 1 ≤ n = omega arith in k))

-- what comes after the same number is light too
light-tail : (c n y : ℕ) (cs ys : List ℕ) (total : ℕ) → n ≡ y → IsLight (c ∷ cs) (c * n + total) (y ∷ ys)
    → IsLight cs total ys
light-tail c n y cs ys total e b =
    let f : c * n ≡ c * y = ap (λ k. c * k) e in
    record { one_each = omega (arith, b.one_each); at_most = omega (arith, b.at_most) }

pub last_light-nil : (total : ℕ) → IsLastLight [] total []
last_light-nil total [] b l = cc
last_light-nil total (y ∷ ys) b l = omega (arith, b.one_each)

-- a number that weighs too much to rise
pub last_light-cons : (c n : ℕ) (cs ns : List ℕ) (free : ℕ) → IsLastLight cs free ns → free < c
    → IsLastLight (c ∷ cs) (c * n + free) (n ∷ ns)
last_light-cons c n cs ns free h small [] b l = omega (arith, b.one_each)
last_light-cons c n cs ns free h small (y ∷ ys) b l = elim (less_cases n y ns ys l) [
  | inl q ↦ omega (arith, b.at_most, heavier c n y q)
  | inr q ↦ h ys (light-tail c n y cs ys free q.0 b) q.1
]

pub next_light-cons : (c n : ℕ) (cs ns ms : List ℕ) (total rest : ℕ) → IsNextLight cs total ns ms rest
    → IsNextLight (c ∷ cs) (c * n + total) (n ∷ ns) (n ∷ ms) rest
next_light-cons c n cs ns ms total rest h = record {
  next = record {
    item = record { one_each = omega (arith, h.next.item.one_each); at_most = omega (arith, h.lacks) };
    above = less_tail n n ns ms refl h.next.above;
    none_between = λ others b l m. none others b l m;
  };
  lacks = omega (arith, h.lacks);
}
  where
    none : (others : List ℕ) → IsLight (c ∷ cs) (c * n + total) others → lex (n ∷ ns) others ≡ Less
        → lex others (n ∷ ms) ≡ Less → ⊥
    none [] b l m = omega (arith, b.one_each)
    none (y ∷ ys) b l m = elim (less_cases n y ns ys l) [
      | inl q ↦ elim (less_cases y n ys ms m) [ inl r ↦ omega arith | inr r ↦ omega (arith, r.0) ]
      | inr q ↦ elim (less_cases y n ys ms m) [
        | inl r ↦ omega (arith, q.0)
        | inr r ↦ h.next.none_between ys (light-tail c n y cs ys total q.0 b) q.1 r.1
      ]
    ]

-- the number rises, with zeros after it, where no number after it can
pub next_light-rise : (c n : ℕ) (cs ns : List ℕ) (free k : ℕ) → k ≡ length cs → IsLastLight cs free ns → c ≤ free
    → IsNextLight (c ∷ cs) (c * n + free) (n ∷ ns) ((n + 1) ∷ replicate k 0) (free - c)
next_light-rise c n cs ns free k is last enough = record {
  next = record {
    item = record {
      one_each = omega (arith, length-replicate {A = ℕ} k 0);
      at_most = omega (arith, weighed-zeros cs k);
    };
    above = less_head n (n + 1) ns (replicate k 0) (omega arith);
    none_between = λ others b l m. none others b l m;
  };
  lacks = omega (arith, weighed-zeros cs k);
}
  where
    none : (others : List ℕ) → IsLight (c ∷ cs) (c * n + free) others → lex (n ∷ ns) others ≡ Less
        → lex others ((n + 1) ∷ replicate k 0) ≡ Less → ⊥
    none [] b l m = omega (arith, b.one_each)
    none (y ∷ ys) b l m = elim (less_cases n y ns ys l) [
      | inl q ↦ elim (less_cases y (n + 1) ys (replicate k 0) m)
          [ inl r ↦ omega arith | inr r ↦ none_below_zeros k ys (omega (arith, b.one_each)) r.1 ]
      | inr q ↦ last ys (light-tail c n y cs ys free q.0 b) q.1
    ]

-- where the numbers before i stay
pub next_light-from : (i : ℕ) (cs ns ms : List ℕ) (r rest : ℕ) → length ns ≡ length cs → take i ms ≡ take i ns
    → i < length ns → i < length ms
    → IsNextLight (drop i cs) (weighed (drop i cs) (drop i ns) + r) (drop i ns) (drop i ms) rest
    → IsNextLight cs (weighed cs ns + r) ns ms rest
next_light-from zero cs ns ms r rest same e l m h = h
next_light-from (suc i) [] ns ms r rest same e l m h = absurd (omega arith)
next_light-from (suc i) (c ∷ cs) [] ms r rest same e l m h = absurd (omega arith)
next_light-from (suc i) (c ∷ cs) (n ∷ ns) [] r rest same e l m h = absurd (omega arith)
next_light-from (suc i) (c ∷ cs) (n ∷ ns) (k ∷ ms) r rest same e l m h =
    let head : k ≡ n = cc in
    let tails : take i ms ≡ take i ns = cc in
    let t : IsNextLight cs (weighed cs ns + r) ns ms rest =
    next_light-from i cs ns ms r rest (omega arith) tails (omega arith) (omega arith) h in
    let u : IsNextLight (c ∷ cs) (c * n + (weighed cs ns + r)) (n ∷ ns) (n ∷ ms) rest =
    next_light-cons c n cs ns ms (weighed cs ns + r) rest t in
    let b : c * n + (weighed cs ns + r) ≡ c * n + weighed cs ns + r = omega arith in
    subst (λ x. IsNextLight (c ∷ cs) (c * n + weighed cs ns + r) (n ∷ ns) (x ∷ ms) rest) (sym head)
    (subst (λ w. IsNextLight (c ∷ cs) w (n ∷ ns) (n ∷ ms) rest) b u)

-- each number is at most the weight
pub number_le : (cs ns : List ℕ) (j : ℕ) → length ns ≡ length cs → All (λ c. 0 < c) cs → get_or ns j 0 ≤ weighed cs ns
number_le [] [] j e p = omega arith
number_le [] (n ∷ ns) j e p = absurd (omega arith)
number_le (c ∷ cs) [] j e p = omega arith
number_le (c ∷ cs) (n ∷ ns) zero e p = omega (arith, mul-le-mul_right n (All-head (λ c. 0 < c) c cs p))
number_le (c ∷ cs) (n ∷ ns) (suc j) e p =
    omega (arith, number_le cs ns j (omega arith) (All-tail (λ c. 0 < c) c cs p))

pub filled_le : (cs ns : List ℕ) (j rest d : ℕ) → length ns ≡ length cs → All (λ c. 0 < c) cs
    → get_or ns j 0 + rest / d ≤ weighed cs ns + rest
filled_le cs ns j rest d e p = omega (arith, number_le cs ns j e p, div-le_self rest d)

pub fills-nil : (rest : ℕ) → FillsLast [] rest [] [] rest
fills-nil rest = record {
  one_each = refl;
  lacks = omega arith;
  from = λ m. (let wrong : Equal ≡ Less = m in cc);
  none_passed = λ others s m. none others s m;
}
  where
    none : (others : List ℕ) → IsSolutionFrom [] rest [] others → lex others [] ≡ Less → ⊥
    none [] s m = cc
    none (y ∷ ys) s m = cc

fills-one : (c n k total rest : ℕ) → c * (n + k) + rest ≡ total → rest < c
    → FillsLast (c ∷ []) total (n ∷ []) ((n + k) ∷ []) rest
fills-one c n k total rest e l = record {
  one_each = refl;
  lacks = omega arith;
  from = λ m. elim (less_cases (n + k) n [] [] m)
      [ inl q ↦ omega arith | inr q ↦ (let wrong : Equal ≡ Less = q.1 in cc) ];
  none_passed = λ others s m. none others s m;
}
  where
    none : (others : List ℕ) → IsSolutionFrom (c ∷ []) total (n ∷ []) others → lex others ((n + k) ∷ []) ≡ Less → ⊥
    none [] s m = omega (arith, s.solution.one_each)
    none (y ∷ []) s m = elim (less_cases y (n + k) [] [] m) [
      | inl q ↦ omega (arith, s.solution.adds_up, heavier c y (n + k) q)
      | inr q ↦ (let wrong : Equal ≡ Less = q.1 in cc)
    ]
    none (y ∷ z ∷ ys) s m = omega (arith, s.solution.one_each)

fills-cons : (c n : ℕ) (cs ns ms : List ℕ) (total rest : ℕ) → FillsLast cs total ns ms rest
    → FillsLast (c ∷ cs) (c * n + total) (n ∷ ns) (n ∷ ms) rest
fills-cons c n cs ns ms total rest h = record {
  one_each = omega (arith, h.one_each);
  lacks = omega (arith, h.lacks);
  from = λ m. elim (less_cases n n ms ns m) [ inl q ↦ omega arith | inr q ↦ h.from q.1 ];
  none_passed = λ others s m. none others s m;
}
  where
    tail : (y : ℕ) (ys : List ℕ) → y ≡ n → IsSolutionFrom (c ∷ cs) (c * n + total) (n ∷ ns) (y ∷ ys)
        → IsSolutionFrom cs total ns ys
    tail y ys e s = let f : c * y ≡ c * n = ap (λ k. c * k) e in record {
      solution = record {
        one_each = omega (arith, s.solution.one_each);
        adds_up = omega (arith, s.solution.adds_up);
      };
      from = λ l. s.from (less_tail y n ys ns e l);
    }

    none : (others : List ℕ) → IsSolutionFrom (c ∷ cs) (c * n + total) (n ∷ ns) others → lex others (n ∷ ms) ≡ Less → ⊥
    none [] s m = omega (arith, s.solution.one_each)
    none (y ∷ ys) s m = elim (less_cases y n ys ms m) [
      | inl q ↦ s.from (less_head y n ys ns q)
      | inr q ↦ h.none_passed ys (tail y ys q.0 s) q.1
    ]

pub fills-last : (cs ns : List ℕ) (j rest : ℕ) → length ns ≡ length cs → j + 1 ≡ length cs → All (λ c. 0 < c) cs
    → FillsLast cs (weighed cs ns + rest) ns (set ns j (get_or ns j 0 + rest / get_or cs j 0)) (rest % get_or cs j 0)
fills-last [] ns j rest e h p = absurd (omega arith)
fills-last (c ∷ cs) [] j rest e h p = absurd (omega arith)
fills-last (c ∷ []) (n ∷ []) zero rest e h p =
    let some : 0 < c = All-head (λ c. 0 < c) c [] p in
    fills-one c n (rest / c) (c * n + 0 + rest) (rest % c) (omega arith) (omega arith)
fills-last (c ∷ []) (n ∷ m ∷ ns) j rest e h p = absurd (omega arith)
fills-last (c ∷ d ∷ cs) (n ∷ ns) zero rest e h p = absurd (omega arith)
fills-last (c ∷ []) (n ∷ []) (suc j) rest e h p = absurd (omega arith)
fills-last (c ∷ d ∷ cs) (n ∷ ns) (suc j) rest e h p =
    let t : FillsLast (d ∷ cs) (weighed (d ∷ cs) ns + rest) ns
    (set ns j (get_or ns j 0 + rest / get_or (d ∷ cs) j 0)) (rest % get_or (d ∷ cs) j 0) =
    fills-last (d ∷ cs) ns j rest (omega arith) (omega arith) (All-tail (λ c. 0 < c) c (d ∷ cs) p) in
    let b : c * n + (weighed (d ∷ cs) ns + rest) ≡ c * n + weighed (d ∷ cs) ns + rest = omega arith in
    subst (λ w. FillsLast (c ∷ d ∷ cs) w (n ∷ ns)
    (n ∷ set ns j (get_or ns j 0 + rest / get_or (d ∷ cs) j 0)) (rest % get_or (d ∷ cs) j 0)) b
    (fills-cons c n (d ∷ cs) ns (set ns j (get_or ns j 0 + rest / get_or (d ∷ cs) j 0))
    (weighed (d ∷ cs) ns + rest) (rest % get_or (d ∷ cs) j 0) t)
