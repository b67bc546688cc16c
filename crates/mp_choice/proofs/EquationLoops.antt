-- What the loops of an `Equations` keep.
use Rattle.std.proofs.Common.{◌≡◌, ℕ, zero, suc, ◌<◌, ◌≤◌, ◌+◌, ◌-◌, ◌*◌, List, [], ◌∷◌, ◌++◌, refl, sym, ap, ◌∙◌}
use Rattle.std.proofs.Common.{◌⊎◌, inl, inr, arith, length, take, drop, get_or, set, subst, replicate, length-append}
use Rattle.std.specs.Prelude.{All}
use Rattle.std.specs.declared.cmp.Ordering.TheVariants.{Less, Equal}
use Rattle.std.specs.List.{AllByRecursion}
use Rattle.std.specs.Ordering.{is_lt}
use Rattle.std.proofs.Math.Nat.{mul-le-mul_right}
use Rattle.std.proofs.lemmas.Cmp.{nat_list_cmp_total, tied_itself}
use Rattle.std.proofs.lemmas.List.{drop_all, drop_more, take-take, take-set, get_or-take, get_or-set_same, length-set}
use Rattle.std.proofs.lemmas.List.{length-drop, take_at, drop_at, length-take-le}
use Rattle.std.proofs.lemmas.List.Elements.{All-tail}
use Rattle.mp_term.proofs.ListingLaws.{one_way}
use Rattle.mp_term.specs.Search.{In}
use Rattle.mp_term.proofs.TestLaws.{less-from}
use Rattle.mp_term.specs.Listing.{above}
use Rattle.mp_choice.specs.Listed.{number_lists, IsFirst, HasNone}
use Rattle.mp_choice.specs.Equations.{weighed}
use Rattle.mp_choice.specs.EquationSteps.{IsLastLight, IsNextLight, Rises, IsSolutionFrom, FillsLast}
use Rattle.mp_choice.proofs.Lexicographic.{lex, not_less_cases, less_or_not, not_less_trans}
use Rattle.mp_choice.proofs.Listed.{in-number_lists}
use Rattle.mp_choice.proofs.Tests.{filter_less}
use Rattle.mp_choice.proofs.EquationLaws.{last_light-nil, last_light-cons, next_light-rise, next_light-from, number_le}

weighed-drop : (cs ns : List ℕ) (j : ℕ) → length ns ≡ length cs → j < length cs
    → weighed (drop j cs) (drop j ns) ≡ get_or cs j 0 * get_or ns j 0 + weighed (drop (j + 1) cs) (drop (j + 1) ns)
weighed-drop cs ns j e h = rw (drop_more cs j 0 h, drop_more ns j 0 (let k : j < length ns = omega arith in k)) refl

weighed-drop_le : (cs ns : List ℕ) (j : ℕ) → weighed (drop j cs) (drop j ns) ≤ weighed cs ns
weighed-drop_le cs ns zero = omega arith
weighed-drop_le [] ns (suc j) = omega arith
weighed-drop_le (c ∷ cs) [] (suc j) = no_numbers (drop j cs)
  where
    no_numbers : (ds : List ℕ) → weighed ds [] ≤ 0
    no_numbers [] = omega arith
    no_numbers (d ∷ ds) = omega arith
weighed-drop_le (c ∷ cs) (n ∷ ns) (suc j) = omega (arith, weighed-drop_le cs ns j)

-- from i on no number rises
pub record StuckFrom (coefficients numbers : List ℕ) (i rest free : ℕ) : Type 0 where
  pub last : IsLastLight (drop i coefficients) free (drop i numbers)
  pub free_is : weighed (drop i coefficients) (drop i numbers) + rest ≡ free

pub stuck-end : (cs ns : List ℕ) (rest : ℕ) → length ns ≡ length cs → StuckFrom cs ns (length cs) rest rest
stuck-end cs ns rest e =
    let p : drop (length cs) cs ≡ [] = drop_all (length cs) cs (omega arith) in
    let n : drop (length cs) ns ≡ [] = drop_all (length cs) ns (omega arith) in
    record { last = rw (p, n) (last_light-nil rest); free_is = rw p (let f : 0 + rest ≡ rest = omega arith in f) }

pub stuck-more : (cs ns : List ℕ) (i j rest free : ℕ) → i ≡ j + 1 → length ns ≡ length cs → j < length cs
    → StuckFrom cs ns i rest free → free < get_or cs j 0
    → StuckFrom cs ns j rest (free + get_or cs j 0 * get_or ns j 0)
stuck-more cs ns i j rest free e same h s small =
    let s' : StuckFrom cs ns (j + 1) rest free = subst (λ k. StuckFrom cs ns k rest free) e s in
    let p : drop j cs ≡ get_or cs j 0 ∷ drop (j + 1) cs = drop_more cs j 0 h in
    let n : drop j ns ≡ get_or ns j 0 ∷ drop (j + 1) ns = drop_more ns j 0 (omega arith) in
    let l : IsLastLight (get_or cs j 0 ∷ drop (j + 1) cs) (get_or cs j 0 * get_or ns j 0 + free)
    (get_or ns j 0 ∷ drop (j + 1) ns) =
    last_light-cons (get_or cs j 0) (get_or ns j 0) (drop (j + 1) cs) (drop (j + 1) ns) free s'.last small in
    let c : get_or cs j 0 * get_or ns j 0 + free ≡ free + get_or cs j 0 * get_or ns j 0 = omega arith in
    record {
      last = rw (p, n)
          (subst (λ f. IsLastLight (get_or cs j 0 ∷ drop (j + 1) cs) f (get_or ns j 0 ∷ drop (j + 1) ns)) c l);
      free_is = omega (arith, weighed-drop cs ns j same h, s'.free_is);
    }

-- what is lacking from j on is lacking in the whole
pub free_bounds : (cs ns : List ℕ) (i j rest free : ℕ) → i ≡ j + 1 → length ns ≡ length cs → j < length cs
    → StuckFrom cs ns i rest free → free + get_or cs j 0 * get_or ns j 0 ≤ weighed cs ns + rest
free_bounds cs ns i j rest free e same h s =
    let s' : StuckFrom cs ns (j + 1) rest free = subst (λ k. StuckFrom cs ns k rest free) e s in
    omega (arith, s'.free_is, weighed-drop cs ns j same h, weighed-drop_le cs ns j)

pub product_bounds : (cs ns : List ℕ) (i j rest free : ℕ) → i ≡ j + 1 → length ns ≡ length cs → j < length cs
    → StuckFrom cs ns i rest free → get_or cs j 0 * get_or ns j 0 ≤ weighed cs ns + rest
product_bounds cs ns i j rest free e same h s = omega (arith, free_bounds cs ns i j rest free e same h s)

pub rises-here : (cs ns : List ℕ) (i j rest free : ℕ) → i ≡ j + 1 → j < length ns → StuckFrom cs ns i rest free
    → get_or cs j 0 ≤ free → Rises cs ns rest j free
rises-here cs ns i j rest free e h s enough =
    let s' : StuckFrom cs ns (j + 1) rest free = subst (λ k. StuckFrom cs ns k rest free) e s in
    record { inside = h; enough = enough; last = s'.last; free_is = s'.free_is }

-- a number that can rise is below what the whole has
pub risen_le : (cs ns : List ℕ) (i rest free : ℕ) → length ns ≡ length cs → All (λ c. 0 < c) cs
    → Rises cs ns rest i free → get_or ns i 0 + 1 ≤ weighed cs ns + rest
risen_le cs ns i rest free e p r =
    let some : 0 < get_or cs i 0 = p i 0 (omega (arith, r.inside)) in
    let n : 1 * get_or ns i 0 ≤ get_or cs i 0 * get_or ns i 0 = mul-le-mul_right (get_or ns i 0) some in
    omega (
      arith,
      r.enough,
      r.free_is,
      weighed-drop cs ns i e (omega (arith, r.inside)),
      weighed-drop_le cs ns i,
    )

pub last-whole : (cs ns : List ℕ) (rest free : ℕ) → StuckFrom cs ns 0 rest free
    → IsLastLight cs (weighed cs ns + rest) ns
last-whole cs ns rest free s = subst (λ f. IsLastLight cs f ns) (sym s.free_is) s.last

-- the rise at i, with zeros after it, is the next light list
pub next-risen : (cs ns ms : List ℕ) (i rest free : ℕ) → length ns ≡ length cs → Rises cs ns rest i free
    → ms ≡ take (i + 1) (set ns i (get_or ns i 0 + 1)) ++ replicate (length ns - (i + 1)) 0
    → IsNextLight cs (weighed cs ns + rest) ns ms (free - get_or cs i 0)
next-risen cs ns ms i rest free same r e =
    let inside : i < length ns = r.inside in
    let below : i < i + 1 = omega arith in
    let up_to : i ≤ i + 1 = omega arith in
    let front : length (take (i + 1) (set ns i (get_or ns i 0 + 1))) ≡ i + 1 =
    length-take-le (i + 1) (set ns i (get_or ns i 0 + 1))
    (omega (arith, length-set ns i (get_or ns i 0 + 1))) in
    let t : take (i + 1) ms ≡ take (i + 1) (set ns i (get_or ns i 0 + 1)) =
    ap (λ xs. take (i + 1) xs) e
    ∙ take_at (take (i + 1) (set ns i (get_or ns i 0 + 1))) (replicate (length ns - (i + 1)) 0) (i + 1) front in
    let z : drop (i + 1) ms ≡ replicate (length ns - (i + 1)) 0 =
    ap (λ xs. drop (i + 1) xs) e
    ∙ drop_at (take (i + 1) (set ns i (get_or ns i 0 + 1))) (replicate (length ns - (i + 1)) 0) (i + 1) front in
    let here : get_or ms i 0 ≡ get_or ns i 0 + 1 =
    sym (get_or-take (i + 1) ms i 0 below)
    ∙ (ap (λ xs. get_or xs i 0) t
    ∙ (get_or-take (i + 1) (set ns i (get_or ns i 0 + 1)) i 0 below
    ∙ get_or-set_same ns i (get_or ns i 0 + 1) 0 inside)) in
    let before : take i ms ≡ take i ns =
    sym (take-take i (i + 1) ms up_to)
    ∙ (ap (λ xs. take i xs) t
    ∙ (take-take i (i + 1) (set ns i (get_or ns i 0 + 1)) up_to ∙ take-set ns i (get_or ns i 0 + 1))) in
    let long : i < length ms = omega (
      arith,
      ap length e,
      length-append (take (i + 1) (set ns i (get_or ns i 0 + 1))) (replicate (length ns - (i + 1)) 0),
      front,
    ) in
    let p : drop i cs ≡ get_or cs i 0 ∷ drop (i + 1) cs = drop_more cs i 0 (omega arith) in
    let n : drop i ns ≡ get_or ns i 0 ∷ drop (i + 1) ns = drop_more ns i 0 inside in
    let m : drop i ms ≡ (get_or ns i 0 + 1) ∷ replicate (length ns - (i + 1)) 0 =
    drop_more ms i 0 long
    ∙ (ap (λ x. x ∷ drop (i + 1) ms) here ∙ ap (λ xs. (get_or ns i 0 + 1) ∷ xs) z) in
    let k : length ns - (i + 1) ≡ length (drop (i + 1) cs) = omega (arith, length-drop (i + 1) cs) in
    let step : IsNextLight (get_or cs i 0 ∷ drop (i + 1) cs) (get_or cs i 0 * get_or ns i 0 + free)
    (get_or ns i 0 ∷ drop (i + 1) ns) ((get_or ns i 0 + 1) ∷ replicate (length ns - (i + 1)) 0)
    (free - get_or cs i 0) =
    next_light-rise (get_or cs i 0) (get_or ns i 0) (drop (i + 1) cs) (drop (i + 1) ns) free (length ns - (i + 1)) k
    r.last r.enough in
    let b : get_or cs i 0 * get_or ns i 0 + free
    ≡ weighed (get_or cs i 0 ∷ drop (i + 1) cs) (get_or ns i 0 ∷ drop (i + 1) ns) + rest =
    omega (arith, r.free_is) in
    next_light-from i cs ns ms rest (free - get_or cs i 0) same before inside long
    (rw (p, n, m) (subst (λ w. IsNextLight (get_or cs i 0 ∷ drop (i + 1) cs) w
    (get_or ns i 0 ∷ drop (i + 1) ns) ((get_or ns i 0 + 1) ∷ replicate (length ns - (i + 1)) 0)
    (free - get_or cs i 0)) b step))

-- the search stands at the numbers, to which `rest` is lacking, and has passed no solution since its start
pub record Searches (coefficients : List ℕ) (total : ℕ) (start numbers : List ℕ) (rest : ℕ) : Type 0 where
  pub one_each : length numbers ≡ length coefficients
  pub lacks : weighed coefficients numbers + rest ≡ total
  pub from : lex numbers start ≡ Less → ⊥
  pub none_passed : (others : List ℕ) → IsSolutionFrom coefficients total start others
      → lex others numbers ≡ Less → ⊥

pub searches-start : (cs : List ℕ) (total : ℕ) (start : List ℕ) (rest : ℕ) → length start ≡ length cs
    → weighed cs start + rest ≡ total → Searches cs total start start rest
searches-start cs total start rest e l = record {
  one_each = e;
  lacks = l;
  from = λ m. (let t : lex start start ≡ Equal = tied_itself nat_list_cmp_total start in
      let wrong : Less ≡ Equal = sym m ∙ t in cc);
  none_passed = λ others s m. s.from m;
}

-- the last number is filled
pub searches-filled : (cs : List ℕ) (total : ℕ) (start ns ms : List ℕ) (rest left : ℕ) → Searches cs total start ns rest
    → FillsLast cs (weighed cs ns + rest) ns ms left → Searches cs total start ms left
searches-filled cs total start ns ms rest left s h = record {
  one_each = h.one_each;
  lacks = h.lacks ∙ s.lacks;
  from = not_less_trans start ns ms s.from h.from;
  none_passed = λ others o m. by_cases others o m (less_or_not others ns);
}
  where
    by_cases : (others : List ℕ) → IsSolutionFrom cs total start others → lex others ms ≡ Less
        → (lex others ns ≡ Less) ⊎ (lex others ns ≡ Less → ⊥) → ⊥
    by_cases others o m (inl l) = s.none_passed others o l
    by_cases others o m (inr g) = h.none_passed others
        (record {
          solution = record { one_each = o.solution.one_each; adds_up = o.solution.adds_up ∙ sym s.lacks };
          from = g;
        }) m

-- where something is lacking, the solutions are above the numbers
above_unsolved : (cs : List ℕ) (total : ℕ) (start ns others : List ℕ) (rest : ℕ) → Searches cs total start ns rest
    → 0 < rest → IsSolutionFrom cs total start others → lex ns others ≡ Less
above_unsolved cs total start ns others rest s some o = made (not_less_cases ns others (s.none_passed others o))
  where
    made : (others ≡ ns) ⊎ (lex ns others ≡ Less) → lex ns others ≡ Less
    made (inl e) = absurd (omega (arith, o.solution.adds_up, ap (λ xs. weighed cs xs) e, s.lacks))
    made (inr l) = l

-- on to the next light list
pub searches-advanced : (cs : List ℕ) (total : ℕ) (start ns ms : List ℕ) (rest left : ℕ)
    → Searches cs total start ns rest → 0 < rest → IsNextLight cs (weighed cs ns + rest) ns ms left
    → Searches cs total start ms left
searches-advanced cs total start ns ms rest left s some h = record {
  one_each = h.next.item.one_each;
  lacks = h.lacks ∙ s.lacks;
  from = not_less_trans start ns ms s.from (one_way lex nat_list_cmp_total ns ms h.next.above);
  none_passed = λ others o m. h.next.none_between others
      (record { one_each = o.solution.one_each; at_most = omega (arith, o.solution.adds_up, s.lacks) })
      (above_unsolved cs total start ns others rest s some o) m;
}

pub searches-none : (cs : List ℕ) (total : ℕ) (start ns : List ℕ) (rest : ℕ) → Searches cs total start ns rest
    → 0 < rest → IsLastLight cs (weighed cs ns + rest) ns → HasNone (IsSolutionFrom cs total start)
searches-none cs total start ns rest s some h others o = h others
    (record { one_each = o.solution.one_each; at_most = omega (arith, o.solution.adds_up, s.lacks) })
    (above_unsolved cs total start ns others rest s some o)

pub searches-found : (cs : List ℕ) (total : ℕ) (start ns : List ℕ) (rest : ℕ) → Searches cs total start ns rest
    → rest ≡ 0 → IsFirst lex (IsSolutionFrom cs total start) ns
searches-found cs total start ns rest s e = record {
  item = record {
    solution = record { one_each = s.one_each; adds_up = omega (arith, s.lacks) };
    from = s.from;
  };
  none_below = s.none_passed;
}

each-weighed : (cs ns : List ℕ) (most : ℕ) → length ns ≡ length cs → All (λ c. 0 < c) cs → weighed cs ns ≤ most
    → AllByRecursion (λ n. n ≤ most) ns
each-weighed [] [] most e p h = tt
each-weighed [] (n ∷ ns) most e p h = absurd (omega arith)
each-weighed (c ∷ cs) [] most e p h = tt
each-weighed (c ∷ cs) (n ∷ ns) most e p h = (
  omega (arith, number_le (c ∷ cs) (n ∷ ns) 0 e p),
  each-weighed cs ns most (omega arith) (All-tail (λ c. 0 < c) c cs p) (omega arith),
)

-- the light lists are among those whose numbers are at most the total
pub in-light : (cs ns : List ℕ) (total : ℕ) → length ns ≡ length cs → All (λ c. 0 < c) cs → weighed cs ns ≤ total
    → In ns (number_lists total (length cs))
in-light cs ns total e p h = in-number_lists total (length cs) ns e (each-weighed cs ns total e p h)

-- how many lists of numbers that are at most the total come later
pub lists_left : List ℕ → ℕ → List ℕ → ℕ
lists_left coefficients total numbers = length (above lex numbers (number_lists total (length coefficients)))

lists_left-falls : (cs : List ℕ) (total : ℕ) (old new : List ℕ) → All (λ c. 0 < c) cs → length new ≡ length cs
    → weighed cs new ≤ total → lex old new ≡ Less → lists_left cs total new < lists_left cs total old
unfolding lists_left
lists_left-falls cs total old new p e h l =
    filter_less (λ y. is_lt (lex old y)) (λ y. is_lt (lex new y))
    (λ y m. ap is_lt (nat_list_cmp_total.trans old new y l (less-from (lex new y) m)))
    (number_lists total (length cs)) new (in-light cs new total e p h) (ap is_lt l)
    (ap is_lt (tied_itself nat_list_cmp_total new))

-- one turn of the search
pub left-falls : (cs : List ℕ) (total : ℕ) (start ns filled ms : List ℕ) (left : ℕ) → All (λ c. 0 < c) cs
    → Searches cs total start ms left → (lex filled ns ≡ Less → ⊥) → lex filled ms ≡ Less
    → lists_left cs total ms < lists_left cs total ns
left-falls cs total start ns filled ms left p s f l = made (not_less_cases ns filled f)
  where
    made : (filled ≡ ns) ⊎ (lex ns filled ≡ Less) → lists_left cs total ms < lists_left cs total ns
    made (inl e) = lists_left-falls cs total ns ms p s.one_each (omega (arith, s.lacks))
        (subst (λ w. lex w ms ≡ Less) e l)
    made (inr m) = lists_left-falls cs total ns ms p s.one_each (omega (arith, s.lacks))
        (nat_list_cmp_total.trans ns filled ms m l)
