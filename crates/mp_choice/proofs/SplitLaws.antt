-- The steps of a `Splits`, part by part.
use Rattle.std.proofs.Common.{◌≡◌, ℕ, zero, suc, ◌<◌, ◌≤◌, ◌+◌, ◌-◌, List, [], ◌∷◌, refl, sym, ◌∙◌, ◌⊎◌, inl, inr, sum}
use Rattle.std.proofs.Common.{arith, Some, None, Option, length, take, drop, subst}
use Rattle.std.specs.Prelude.{IfSome}
use Rattle.std.specs.declared.cmp.Ordering.TheVariants.{Less}
use Rattle.std.specs.List.{AllZip}
use Rattle.std.proofs.lemmas.List.Sums.{sum_by-cons}
use Rattle.mp_choice.specs.declared.splits.Part.{Part}
use Rattle.mp_choice.specs.Splits.{Allows, leasts}
use Rattle.mp_choice.specs.SplitSteps.{IsPacked, IsLastOfSum, IsNextOfSum}
use Rattle.mp_choice.proofs.Lexicographic.{lex, sum-cons, less_head, less_tail, less_cases}

pub leasts-cons : (p : Part) (ps : List Part) → leasts (p ∷ ps) ≡ p.least + leasts ps
leasts-cons = sum_by-cons (λ p. p.least)

pub leasts_le : (ps : List Part) (ns : List ℕ) → AllZip Allows ps ns → leasts ps ≤ sum ns
leasts_le [] [] h = omega arith
leasts_le [] (n ∷ ns) h = absurd h
leasts_le (p ∷ ps) [] h = absurd h
leasts_le (p ∷ ps) (n ∷ ns) h = omega (arith, h.0.least, leasts_le ps ns h.1, leasts-cons p ps, sum-cons n ns)

pub packed-nil : (e : ℕ) → IsPacked [] [] e e
packed-nil e = record {
  within = tt;
  adds_up = refl;
  full = λ l others h. nothing others h;
  least = λ others h s l. no_less others h l;
}
  where
    nothing : (others : List ℕ) → AllZip Allows [] others → sum others ≤ sum []
    nothing [] h = omega arith
    nothing (x ∷ xs) h = absurd h

    no_less : (others : List ℕ) → AllZip Allows [] others → lex others [] ≡ Less → ⊥
    no_less [] h l = cc
    no_less (x ∷ xs) h l = absurd h

pub packed-cons : (p : Part) (ps : List Part) (ns : List ℕ) (e k t : ℕ) → IsPacked ps ns e k → t ≤ k
    → Allows p (p.least + t) → (t < k → (n : ℕ) → Allows p n → n ≤ p.least + t)
    → IsPacked (p ∷ ps) ((p.least + t) ∷ ns) e (k - t)
packed-cons p ps ns e k t h le a top = record {
  within = (a, h.within);
  adds_up = omega (arith, h.adds_up, leasts-cons p ps, sum-cons (p.least + t) ns);
  full = λ l others w. full_too others l w;
  least = λ others w s l. least_too others w s l;
}
  where
    full_too : (others : List ℕ) → 0 < k - t → AllZip Allows (p ∷ ps) others → sum others ≤ sum ((p.least + t) ∷ ns)
    full_too [] l w = absurd w
    full_too (y ∷ ys) l w =
        let here : y ≤ p.least + t = top (omega arith) y w.0 in
        let rest : sum ys ≤ sum ns = h.full (omega arith) ys w.1 in
        omega (arith, sum-cons (p.least + t) ns, sum-cons y ys)

    none_left : (y : ℕ) (ys : List ℕ) → k ≡ 0 → Allows p y → y < p.least + t → ⊥
    none_left y ys z b l = omega (arith, b.least)

    lower_head : (y : ℕ) (ys : List ℕ) → Allows p y → AllZip Allows ps ys → y + sum ys ≡ p.least + t + sum ns
        → y < p.least + t → ⊥
    lower_head y ys b w s l =
        let zero_or : (k ≡ 0) ⊎ (0 < k) = grind arith in
        elim zero_or [ inl z ↦ none_left y ys z b l | inr m ↦ (let f : sum ys ≤ sum ns = h.full m ys w in omega arith) ]

    least_too : (others : List ℕ) → AllZip Allows (p ∷ ps) others → sum others ≡ sum ((p.least + t) ∷ ns)
        → lex others ((p.least + t) ∷ ns) ≡ Less → ⊥
    least_too [] w s l = absurd w
    least_too (y ∷ ys) w s l =
        let s' : y + sum ys ≡ p.least + t + sum ns = sym (sum-cons y ys) ∙ (s ∙ sum-cons (p.least + t) ns) in
        elim (less_cases y (p.least + t) ys ns l)
        [ inl q ↦ lower_head y ys w.0 w.1 s' q | inr q ↦ h.least ys w.1 (omega (arith, q.0)) q.1 ]

pub last-nil : IsLastOfSum [] []
last-nil [] w s l = cc
last-nil (y ∷ ys) w s l = absurd w

-- a part that may rise no further, or behind which nothing can be taken
pub last-cons : (p : Part) (ps : List Part) (n : ℕ) (ns : List ℕ) → Allows p n → IsLastOfSum ps ns
    → (Allows p (n + 1) → leasts ps ≡ sum ns) → IsLastOfSum (p ∷ ps) (n ∷ ns)
last-cons p ps n ns a h stuck [] w s l = absurd w
last-cons p ps n ns a h stuck (y ∷ ys) w s l =
    let s' : y + sum ys ≡ n + sum ns = sym (sum-cons y ys) ∙ (s ∙ sum-cons n ns) in
    elim (less_cases n y ns ys l) [ inl q ↦ higher s' q | inr q ↦ h ys w.1 (omega (arith, q.0)) q.1 ]
  where
    capped : (o : Option ℕ) → n < y → IfSome o (λ most. y ≤ most) → IfSome o (λ most. n + 1 ≤ most)
    capped None q b = b
    capped (Some m) q b = omega arith

    higher : y + sum ys ≡ n + sum ns → n < y → ⊥
    higher s' q =
        let up : Allows p (n + 1) = record { least = omega (arith, a.least); most = capped p.most q w.0.most } in
        omega (arith, stuck up, leasts_le ps ys w.1)

pub next-cons : (p : Part) (ps : List Part) (n : ℕ) (ns ms : List ℕ) → Allows p n → IsNextOfSum ps ns ms
    → IsNextOfSum (p ∷ ps) (n ∷ ns) (n ∷ ms)
next-cons p ps n ns ms a h = record {
  within = (a, h.within);
  adds_up = omega (arith, h.adds_up, sum-cons n ns, sum-cons n ms);
  above = less_tail n n ns ms refl h.above;
  none_between = λ others w s l m. none others w s l m;
}
  where
    none : (others : List ℕ) → AllZip Allows (p ∷ ps) others → sum others ≡ sum (n ∷ ns) → lex (n ∷ ns) others ≡ Less
        → lex others (n ∷ ms) ≡ Less → ⊥
    none [] w s l m = absurd w
    none (y ∷ ys) w s l m =
        let s' : y + sum ys ≡ n + sum ns = sym (sum-cons y ys) ∙ (s ∙ sum-cons n ns) in
        elim (less_cases n y ns ys l) [
          | inl q ↦ elim (less_cases y n ys ms m) [ inl r ↦ omega arith | inr r ↦ omega (arith, r.0) ]
          | inr q ↦ elim (less_cases y n ys ms m)
              [ inl r ↦ omega (arith, q.0) | inr r ↦ h.none_between ys w.1 (omega (arith, q.0)) q.1 r.1 ]
        ]

-- the part rises by one, and those after it are packed with what is left of their sum
pub next-rise : (p : Part) (ps : List Part) (n : ℕ) (ns ms : List ℕ) (spare left : ℕ) → Allows p (n + 1)
    → AllZip Allows ps ns → IsLastOfSum ps ns → sum ns ≡ leasts ps + spare → 0 < spare → IsPacked ps ms (spare - 1) left
    → IsNextOfSum (p ∷ ps) (n ∷ ns) ((n + 1) ∷ ms)
next-rise p ps n ns ms spare left a w last is some h = record {
  within = (a, h.within);
  adds_up = omega (arith, one_less, sum-cons n ns, sum-cons (n + 1) ms);
  above = less_head n (n + 1) ns ms (omega arith);
  none_between = λ others v s l m. none others v s l m;
}
  where
    none_left : left ≡ 0
    none_left =
        let zero_or : (left ≡ 0) ⊎ (0 < left) = grind arith in
        elim zero_or
        [ inl z ↦ z | inr m ↦ absurd (let f : sum ns ≤ sum ms = h.full m ns w in omega (arith, h.adds_up)) ]

    one_less : sum ms + 1 ≡ sum ns
    one_less = omega (arith, none_left, h.adds_up)

    none : (others : List ℕ) → AllZip Allows (p ∷ ps) others → sum others ≡ sum (n ∷ ns) → lex (n ∷ ns) others ≡ Less
        → lex others ((n + 1) ∷ ms) ≡ Less → ⊥
    none [] v s l m = absurd v
    none (y ∷ ys) v s l m =
        let s' : y + sum ys ≡ n + sum ns = sym (sum-cons y ys) ∙ (s ∙ sum-cons n ns) in
        elim (less_cases n y ns ys l) [
          | inl q ↦ elim (less_cases y (n + 1) ys ms m)
              [ inl r ↦ omega arith | inr r ↦ h.least ys v.1 (omega (arith, r.0, one_less)) r.1 ]
          | inr q ↦ last ys v.1 (omega (arith, q.0)) q.1
        ]

-- the lengths before i stay
pub next-from : (i : ℕ) (ps : List Part) (ns ms : List ℕ) → AllZip Allows ps ns → take i ms ≡ take i ns → i < length ns
    → i < length ms → IsNextOfSum (drop i ps) (drop i ns) (drop i ms) → IsNextOfSum ps ns ms
next-from zero ps ns ms w e l m h = h
next-from (suc i) [] ns ms w e l m h = absurd (ended ns w l)
  where
    ended : (ns : List ℕ) → AllZip Allows [] ns → suc i < length ns → ⊥
    ended [] w l = omega arith
    ended (n ∷ ns) w l = w
next-from (suc i) (p ∷ ps) [] ms w e l m h = absurd w
next-from (suc i) (p ∷ ps) (n ∷ ns) [] w e l m h = absurd (omega arith)
next-from (suc i) (p ∷ ps) (n ∷ ns) (k ∷ ms) w e l m h =
    let same : k ≡ n = cc in
    let rest : take i ms ≡ take i ns = cc in
    let t : IsNextOfSum ps ns ms = next-from i ps ns ms w.1 rest (omega arith) (omega arith) h in
    subst (λ x. IsNextOfSum (p ∷ ps) (n ∷ ns) (x ∷ ms)) (sym same) (next-cons p ps n ns ms w.0 t)
