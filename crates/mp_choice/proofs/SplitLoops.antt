-- What the loops of a `Splits` keep.
use Rattle.std.proofs.Common.{◌≡◌, ℕ, ◌+◌, ◌-◌, ◌<◌, ◌≤◌, ◌^◌, Some, None, Option, sym, List, [], ◌∷◌, take, drop, sum}
use Rattle.std.proofs.Common.{length, get_or, set, refl, ap, ◌∙◌, subst, zero, suc, length-drop, get_or-drop, arith}
use Rattle.std.specs.Prelude.{All, IfSome}
use Rattle.std.specs.List.{AllZip}
use Rattle.std.proofs.lemmas.List.{drop_all, drop_more, drop-set, take-set-le, take-take, take-set, get_or-take}
use Rattle.std.proofs.lemmas.List.{get_or-set_same}
use Rattle.std.proofs.lemmas.List.Elements.{All-drop}
use Rattle.std.proofs.lemmas.List.Sums.{sum_by-drop_more, sum_by-take-drop, get_or-le-sum_by}
use Rattle.std.proofs.lemmas.Slice.Zip.{AllZip-long}
use Rattle.mp_choice.specs.Listed.{IsFirst, HasNone}
use Rattle.mp_choice.specs.Splits.{Allows, IsSplit, leasts}
use Rattle.mp_choice.specs.declared.splits.Part.{Part}
use Rattle.mp_choice.specs.SplitSteps.{IsPossible, IsPacked, IsLastOfSum, IsNextOfSum, Rises}
use Rattle.mp_choice.proofs.Lexicographic.{lex, sum-cons}
use Rattle.mp_choice.proofs.SplitLaws.{leasts-cons, leasts_le, last-nil, last-cons, packed-nil, packed-cons, next-rise}
use Rattle.mp_choice.proofs.SplitLaws.{next-from}

-- from i on the lengths are packed, and before `from` they are as they were
pub record PackedFrom (parts : List Part) (old new : List ℕ) (from i extra left : ℕ) : Type 0 where
  pub before : take from new ≡ take from old
  pub begun : from ≤ i
  pub at_most : left ≤ extra
  pub packed : IsPacked (drop i parts) (drop i new) extra left

-- from i on nothing rises
pub record StuckFrom (parts : List Part) (lengths : List ℕ) (i spare : ℕ) : Type 0 where
  pub last : IsLastOfSum (drop i parts) (drop i lengths)
  pub spare_is : sum (drop i lengths) ≡ leasts (drop i parts) + spare

pub allows_at : (ps : List Part) (ns : List ℕ) (j : ℕ) (d : Part) → AllZip Allows ps ns → j < length ps
    → Allows (get_or ps j d) (get_or ns j 0)
allows_at [] ns j d w h = absurd (omega arith)
allows_at (p ∷ ps) [] j d w h = absurd w
allows_at (p ∷ ps) (n ∷ ns) zero d w h = w.0
allows_at (p ∷ ps) (n ∷ ns) (suc j) d w h = allows_at ps ns j d w.1 (omega arith)

pub all_from : {X : Type 0} (P : X → Type 0) (xs : List X) (from j : ℕ) (d : X) → All P (drop from xs) → from ≤ j
    → j < length xs → P (get_or xs j d)
all_from P xs from j d h l m =
    let e : get_or (drop from xs) (j - from) d ≡ get_or xs (from + (j - from)) d = get_or-drop from xs (j - from) d in
    let f : from + (j - from) ≡ j = omega arith in
    subst P (e ∙ ap (λ k. get_or xs k d) f) (h (j - from) d (omega (arith, length-drop from xs)))

pub stuck-end : (ps : List Part) (ns : List ℕ) → AllZip Allows ps ns → StuckFrom ps ns (length ps) 0
stuck-end ps ns w =
    let e : drop (length ps) ps ≡ [] = drop_all (length ps) ps (omega arith) in
    let f : drop (length ps) ns ≡ [] = drop_all (length ps) ns (omega (arith, AllZip-long Allows ps ns w)) in
    record { last = rw (e, f) last-nil; spare_is = rw (e, f) refl }

-- what lies beyond the least lengths is within the sum
pub spare_le : (ps : List Part) (ns : List ℕ) (i j spare : ℕ) (d : Part) → i ≡ j + 1 → j < length ps
    → AllZip Allows ps ns → StuckFrom ps ns i spare → spare + (get_or ns j 0 - (get_or ps j d).least) ≤ sum ns
spare_le ps ns i j spare d e h w s =
    let t : sum (drop i ns) ≡ leasts (drop i ps) + spare = s.spare_is in
    let u : sum (drop j ns) ≡ get_or ns j 0 + sum (drop (j + 1) ns) =
    sum_by-drop_more (λ x. x) ns j 0 (omega (arith, AllZip-long Allows ps ns w)) in
    let v : sum (take j ns) + sum (drop j ns) ≡ sum ns = sum_by-take-drop (λ x. x) ns j in
    let t' : sum (drop (j + 1) ns) ≡ leasts (drop (j + 1) ps) + spare =
    subst (λ k. sum (drop k ns) ≡ leasts (drop k ps) + spare) e t in
    omega arith

pub stuck-more : (ps : List Part) (ns : List ℕ) (i j spare : ℕ) (d : Part) → i ≡ j + 1 → j < length ps
    → AllZip Allows ps ns → StuckFrom ps ns i spare → (Allows (get_or ps j d) (get_or ns j 0 + 1) → spare ≡ 0)
    → StuckFrom ps ns j (spare + (get_or ns j 0 - (get_or ps j d).least))
stuck-more ps ns i j spare d e h w s stuck =
    let a : Allows (get_or ps j d) (get_or ns j 0) = allows_at ps ns j d w h in
    let p : drop j ps ≡ get_or ps j d ∷ drop (j + 1) ps = drop_more ps j d h in
    let n : drop j ns ≡ get_or ns j 0 ∷ drop (j + 1) ns =
    drop_more ns j 0 (omega (arith, AllZip-long Allows ps ns w)) in
    let s' : StuckFrom ps ns (j + 1) spare = subst (λ k. StuckFrom ps ns k spare) e s in
    let l : IsLastOfSum (get_or ps j d ∷ drop (j + 1) ps) (get_or ns j 0 ∷ drop (j + 1) ns) =
    last-cons (get_or ps j d) (drop (j + 1) ps) (get_or ns j 0) (drop (j + 1) ns) a s'.last
    (λ up. omega (arith, stuck up, s'.spare_is)) in
    let sums : sum (get_or ns j 0 ∷ drop (j + 1) ns)
    ≡ leasts (get_or ps j d ∷ drop (j + 1) ps) + (spare + (get_or ns j 0 - (get_or ps j d).least)) =
    omega (
      arith,
      s'.spare_is,
      a.least,
      sum-cons (get_or ns j 0) (drop (j + 1) ns),
      leasts-cons (get_or ps j d) (drop (j + 1) ps),
    ) in
    record { last = rw (p, n) l; spare_is = rw (p, n) sums }

pub rises-here : (ps : List Part) (ns : List ℕ) (i j spare : ℕ) → i ≡ j + 1 → j < length ns → StuckFrom ps ns i spare
    → 0 < spare → ((d : Part) → Allows (get_or ps j d) (get_or ns j 0 + 1)) → Rises ps ns j spare
rises-here ps ns i j spare e h s some may =
    let s' : StuckFrom ps ns (j + 1) spare = subst (λ k. StuckFrom ps ns k spare) e s in
    record { inside = h; may = may; last = s'.last; spare_is = s'.spare_is; some = some }

pub packed-end : (ps : List Part) (ns : List ℕ) (e : ℕ) → length ns ≡ length ps
    → IsPacked (drop (length ps) ps) (drop (length ps) ns) e e
packed-end ps ns e h = rw (drop_all (length ps) ps (omega arith), drop_all (length ps) ns (omega arith)) (packed-nil e)

pub packed-more : (ps : List Part) (old new : List ℕ) (from i j e k t : ℕ) (d : Part) → i ≡ j + 1 → from ≤ j
    → j < length ps → length new ≡ length ps → PackedFrom ps old new from i e k → t ≤ k
    → Allows (get_or ps j d) ((get_or ps j d).least + t)
    → (t < k → (n : ℕ) → Allows (get_or ps j d) n → n ≤ (get_or ps j d).least + t)
    → PackedFrom ps old (set new j ((get_or ps j d).least + t)) from j e (k - t)
packed-more ps old new from i j e k t d is begun inside same h le a top =
    let h' : PackedFrom ps old new from (j + 1) e k = subst (λ m. PackedFrom ps old new from m e k) is h in
    let p : drop j ps ≡ get_or ps j d ∷ drop (j + 1) ps = drop_more ps j d inside in
    let n : drop j (set new j ((get_or ps j d).least + t)) ≡ ((get_or ps j d).least + t) ∷ drop (j + 1) new =
    drop-set new j ((get_or ps j d).least + t) (omega arith) in
    record {
      before = take-set-le from new j ((get_or ps j d).least + t) begun ∙ h'.before;
      begun = begun;
      at_most = omega (arith, h'.at_most);
      packed = rw (p, n) (packed-cons (get_or ps j d) (drop (j + 1) ps) (drop (j + 1) new) e k t h'.packed le a top);
    }

possible_from : (o : Option ℕ) (least n : ℕ) → least ≤ n → IfSome o (λ most. n ≤ most) → IfSome o (λ most. least ≤ most)
possible_from None least n h k = tt
possible_from (Some most) least n h k = omega arith

pub possible : (p : Part) (n : ℕ) → Allows p n → IsPossible p
possible p n a = possible_from p.most p.least n a.least a.most

pub all_possible : (ps : List Part) (ns : List ℕ) (m : ℕ) → AllZip Allows ps ns → All IsPossible (drop m ps)
all_possible ps ns m w = All-drop IsPossible m ps
    (λ k d h. possible (get_or ps k d) (get_or ns k 0) (allows_at ps ns k d w h))

pub all_bounded : (ps : List Part) (m e : ℕ) → leasts ps + e < 2 ^ 32 → All (λ p. p.least + e < 2 ^ 32) (drop m ps)
all_bounded ps m e h = All-drop (λ p. p.least + e < 2 ^ 32) m ps
    (λ k d l. omega (arith, get_or-le-sum_by (λ p. p.least) ps k d l))

pub none-impossible : (total : ℕ) (ps : List Part) (j : ℕ) (d : Part) → j < length ps → (IsPossible (get_or ps j d) → ⊥)
    → HasNone (IsSplit total ps)
none-impossible total ps j d h bad ns s =
    bad (possible (get_or ps j d) (get_or ns j 0) (allows_at ps ns j d s.within h))

pub none-too_short : (total : ℕ) (ps : List Part) → total < leasts ps → HasNone (IsSplit total ps)
none-too_short total ps h ns s = omega (arith, leasts_le ps ns s.within, s.adds_up)

pub none-left_over : (total : ℕ) (ps : List Part) (ns : List ℕ) (left : ℕ) → leasts ps ≤ total
    → IsPacked ps ns (total - leasts ps) left → 0 < left → HasNone (IsSplit total ps)
none-left_over total ps ns left l h some ms s = omega (arith, h.adds_up, h.full some ms s.within, s.adds_up)

pub first-packed : (total : ℕ) (ps : List Part) (ns : List ℕ) → leasts ps ≤ total → IsPacked ps ns (total - leasts ps) 0
    → IsFirst lex (IsSplit total ps) ns
first-packed total ps ns l h =
    let same : sum ns ≡ total = omega (arith, h.adds_up) in
    record {
      item = record { within = h.within; adds_up = same };
      none_below = λ others s m. h.least others s.within (s.adds_up ∙ sym same) m;
    }

pub spare_within : (ps : List Part) (ns : List ℕ) (i spare : ℕ) → Rises ps ns i spare → spare ≤ sum ns
spare_within ps ns i spare r = omega (arith, r.spare_is, sum_by-take-drop (λ x. x) ns (i + 1))

all_zip-drop : (ps : List Part) (ns : List ℕ) (m : ℕ) → AllZip Allows ps ns → AllZip Allows (drop m ps) (drop m ns)
all_zip-drop ps ns zero w = w
all_zip-drop [] [] (suc m) w = tt
all_zip-drop [] (n ∷ ns) (suc m) w = absurd w
all_zip-drop (p ∷ ps) [] (suc m) w = absurd w
all_zip-drop (p ∷ ps) (n ∷ ns) (suc m) w = all_zip-drop ps ns m w.1

-- the rise at i, and what comes after it packed anew, is the next
pub next-risen : (ps : List Part) (ns ms : List ℕ) (i spare left : ℕ) (d : Part) → AllZip Allows ps ns
    → Rises ps ns i spare → length ms ≡ length ns → take (i + 1) ms ≡ take (i + 1) (set ns i (get_or ns i 0 + 1))
    → IsPacked (drop (i + 1) ps) (drop (i + 1) ms) (spare - 1) left → IsNextOfSum ps ns ms
next-risen ps ns ms i spare left d w r same e h =
    let inside : i < length ns = r.inside in
    let below : i < i + 1 = omega arith in
    let here : get_or ms i 0 ≡ get_or ns i 0 + 1 =
    sym (get_or-take (i + 1) ms i 0 below)
    ∙ (ap (λ xs. get_or xs i 0) e
    ∙ (get_or-take (i + 1) (set ns i (get_or ns i 0 + 1)) i 0 below
    ∙ get_or-set_same ns i (get_or ns i 0 + 1) 0 inside)) in
    let up_to : i ≤ i + 1 = omega arith in
    let before : take i ms ≡ take i ns =
    sym (take-take i (i + 1) ms up_to)
    ∙ (ap (λ xs. take i xs) e
    ∙ (take-take i (i + 1) (set ns i (get_or ns i 0 + 1)) up_to ∙ take-set ns i (get_or ns i 0 + 1))) in
    let p : drop i ps ≡ get_or ps i d ∷ drop (i + 1) ps =
    drop_more ps i d (omega (arith, AllZip-long Allows ps ns w)) in
    let n : drop i ns ≡ get_or ns i 0 ∷ drop (i + 1) ns = drop_more ns i 0 inside in
    let m : drop i ms ≡ (get_or ns i 0 + 1) ∷ drop (i + 1) ms = drop_more ms i 0 (omega arith)
    ∙ ap (λ x. x ∷ drop (i + 1) ms) here in
    next-from i ps ns ms w before inside (omega arith)
    (rw (p, n, m) (next-rise (get_or ps i d) (drop (i + 1) ps) (get_or ns i 0) (drop (i + 1) ns)
    (drop (i + 1) ms) spare left (r.may d) (all_zip-drop ps ns (i + 1) w) r.last r.spare_is r.some h))
