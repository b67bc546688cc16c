-- What the loops of a `SubBags` keep.
use Rattle.std.proofs.Common.{◌≡◌, ℕ, zero, suc, ◌+◌, ◌-◌, ◌<◌, ◌≤◌, min, List, [], ◌∷◌, ◌++◌, take, drop, sum, length}
use Rattle.std.proofs.Common.{get_or, set, refl, sym, ap, ◌∙◌, subst, arith, append_assoc, append-nil, length-set}
use Rattle.std.proofs.lemmas.List.{drop_all, drop_more, take-set, take-take, get_or-take, get_or-set_same}
use Rattle.std.proofs.lemmas.List.{take_more_set, take_all, take_at, drop_at, length-take-le}
use Rattle.std.proofs.lemmas.List.Sums.{sum_by-drop_more, sum_by-take-drop}
use Rattle.mp_choice.specs.SubBags.{IsSubBag}
use Rattle.mp_choice.specs.SubBagSteps.{IsFilled, IsLastOfSize, IsNextOfSize, Falls}
use Rattle.mp_choice.proofs.Lexicographic.{sum-cons}
use Rattle.mp_choice.proofs.SubBagLaws.{length-sub_bag, filled, filled-is, last-nil, last-cons, next-fall, next-from}

-- from i on no count falls
pub record StuckFrom (counts bag : List ℕ) (i size room : ℕ) : Type 0 where
  pub last : IsLastOfSize (drop i counts) (drop i bag)
  pub size_is : sum (drop i bag) ≡ size
  pub room_is : sum (drop i bag) + room ≡ sum (drop i counts)

pub bag_at : (cs ns : List ℕ) (j : ℕ) → IsSubBag cs ns → get_or ns j 0 ≤ get_or cs j 0
bag_at [] [] j w = omega arith
bag_at [] (n ∷ ns) j w = absurd w
bag_at (c ∷ cs) [] j w = absurd w
bag_at (c ∷ cs) (n ∷ ns) zero w = w.0
bag_at (c ∷ cs) (n ∷ ns) (suc j) w = bag_at cs ns j w.1

pub stuck-end : (cs ns : List ℕ) → IsSubBag cs ns → StuckFrom cs ns (length cs) 0 0
stuck-end cs ns w =
    let e : drop (length cs) cs ≡ [] = drop_all (length cs) cs (omega arith) in
    let f : drop (length cs) ns ≡ [] = drop_all (length cs) ns (omega (arith, length-sub_bag cs ns w)) in
    record { last = rw (e, f) last-nil; size_is = rw f refl; room_is = rw (e, f) refl }

pub stuck-more : (cs ns : List ℕ) (i j size room : ℕ) → i ≡ j + 1 → j < length cs → IsSubBag cs ns
    → StuckFrom cs ns i size room → (0 < get_or ns j 0 → room ≡ 0)
    → StuckFrom cs ns j (size + get_or ns j 0) (room + (get_or cs j 0 - get_or ns j 0))
stuck-more cs ns i j size room e h w s stuck =
    let a : get_or ns j 0 ≤ get_or cs j 0 = bag_at cs ns j w in
    let p : drop j cs ≡ get_or cs j 0 ∷ drop (j + 1) cs = drop_more cs j 0 h in
    let n : drop j ns ≡ get_or ns j 0 ∷ drop (j + 1) ns = drop_more ns j 0 (omega (arith, length-sub_bag cs ns w)) in
    let s' : StuckFrom cs ns (j + 1) size room = subst (λ k. StuckFrom cs ns k size room) e s in
    let l : IsLastOfSize (get_or cs j 0 ∷ drop (j + 1) cs) (get_or ns j 0 ∷ drop (j + 1) ns) =
    last-cons (get_or cs j 0) (get_or ns j 0) (drop (j + 1) cs) (drop (j + 1) ns) s'.last
    (λ some. omega (arith, stuck some, s'.room_is)) in
    let t : sum (get_or ns j 0 ∷ drop (j + 1) ns) ≡ size + get_or ns j 0 =
    omega (arith, s'.size_is, sum-cons (get_or ns j 0) (drop (j + 1) ns)) in
    let u : sum (get_or ns j 0 ∷ drop (j + 1) ns) + (room + (get_or cs j 0 - get_or ns j 0))
    ≡ sum (get_or cs j 0 ∷ drop (j + 1) cs) =
    omega (
      arith,
      s'.room_is,
      sum-cons (get_or ns j 0) (drop (j + 1) ns),
      sum-cons (get_or cs j 0) (drop (j + 1) cs),
    ) in
    record { last = rw (p, n) l; size_is = rw n t; room_is = rw (p, n) u }

-- what comes from j on is within the whole
pub bag_bounds : (cs ns : List ℕ) (i j size room : ℕ) → i ≡ j + 1 → j < length cs → IsSubBag cs ns
    → StuckFrom cs ns i size room → size + get_or ns j 0 + (room + (get_or cs j 0 - get_or ns j 0)) ≤ sum cs
bag_bounds cs ns i j size room e h w s =
    let s' : StuckFrom cs ns (j + 1) size room = subst (λ k. StuckFrom cs ns k size room) e s in
    let u : sum (drop j cs) ≡ get_or cs j 0 + sum (drop (j + 1) cs) = sum_by-drop_more (λ x. x) cs j 0 h in
    let v : sum (take j cs) + sum (drop j cs) ≡ sum cs = sum_by-take-drop (λ x. x) cs j in
    omega (arith, bag_at cs ns j w, s'.size_is, s'.room_is)

pub falls-here : (cs ns : List ℕ) (i j size room : ℕ) → i ≡ j + 1 → j < length ns → StuckFrom cs ns i size room
    → 0 < room → 0 < get_or ns j 0 → Falls cs ns j size
falls-here cs ns i j size room e h s some up =
    let s' : StuckFrom cs ns (j + 1) size room = subst (λ k. StuckFrom cs ns k size room) e s in
    record { inside = h; some = up; last = s'.last; size_is = s'.size_is; room = omega (arith, s'.size_is, s'.room_is) }

pub last-whole : (cs ns : List ℕ) (size room : ℕ) → StuckFrom cs ns 0 size room → IsLastOfSize cs ns
last-whole cs ns size room s = s.last

-- the fall at i, and what comes after it filled anew, is the next of this size
pub next-fallen : (cs ns ms : List ℕ) (i size : ℕ) → IsSubBag cs ns → Falls cs ns i size → length ms ≡ length ns
    → take (i + 1) ms ≡ take (i + 1) (set ns i (get_or ns i 0 - 1))
    → IsFilled (drop (i + 1) cs) (drop (i + 1) ms) (size + 1) → IsNextOfSize cs ns ms
next-fallen cs ns ms i size w r same e h =
    let inside : i < length ns = r.inside in
    let below : i < i + 1 = omega arith in
    let up_to : i ≤ i + 1 = omega arith in
    let here : get_or ms i 0 ≡ get_or ns i 0 - 1 =
    sym (get_or-take (i + 1) ms i 0 below)
    ∙ (ap (λ xs. get_or xs i 0) e
    ∙ (get_or-take (i + 1) (set ns i (get_or ns i 0 - 1)) i 0 below
    ∙ get_or-set_same ns i (get_or ns i 0 - 1) 0 inside)) in
    let before : take i ms ≡ take i ns =
    sym (take-take i (i + 1) ms up_to)
    ∙ (ap (λ xs. take i xs) e
    ∙ (take-take i (i + 1) (set ns i (get_or ns i 0 - 1)) up_to ∙ take-set ns i (get_or ns i 0 - 1))) in
    let p : drop i cs ≡ get_or cs i 0 ∷ drop (i + 1) cs = drop_more cs i 0 (omega (arith, length-sub_bag cs ns w)) in
    let n : drop i ns ≡ get_or ns i 0 ∷ drop (i + 1) ns = drop_more ns i 0 inside in
    let m : drop i ms ≡ (get_or ns i 0 - 1) ∷ drop (i + 1) ms = drop_more ms i 0 (omega arith)
    ∙ ap (λ x. x ∷ drop (i + 1) ms) here in
    let q : IsFilled (drop (i + 1) cs) (drop (i + 1) ms) (sum (drop (i + 1) ns) + 1) =
    subst (λ k. IsFilled (drop (i + 1) cs) (drop (i + 1) ms) (k + 1)) (sym r.size_is) h in
    next-from i cs ns ms w before inside (omega arith)
    (rw (p, n, m) (next-fall (get_or cs i 0) (get_or ns i 0) (drop (i + 1) cs) (drop (i + 1) ns) (drop (i + 1) ms)
    (bag_at cs ns i w) r.some r.last q))

-- what stands up to i and what is still to be filled make the bag
pub record FilledUpTo (counts old new : List ℕ) (from i size left : ℕ) : Type 0 where
  pub begun : from ≤ i
  pub same_length : length new ≡ length counts
  pub front : take i new ++ filled left (drop i counts) ≡ take from old ++ filled size (drop from counts)

pub filled-more : (cs old new : List ℕ) (from i size left : ℕ) → i < length cs → FilledUpTo cs old new from i size left
    → FilledUpTo cs old (set new i (min (get_or cs i 0) left)) from (i + 1) size (left - min (get_or cs i 0) left)
filled-more cs old new from i size left h p =
    let d : drop i cs ≡ get_or cs i 0 ∷ drop (i + 1) cs = drop_more cs i 0 h in
    let t : take (i + 1) (set new i (min (get_or cs i 0) left)) ≡ take i new ++ min (get_or cs i 0) left ∷ [] =
    take_more_set new i (min (get_or cs i 0) left) (omega (arith, p.same_length)) in
    let f : take i new ++ filled left (get_or cs i 0 ∷ drop (i + 1) cs) ≡ take from old ++ filled size (drop from cs) =
    rw d at p.front in
    record {
      begun = omega (arith, p.begun);
      same_length = length-set new i (min (get_or cs i 0) left) ∙ p.same_length;
      front = rw t
          (append_assoc (take i new) (min (get_or cs i 0) left ∷ [])
          (filled (left - min (get_or cs i 0) left) (drop (i + 1) cs)) ∙ f);
    }

pub filled-end : (cs old new : List ℕ) (from i size left : ℕ) → length cs ≤ i → from ≤ length cs
    → length old ≡ length cs → size ≤ sum (drop from cs) → FilledUpTo cs old new from i size left
    → (take from new ≡ take from old) × IsFilled (drop from cs) (drop from new) size
filled-end cs old new from i size left h l same fits p =
    let d : drop i cs ≡ [] = drop_all i cs h in
    let t : take i new ≡ new = take_all i new (omega (arith, p.same_length)) in
    let whole : new ≡ take from old ++ filled size (drop from cs) = sym (append-nil new) ∙ (rw (d, t) at p.front) in
    let front : length (take from old) ≡ from = length-take-le from old (omega arith) in (
      ap (λ xs. take from xs) whole ∙ take_at (take from old) (filled size (drop from cs)) from front,
      subst (λ xs. IsFilled (drop from cs) xs size)
          (sym (ap (λ xs. drop from xs) whole ∙ drop_at (take from old) (filled size (drop from cs)) from front))
          (filled-is (drop from cs) size fits),
    )

pub falls_size : (cs ns : List ℕ) (i size : ℕ) → Falls cs ns i size → size + 1 ≤ sum cs
falls_size cs ns i size r = omega (arith, r.room, sum_by-take-drop (λ x. x) cs (i + 1))
