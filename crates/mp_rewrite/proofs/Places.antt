-- A place at which a tree keeps a list ascending.
use Rattle.std.proofs.Common.{◌≡◌, ◌∙◌, ap, sym, refl, subst, ℕ, zero, suc, ◌<◌, ◌≤◌}
use Rattle.std.proofs.Common.{false, List, [], ◌∷◌, length}
use Rattle.std.proofs.Common.{get_or, arith, ◌+◌, ◌++◌, map}
use Rattle.std.specs.Prelude.{slice_get, Some, replicate}
use Rattle.std.specs.declared.cmp.Ordering.{Ordering}
use Rattle.std.specs.declared.cmp.Ordering.TheVariants.{Less, Equal, Greater}
use Rattle.std.specs.List.{insert, remove, HoldsAt}
use Rattle.std.specs.List.Sorted.{IsSorted, IsPartitionPoint}
use Rattle.std.specs.Ordering.{is_gt, is_lt, ordering_reverse}
use Rattle.std.proofs.lemmas.Cmp.{tied_itself}
use Rattle.std.proofs.lemmas.List.{length-map}
use Rattle.mp_term.specs.Tree.{Tree}
use Rattle.mp_term.specs.Order.{tree_cmp}
use Rattle.mp_term.specs.OrderLaws.{tree_cmp_total, tree_same}
use Rattle.mp_term.proofs.Sorting.{AtLeast, Ascends}
use Rattle.mp_term.proofs.TestLaws.{not_less-flipped}

-- a list without one item, and mapped
pub map-remove : {X Y : Type 0} (f : X → Y) (xs : List X) (i : ℕ) → map f (remove xs i) ≡ remove (map f xs) i
map-remove f [] zero = refl
map-remove f [] (suc i) = refl
map-remove f (x ∷ xs) zero = refl
map-remove f (x ∷ xs) (suc i) = ap (λ ys. f x ∷ ys) (map-remove f xs i)

-- one more of the same at the end
pub replicate-push : {X : Type 0} (n : ℕ) (x : X) → replicate n x ++ x ∷ [] ≡ replicate (suc n) x
replicate-push zero x = refl
replicate-push (suc n) x = ap (λ xs. x ∷ xs) (replicate-push n x)

at_least-put : (t : Tree) (ts : List Tree) (i : ℕ) (x : Tree) → AtLeast tree_cmp t ts → is_gt (tree_cmp t x) ≡ false
    → AtLeast tree_cmp t (insert ts i x)
at_least-put t [] zero x h e = (e, tt)
at_least-put t [] (suc i) x h e = (e, tt)
at_least-put t (u ∷ ts) zero x h e = (e, h)
at_least-put t (u ∷ ts) (suc i) x h e = (h.0, at_least-put t ts i x h.1 e)

at_least-at : (t : Tree) (ts : List Tree) (i : ℕ) (x : Tree) → AtLeast tree_cmp t ts → slice_get ts i ≡ Some x
    → is_gt (tree_cmp t x) ≡ false
at_least-at t [] i x h e = cc
at_least-at t (u ∷ ts) zero x h e = let s : u ≡ x = cc in subst (λ v. is_gt (tree_cmp t v) ≡ false) s h.0
at_least-at t (u ∷ ts) (suc i) x h e = at_least-at t ts i x h.1 e

pub not_above-itself : (x : Tree) → is_gt (tree_cmp x x) ≡ false
not_above-itself x = rw (tied_itself tree_cmp_total x) refl

-- in front of an equal one
pub ascends-twice : (ts : List Tree) (i : ℕ) (x : Tree) → Ascends tree_cmp ts → slice_get ts i ≡ Some x
    → Ascends tree_cmp (insert ts i x)
ascends-twice [] i x h e = cc
ascends-twice (t ∷ ts) zero x h e =
    let s : t ≡ x = cc in (
      (
        subst (λ v. is_gt (tree_cmp x v) ≡ false) (sym s) (not_above-itself x),
        subst (λ v. AtLeast tree_cmp v ts) s h.0,
      ),
      h,
    )
ascends-twice (t ∷ ts) (suc i) x h e =
    (at_least-put t ts i x h.0 (at_least-at t ts i x h.0 e), ascends-twice ts i x h.1 e)

at_least-all : (x : Tree) (ts : List Tree)
    → ((k : ℕ) (d : Tree) → k < length ts → is_gt (tree_cmp x (get_or ts k d)) ≡ false) → AtLeast tree_cmp x ts
at_least-all x [] h = tt
at_least-all x (t ∷ ts) h = (h 0 t (omega arith), at_least-all x ts (λ k d l. h (suc k) d (omega arith)))

-- behind those that aren't greater and in front of those that aren't less
pub ascends-between : (ts : List Tree) (i : ℕ) (x : Tree) → i ≤ length ts → Ascends tree_cmp ts
    → ((k : ℕ) (d : Tree) → k < i → is_gt (tree_cmp (get_or ts k d) x) ≡ false)
    → ((k : ℕ) (d : Tree) → i ≤ k → k < length ts → is_gt (tree_cmp x (get_or ts k d)) ≡ false)
    → Ascends tree_cmp (insert ts i x)
ascends-between ts zero x n h below above = (at_least-all x ts (λ k d l. above k d (omega arith) l), h)
ascends-between [] (suc i) x n h below above = absurd (omega arith)
ascends-between (t ∷ ts) (suc i) x n h below above = (
  at_least-put t ts i x h.0 (below 0 t (omega arith)),
  ascends-between ts i x (omega arith) h.1 (λ k d l. below (suc k) d (omega arith))
      (λ k d l m. above (suc k) d (omega arith) (omega arith)),
)

-- what ascends is sorted
pub sorted-from_ascends : {Y : Type 0} (f : Y → Tree) (ys : List Y) → Ascends tree_cmp (map f ys)
    → IsSorted (λ a b. tree_cmp (f a) (f b)) ys
sorted-from_ascends f [] h k d n l = absurd (omega arith)
sorted-from_ascends f (y ∷ []) h k d n l = absurd (omega arith)
sorted-from_ascends f (y ∷ z ∷ ys) h zero d n l =
    not_less-flipped (tree_cmp (f y) (f z)) (tree_cmp (f z) (f y)) (tree_cmp_total.antisymm (f z) (f y)) h.0.0
sorted-from_ascends f (y ∷ z ∷ ys) h (suc k) d n l =
    let e : suc (k + 1) ≡ suc k + 1 = omega arith in
    subst (λ m. is_lt (tree_cmp (f (get_or (y ∷ z ∷ ys) m d)) (f (get_or (z ∷ ys) k d))) ≡ false) e
    (sorted-from_ascends f (z ∷ ys) h.1 k d (omega arith) (omega arith))

pub map-get_or : {Y : Type 0} (f : Y → Tree) (ys : List Y) (k : ℕ) (d : Tree) (e : Y) → k < length ys
    → get_or (map f ys) k d ≡ f (get_or ys k e)
map-get_or f [] k d e l = absurd (omega arith)
map-get_or f (y ∷ ys) zero d e l = refl
map-get_or f (y ∷ ys) (suc k) d e l = map-get_or f ys k d e (omega arith)

less-below : (r : Ordering) → r ≡ Less → is_gt r ≡ false
less-below r e = rw e refl

greater-above : (r s : Ordering) → s ≡ ordering_reverse r → r ≡ Greater → is_gt s ≡ false
greater-above r s e h = rw (e, h) refl

-- the tree that a binary search finds
pub slice_get-holds : {Y : Type 0} (f : Y → Tree) (ys : List Y) (i : ℕ) (x : Tree) → i < length ys
    → HoldsAt (λ y. tree_cmp (f y) x ≡ Equal) ys i → slice_get (map f ys) i ≡ Some x
slice_get-holds f [] i x l h = absurd (omega arith)
slice_get-holds f (y ∷ ys) zero x l h = ap Some (tree_same (f y) x (h y))
slice_get-holds f (y ∷ ys) (suc i) x l h = slice_get-holds f ys i x (omega arith) (λ d. h d)

pub first_of : {Y : Type 0} (ys : List Y) (k : ℕ) → k < length ys → Y
first_of [] k l = absurd (omega arith)
first_of (y ∷ ys) k l = y

-- the place that a binary search finds, where the tree isn't among those of the list
pub searched-between : {Y : Type 0} (f : Y → Tree) (ys : List Y) (i : ℕ) (x : Tree) → i ≤ length ys
    → Ascends tree_cmp (map f ys) → i ≤ length (map f ys)
    → IsPartitionPoint (λ y. tree_cmp (f y) x ≡ Less) (λ y. tree_cmp (f y) x ≡ Greater) ys i
    → Ascends tree_cmp (insert (map f ys) i x)
searched-between f ys i x n h m p =
    ascends-between (map f ys) i x m h
    (λ k d l.
    let w : k < length ys = omega arith in
    let y = first_of ys k w in
    less-below _ (ap (λ t. tree_cmp t x) (map-get_or f ys k d y w) ∙ p.0 k y (omega arith) l))
    (λ k d l o.
    let w : k < length ys = omega (arith, length-map ys f) in
    let y = first_of ys k w in
    greater-above (tree_cmp (get_or (map f ys) k d) x) (tree_cmp x (get_or (map f ys) k d))
    (tree_cmp_total.antisymm x (get_or (map f ys) k d))
    (ap (λ t. tree_cmp t x) (map-get_or f ys k d y w) ∙ p.1 k y l w))
