-- What a sort leaves once repeats are dropped: the keys ascend, and each key is there.
use Rattle.std.proofs.Common.{◌≡◌, ℕ, zero, suc, ◌+◌, ◌<◌, ◌++◌, List, [], ◌∷◌, map, length, get_or, refl, ap, sym}
use Rattle.std.proofs.Common.{◌∙◌, subst, take}
use Rattle.std.proofs.Common.{inl, inr}
use Rattle.std.proofs.Common.{arith}
use Rattle.std.specs.Prelude.{Contains}
use Rattle.std.specs.declared.cmp.Ordering.{Ordering}
use Rattle.std.specs.declared.cmp.Ordering.TheVariants.{Equal}
use Rattle.std.specs.Ordering.{eq_by_cmp}
use Rattle.std.specs.Cmp.{IsTotalOrder}
use Rattle.std.specs.List.{AllByRecursion, dedup}
use Rattle.std.specs.List.Sorted.{IsStrictlySortedBy, IsSorted, IsPermutation}
use Rattle.std.proofs.lemmas.Cmp.{eq_by_cmp_equiv, on_total}
use Rattle.std.proofs.lemmas.List.{get_or_default, take_more}
use Rattle.std.proofs.lemmas.List.Elements.{All-from_recursion, recursion_from_All}
use Rattle.std.proofs.lemmas.List.Filters.{All-dedup}
use Rattle.std.proofs.lemmas.List.Kept.{Any-dedup, IsStrictlySortedBy-dedup}
use Rattle.std.proofs.lemmas.List.Sorted.{All-permutation, Contains-permutation}
use Rattle.mp_term.specs.Listing.{In}
use Rattle.mp_term.proofs.ListLaws.{all-append, all-also}
use Rattle.mp_term.proofs.TestLaws.{equal-from}
use Rattle.mp_term.proofs.SearchLaws.{in-left}
use Rattle.mp_table.proofs.Ascending.{keys_ascend, place}

-- the key at a place is a member
pub in-key : {X Y : Type 0} (f : Y → X) (ys : List Y) (i : ℕ) (d : Y) → i < length ys
    → In (f (get_or ys i d)) (map f ys)
in-key f [] i d h = absurd (omega arith)
in-key f (y ∷ ys) zero d h = inl refl
in-key f (y ∷ ys) (suc i) d h = inr (in-key f ys i d (omega arith))

-- the item at a place is a member
pub in-place : {X : Type 0} (xs : List X) (i : ℕ) (d : X) → i < length xs → In (get_or xs i d) xs
in-place [] i d h = absurd (omega (arith, h))
in-place (x ∷ xs) zero d h = inl refl
in-place (x ∷ xs) (suc i) d h = inr (in-place xs i d (omega (arith, h)))

-- the last item is one
pub in-last : {X : Type 0} (x : X) (xs : List X) → In x (xs ++ x ∷ [])
in-last x [] = inl refl
in-last x (y ∷ xs) = inr (in-last x xs)

all-own : {X Y : Type 0} (f : Y → X) (ys : List Y) → AllByRecursion (λ y. In (f y) (map f ys)) ys
all-own f [] = tt
all-own f (y ∷ ys) = (
  inl refl,
  all-also (λ z. In (f z) (map f ys)) (λ z. In (f z) (f y ∷ map f ys)) (λ z h. inr h) ys (all-own f ys),
)

-- each item has its key among the keys
pub all-keys : {X Y : Type 0} (f : Y → X) (ks : List X) (ys : List Y) → map f ys ≡ ks
    → AllByRecursion (λ y. In (f y) ks) ys
all-keys f ks ys e = subst (λ l. AllByRecursion (λ y. In (f y) l) ys) e (all-own f ys)

-- one item more of which a fact holds
pub all-more : {X : Type 0} (P : X → Type 0) (xs : List X) (i : ℕ) (d : X) → i < length xs → P (get_or xs i d)
    → AllByRecursion P (take i xs) → AllByRecursion P (take (i + 1) xs)
all-more P xs i d h p a =
    subst (AllByRecursion P) (sym (take_more xs i d h)) (all-append P (take i xs) (get_or xs i d ∷ []) a (p, tt))

-- one item more whose key is a member
pub members-more : {X Y : Type 0} (f : Y → X) (ks : List X) (ys : List Y) (i : ℕ) (d : Y) → i < length ys
    → In (f (get_or ys i d)) ks → AllByRecursion (λ y. In (f y) ks) (take i ys)
    → AllByRecursion (λ y. In (f y) ks) (take (i + 1) ys)
members-more f ks = all-more (λ y. In (f y) ks)

-- one item more whose key is added
pub members-pushed : {X Y : Type 0} (f : Y → X) (ks : List X) (ys : List Y) (i : ℕ) (d : Y) → i < length ys
    → AllByRecursion (λ y. In (f y) ks) (take i ys)
    → AllByRecursion (λ y. In (f y) (ks ++ f (get_or ys i d) ∷ [])) (take (i + 1) ys)
members-pushed f ks ys i d h a =
    let k = f (get_or ys i d) in
    members-more f (ks ++ k ∷ []) ys i d h (in-last k ks)
    (all-also (λ y. In (f y) ks) (λ y. In (f y) (ks ++ k ∷ [])) (λ y. in-left (f y) ks (k ∷ [])) (take i ys) a)

-- each key is a member
pub from-keys : {X Y : Type 0} (f : Y → X) (ks : List X) (ys : List Y) → AllByRecursion (λ y. In (f y) ks) ys → (x : X)
    → In x (map f ys) → In x ks
from-keys f ks [] h x i = absurd i
from-keys f ks (y ∷ ys) h x (inl e) = subst (λ z. In z ks) (sym e) h.0
from-keys f ks (y ∷ ys) h x (inr i) = from-keys f ks ys h.1 x i

module _ {X Y : Type 0} (cmp : X → X → Ordering) (o : IsTotalOrder cmp) (key : Y → X) where
  abbrev by_key : Y → Y → Ordering
  by_key a b = cmp (key a) (key b)

  pub distinct_ascends : (zs : List Y) → IsSorted by_key zs
      → IsStrictlySortedBy cmp (map key (dedup (eq_by_cmp by_key) zs))
  distinct_ascends zs s = keys_ascend cmp o key _ (IsStrictlySortedBy-dedup (on_total key o) (λ x y. refl) zs s)

  pub distinct_keep : (P : Y → Type 0) (ys zs : List Y) → IsPermutation ys zs → AllByRecursion P ys
      → AllByRecursion P (dedup (eq_by_cmp by_key) zs)
  distinct_keep P ys zs moved h = recursion_from_All P _
      (All-dedup (eq_by_cmp by_key) P zs (All-permutation P ys zs moved (All-from_recursion P ys h)))

  module _ (same : (x y : X) → cmp x y ≡ Equal → x ≡ y) where
    pub distinct_all : (ys zs : List Y) → IsPermutation ys zs → (x : X) → In x (map key ys)
        → In x (map key (dedup (eq_by_cmp by_key) zs))
    distinct_all [] zs moved x h = absurd h
    distinct_all (y ∷ ys) zs moved x h =
        let p = place cmp o key x (y ∷ ys) h in
        let z = get_or (y ∷ ys) p.0 y in
        let there : Contains (y ∷ ys) z = (p.0, p.1, get_or_default (y ∷ ys) p.0 z y p.1) in
        let r = Any-dedup (eq_by_cmp_equiv (on_total key o)) zs z (Contains-permutation (y ∷ ys) zs z moved there) in
        let is : key z ≡ key r.1 = same _ _ (equal-from _ r.4) in
        subst (λ k. In k (map key (dedup (eq_by_cmp by_key) zs))) (ap key r.3 ∙ sym is ∙ p.2 y)
        (in-key key (dedup (eq_by_cmp by_key) zs) r.0 r.1 r.2)
