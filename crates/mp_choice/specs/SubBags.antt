-- The sub-multisets of counts. A multiset of classes is a list of numbers, one for each class: how often the class is
-- in it.
use Rattle.std.specs.Prelude.{◌≤◌, ◌+◌, ℕ, List, [], ◌∷◌, ◌++◌, replicate}
use Rattle.std.specs.declared.cmp.Ordering.{Ordering}
use Rattle.std.specs.List.{AllZip}
use Rattle.std.specs.Ordering.{nat_cmp}
use Rattle.mp_term.specs.Listing.{IsListing}
use Rattle.mp_term.specs.Order.{shortlex}

-- the class numbers in a multiset, each as often as it is in it, ascending, where the first number is that of `class`
abbrev pub classes_from : ℕ → List ℕ → List ℕ
classes_from class [] = []
classes_from class (n ∷ ns) = replicate n class ++ classes_from (class + 1) ns

-- those of a multiset whose first class is 0
abbrev pub classes : List ℕ → List ℕ
classes = classes_from 0

-- the shortlex order of the class numbers
abbrev pub bag_order : List ℕ → List ℕ → Ordering
bag_order a b = shortlex nat_cmp (classes a) (classes b)

-- one number for each class, at most its count
abbrev pub IsSubBag : List ℕ → List ℕ → Type 0
IsSubBag counts bag = AllZip (λ count n. n ≤ count) counts bag

-- all sub-multisets, by shortlex of their class numbers
abbrev pub AreSubBags : List ℕ → List (List ℕ) → Type 0
AreSubBags counts = IsListing bag_order (IsSubBag counts)
