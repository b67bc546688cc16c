-- What the steps of a `SubBags` do to its multiset.
use Rattle.std.specs.Prelude.{◌≡◌, ◌+◌, ◌<◌, ℕ, List, length, sum, slice_index, drop}
use Rattle.std.specs.declared.cmp.Ordering.TheVariants.{Less}
use Rattle.std.specs.Ordering.{nat_cmp}
use Rattle.std.specs.Cmp.Lexicographic.{slice_cmp}
use Rattle.mp_choice.specs.SubBags.{IsSubBag}

-- of the sub-multisets of that size the one whose numbers come last
pub record IsFilled (counts bag : List ℕ) (size : ℕ) : Type 0 where
  pub within : IsSubBag counts bag
  pub adds_up : sum bag ≡ size
  pub greatest : (others : List ℕ) → IsSubBag counts others → sum others ≡ size → slice_cmp nat_cmp bag others ≡ Less
      → ⊥

-- no sub-multiset of this size has lesser numbers
abbrev pub IsLastOfSize : List ℕ → List ℕ → Type 0
IsLastOfSize counts bag = (others : List ℕ) → IsSubBag counts others → sum others ≡ sum bag
    → slice_cmp nat_cmp others bag ≡ Less → ⊥

-- the sub-multiset of the same size with the next lesser numbers
pub record IsNextOfSize (counts old new : List ℕ) : Type 0 where
  pub within : IsSubBag counts new
  pub adds_up : sum new ≡ sum old
  pub below : slice_cmp nat_cmp new old ≡ Less
  pub none_between : (others : List ℕ) → IsSubBag counts others → sum others ≡ sum old
      → slice_cmp nat_cmp others old ≡ Less → slice_cmp nat_cmp new others ≡ Less → ⊥

-- the number at i can fall, since the classes after it, where nothing can fall, have room for more than the `size` that
-- they hold
pub record Falls (counts bag : List ℕ) (i size : ℕ) : Type 0 where
  pub inside : i < length bag
  pub some : 0 < slice_index bag i
  pub last : IsLastOfSize (drop (i + 1) counts) (drop (i + 1) bag)
  pub size_is : sum (drop (i + 1) bag) ≡ size
  pub room : size < sum (drop (i + 1) counts)
