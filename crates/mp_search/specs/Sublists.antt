-- The sublists of a pool that have one length, item by item from the left.
use Rattle.std.specs.Prelude.{◌≡◌, ◌≤◌, ◌<◌, ◌+◌, ⊤, ℕ, List, [], ◌∷◌, ◌++◌, length, take, drop, true, slice_index_or}
use Rattle.std.specs.declared.cmp.Ordering.{Ordering}
use Rattle.std.specs.declared.cmp.Ordering.TheVariants.{Less}
use Rattle.std.specs.Cmp.Lexicographic.{slice_cmp}
use Rattle.mp_term.specs.Pieces.{is_sublist, without}
use Rattle.mp_term.specs.Listing.{above}

module _ {X : Type 0} (cmp : X → X → Ordering) (pool : List X) where
  -- m is a sublist with the length of l, and comes after it
  pub record IsLater (l m : List X) : Type 0 where
    pub sublist : is_sublist cmp m pool ≡ true
    pub same_length : length m ≡ length l
    pub after : slice_cmp cmp l m ≡ Less

  -- the first of these
  pub record IsNextSublist (l new : List X) : Type 0 where
    pub later : IsLater l new
    pub none_between : (m : List X) → IsLater l m → slice_cmp cmp m new ≡ Less → ⊥

  -- there are none
  abbrev pub IsLastSublist : List X → Type 0
  IsLastSublist l = (m : List X) → IsLater l m → ⊥

  -- at no item of l the pool has enough items above it for those from there on
  abbrev pub IsStuck : List X → Type 0
  IsStuck [] = ⊤
  IsStuck (x ∷ l) = (length (above cmp x pool) ≤ length l) × IsStuck l

  -- at the item i it has, and they stand from j on; at no later one it has
  pub record Rises (l : List X) (i j : ℕ) : Type 0 where
    pub within : i < length l
    pub items : (x : X) → drop j pool ≡ above cmp (slice_index_or l i x) pool
    pub enough : length l ≤ i + length (drop j pool)
    pub stuck : IsStuck (drop (i + 1) l)

module _ {X : Type 0} (cmp : X → X → Ordering) where
  -- the item stands in the list, first at place p
  pub record IsFirstAt (x : X) (xs : List X) (p : ℕ) : Type 0 where
    pub within : p < length xs
    pub there : is_sublist cmp (x ∷ []) xs ≡ true
    pub others : without cmp (x ∷ []) xs ≡ take p xs ++ drop (p + 1) xs
