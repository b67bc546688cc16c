-- What the steps of a `Splits` do to its lengths.
use Rattle.std.specs.Prelude.{◌≡◌, ℕ, ◌+◌, ◌<◌, ◌≤◌, List, length, drop, slice_index, slice_index_or, sum, IfSome}
use Rattle.std.specs.declared.cmp.Ordering.TheVariants.{Less}
use Rattle.std.specs.List.{AllZip}
use Rattle.std.specs.Ordering.{nat_cmp}
use Rattle.std.specs.Cmp.Lexicographic.{slice_cmp}
use Rattle.mp_choice.specs.declared.splits.Part.{Part}
use Rattle.mp_choice.specs.Splits.{Allows, leasts}

-- the part has a length at all
abbrev pub IsPossible : Part → Type 0
IsPossible p = IfSome p.most (λ most. p.least ≤ most)

-- the least lengths and the extra, but for what is left, lie in the lengths; no more fits, and of the lengths with this
-- sum they are the least
pub record IsPacked (parts : List Part) (lengths : List ℕ) (extra left : ℕ) : Type 0 where
  pub within : AllZip Allows parts lengths
  pub adds_up : sum lengths + left ≡ leasts parts + extra
  pub full : 0 < left → (others : List ℕ) → AllZip Allows parts others → sum others ≤ sum lengths
  pub least : (others : List ℕ) → AllZip Allows parts others → sum others ≡ sum lengths
      → slice_cmp nat_cmp others lengths ≡ Less → ⊥

-- no lengths with this sum come later
abbrev pub IsLastOfSum : List Part → List ℕ → Type 0
IsLastOfSum parts lengths = (others : List ℕ) → AllZip Allows parts others → sum others ≡ sum lengths
    → slice_cmp nat_cmp lengths others ≡ Less → ⊥

-- the next lengths with the same sum
pub record IsNextOfSum (parts : List Part) (old new : List ℕ) : Type 0 where
  pub within : AllZip Allows parts new
  pub adds_up : sum new ≡ sum old
  pub above : slice_cmp nat_cmp old new ≡ Less
  pub none_between : (others : List ℕ) → AllZip Allows parts others → sum others ≡ sum old
      → slice_cmp nat_cmp old others ≡ Less → slice_cmp nat_cmp others new ≡ Less → ⊥

-- the length at i can rise, taken from the spare beyond the least lengths after it, where nothing can rise
pub record Rises (parts : List Part) (lengths : List ℕ) (i spare : ℕ) : Type 0 where
  pub inside : i < length lengths
  pub may : (p : Part) → Allows (slice_index_or parts i p) (slice_index lengths i + 1)
  pub last : IsLastOfSum (drop (i + 1) parts) (drop (i + 1) lengths)
  pub spare_is : sum (drop (i + 1) lengths) ≡ leasts (drop (i + 1) parts) + spare
  pub some : 0 < spare
