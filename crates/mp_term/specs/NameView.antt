-- The bytes that are seen of a name.
use Rattle.std.specs.Prelude.{ℕ, List, take, ◌≤◌}
use Rattle.mp_term.specs.declared.name.Bytes.{Bytes}
use Rattle.mp_term.specs.declared.name.Bytes.TheVariants.{Short, Long}
use Rattle.mp_term.specs.declared.name.TheConstants.{INLINE_BYTES}

-- a short name is the first bytes by its count, and a long one is the list in its box
abbrev pub name_bytes : Bytes → List ℕ
name_bytes (Short bs n) = take n bs
name_bytes (Long b) = b.value.items

-- the count of a short name is at most the places there are
abbrev pub IsWithin : Bytes → Type 0
IsWithin (Short bs n) = n ≤ INLINE_BYTES
IsWithin (Long b) = Unit {0}
