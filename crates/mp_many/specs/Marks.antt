-- Marks by digests.
use Rattle.std.specs.Prelude.{ℕ, ◌%◌, ◌≡◌, Bool, true, false, List, [], ◌∷◌, length, slice_index_or}
use Rattle.std.specs.List.{AllByRecursion}
use Rattle.mp_many.specs.Digest.{token_digest}
use Rattle.mp_many.specs.Groups.{Group}

-- the digest has its mark, at the place that its rest is; where there are no marks each has its own
abbrev pub has_mark : List Bool → ℕ → Bool
has_mark [] digest = true
has_mark (m ∷ ms) digest = slice_index_or (m ∷ ms) (digest % length (m ∷ ms)) false

-- the digests of the groups' tokens have their marks
abbrev pub AreMarked : List Bool → List Group → Type 0
AreMarked marks gs = AllByRecursion (λ g. has_mark marks (token_digest g.0) ≡ true) gs
