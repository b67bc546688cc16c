-- What is kept of the nodes while another table is looked for.
use Rattle.std.specs.Prelude.{◌≤◌, ⊤, ℕ, Bool, List, [], ◌∷◌, length}
use Rattle.std.specs.List.{AllByRecursion}
use Rattle.mp_table.specs.Table.{Table, HasRanks}
use Rattle.mp_table.specs.declared.rank.Rank.{Rank}
use Rattle.mp_cursor.specs.declared.kept.Kept.{Kept}

-- the ranks that a node took, and whether it was collapsed
abbrev pub kept_of : Kept → List Rank × Bool
kept_of k = (k.take.items.items, k.collapsed)

-- there is room for so many ranks in what is kept of a node
abbrev pub HasRoom : ℕ → Kept → Type 0
HasRoom width k = width ≤ k.take.room

-- each room is as large as its take is long
abbrev pub HaveRoom : List ℕ → List (List Rank × Bool) → Type 0
HaveRoom [] [] = ⊤
HaveRoom (n ∷ ns) (t ∷ ts) = (length t.0 ≤ n) × HaveRoom ns ts
HaveRoom _ _ = ⊥

-- the table has the ranks of each take
abbrev pub AreHeldTakes : Table → List (List Rank × Bool) → Type 0
AreHeldTakes table ts = AllByRecursion (λ t. HasRanks table t.0) ts
