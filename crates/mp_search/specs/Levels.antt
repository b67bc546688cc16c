-- What holds of levels: their room, and that their ranks are in a table.
use Rattle.std.specs.Prelude.{◌≡◌, ◌≤◌, ⊤, ℕ, Bool, false, List, [], length}
use Rattle.std.specs.List.{AllByRecursion}
use Rattle.std.specs.List.Sorted.{IsSorted}
use Rattle.mp_table.specs.Table.{Table, HasRanks, rank_cmp}
use Rattle.mp_table.specs.declared.rank.Rank.{Rank}
use Rattle.mp_search.specs.declared.level.Level.{Level}
use Rattle.mp_search.specs.declared.level.Source.{Source}
use Rattle.mp_search.specs.declared.level.Source.TheVariants.{Nothing, Front, Bag, Whole}

-- how many ranks each list of a level may have, which never changes: what the node takes, what its choices are drawn
-- from, and what is left behind it
abbrev pub rooms_of : Level → ℕ × ℕ × ℕ
rooms_of l = (l.take.room, l.pool.room, l.rest.room)

-- what the choices of the node are drawn from, and how
abbrev pub draws_of : Level → Source × List Rank
draws_of l = (l.source, l.pool.items.items)

-- what the node takes, and whether it is collapsed
abbrev pub take_of : Level → List Rank × Bool
take_of l = (l.take.items.items, l.collapsed)

-- the node takes nothing, isn't collapsed, draws nothing, and leaves nothing
pub record IsVacant (l : Level) : Type 0 where
  pub take : take_of l ≡ ([], false)
  pub draws : draws_of l ≡ (Nothing, [])
  pub rest : l.rest.items.items ≡ []

-- each list of the level has room for so many ranks
abbrev pub IsRoomy : ℕ → Level → Type 0
IsRoomy width l = (width ≤ l.take.room) × (width ≤ l.pool.room) × (width ≤ l.rest.room)

-- the table has the ranks of each list of the level
abbrev pub IsOver : Table → Level → Type 0
IsOver t l = HasRanks t l.take.items.items × HasRanks t l.pool.items.items × HasRanks t l.rest.items.items

-- so it is with each level
abbrev pub AreLevels : Table → ℕ → List Level → Type 0
AreLevels t width ls = AllByRecursion (λ l. IsRoomy width l × IsOver t l) ls

-- a pool ascends where its sublists are drawn
abbrev pub IsDrawable : Source → List Rank → Type 0
IsDrawable Nothing pool = ⊤
IsDrawable (Front least most) pool = ⊤
IsDrawable (Bag least most) pool = IsSorted rank_cmp pool
IsDrawable (Whole empty whole) pool = ⊤

-- the pool has at most so many ranks, and may be drawn from
abbrev pub IsPool : ℕ → Level → Type 0
IsPool width l = (length l.pool.items.items ≤ width) × IsDrawable l.source l.pool.items.items
