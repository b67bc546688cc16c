-- What contracts see of the lists and trails of a cursor.
use Rattle.std.specs.Prelude.{◌≡◌, ◌≤◌, ◌*◌, ℕ, [], length}
use Rattle.std.specs.List.{AllByRecursion}
use Rattle.mp_term.specs.Size.{node_count}
use Rattle.mp_pattern.specs.Fits as fits
use Rattle.mp_pattern.specs.Subpatterns.{subpatterns}
use Rattle.mp_subst.specs.Trail.{GoesWith, length_at, spare_at}
use Rattle.mp_theory.specs.OneList.{Item}
use Rattle.mp_search.specs.Grounds.{AreGrounds}
use Rattle.mp_search.specs.Levels.{AreLevels, IsVacant, rooms_of}
use Rattle.mp_search.specs.Reading.{table_of}
use Rattle.mp_cursor.specs.declared.parts.Parts.{Parts}
use Rattle.mp_cursor.specs.declared.matched.Matched.{Matched}
use Rattle.mp_cursor.specs.Kept.{HasRoom}
use Rattle.mp_table.specs.Table.{subject_of}
use Rattle.mp_cursor.specs.Matched.{trail_subst, search_room}

-- what the nodes take
abbrev pub levels_table : Matched → Parts → fits.Table
levels_table m p = table_of m.table.now p.levels.items

-- the item at hand
abbrev pub item_of : Matched → Parts → Item
item_of m p = (levels_table m p, trail_subst m p.trail)

-- there is room for so many nodes, variables and ranks at a node
pub record AreRoomy (nodes vars width : ℕ) (p : Parts) : Type 0 where
  pub levels : length p.levels.items ≡ nodes
  pub kept : length p.kept.items ≡ nodes
  pub kept_roomy : AllByRecursion (HasRoom width) p.kept.items
  pub trail : p.trail.room ≡ 2 * search_room nodes width
  pub second : p.second.room ≡ 2 * search_room nodes width
  pub numbered : p.trail.vars ≡ vars
  pub start : length_at p.start ≡ 0
  pub grounds : nodes ≤ p.grounds.list.room

-- nothing is in it, each level has room for so many ranks, and the whole room of the trail is left
pub record AreVacant (width : ℕ) (p : Parts) : Type 0 where
  pub levels : AllByRecursion IsVacant p.levels.items
  pub rooms : AllByRecursion (λ l. rooms_of l ≡ (width, width, width)) p.levels.items
  pub trail : p.trail.stack ≡ []
  pub spare : p.trail.spare ≡ p.trail.room
  pub second : p.second.stack ≡ []

-- what is in it is of the table and the plan: the ranks of the levels and of the trail, and what is known of the nodes;
-- there is room for the subject, and on the trail for one search more
pub record AreOver (m : Matched) (p : Parts) : Type 0 where
  pub width : ℕ
  pub roomy : AreRoomy (length m.plan.now.nodes) (length m.plan.now.variables) width p
  pub wide : node_count (subject_of m.table.now) ≤ width
  pub levels : AreLevels m.table.now (node_count (subject_of m.table.now)) p.levels.items
  pub trail : GoesWith m.table.now p.trail
  pub whole : spare_at p.trail 0 ≡ p.trail.room
  pub spare : search_room (length m.plan.now.nodes) (node_count (subject_of m.table.now)) ≤ p.trail.spare
  pub grounds : AreGrounds m.table.now (subpatterns m.plan.now.pattern) p.grounds.list.items.items
