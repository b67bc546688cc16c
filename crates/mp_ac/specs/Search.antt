-- What contracts see of a search below a commutative node.
use Rattle.std.specs.Prelude.{◌≡◌, ◌≤◌, ℕ, List, [], map}
use Rattle.std.specs.List.{AllByRecursion}
use Rattle.mp_term.specs.Size.{all_nodes}
use Rattle.mp_pattern.specs.Fits as fits
use Rattle.mp_pattern.specs.PatternTree.{Pattern}
use Rattle.mp_pattern.specs.Subpatterns.{subpatterns}
use Rattle.mp_pattern.specs.Value.{Subst}
use Rattle.mp_pattern.specs.View.{pattern_tree}
use Rattle.mp_table.specs.Table.{Table, HasRanks, terms_at}
use Rattle.mp_table.specs.declared.rank.Rank.{Rank}
use Rattle.mp_subst.specs.Trail.{Trail, length_at}
use Rattle.mp_theory.specs.OneList.{Item}
use Rattle.mp_search.specs.Grounds.{AreGrounds}
use Rattle.mp_search.specs.declared.stage.Stage.{Stage}
use Rattle.mp_search.specs.declared.stage.Stage.TheVariants.{Before, Standing, Ended}
use Rattle.mp_ac.specs.declared.asked.Asked.{Asked}
use Rattle.mp_ac.specs.declared.search.CommSearch.{CommSearch}
use Rattle.mp_ac.specs.Args.{args_of}
use Rattle.mp_ac.specs.Asked.{AreGiven, IsAsked}
use Rattle.mp_ac.specs.CommPlan.{IsNumberedPlan, nodes_below}
use Rattle.mp_ac.specs.CommRoom.{IsRoomFor}
use Rattle.mp_ac.specs.Numbered.{IsTrailOf, numbered_subst}
use Rattle.mp_ac.specs.Planned.{plan_of}
use Rattle.mp_ac.specs.Seek.{ArePicked, ArePicksOf, IsCommutative, IsLeading, items_sought, seek_cost, sought_table}
use Rattle.mp_ac.specs.Seek.{with_children}
use Rattle.mp_ac.specs.Stage.{IsAmong, ahead_at}

-- the length of the trail's stack at the begin
abbrev pub mark_of : CommSearch → ℕ
mark_of c = length_at c.mark

-- the table
abbrev pub table_of : CommSearch → Table
table_of c = c.table.now

-- what is asked of the children of the plan
abbrev pub asked_of : CommSearch → Asked
asked_of c = record {
  sig = c.sig;
  plan = record { ref_ptr = (0, 0); now = (plan_of c.plan).plan };
  vars = record { ref_ptr = (0, 0); now = (plan_of c.plan).vars.items };
  table = c.table;
  owes = c.owes;
}

-- the children that take one term each
abbrev pub leading_of : CommSearch → List Pattern
leading_of c = map pattern_tree c.children.now

-- the terms that all children take together
abbrev pub given_of : CommSearch → List Rank
given_of c = args_of c.args

-- the whole pattern
abbrev pub pattern_of : CommSearch → Pattern
pattern_of c = with_children (leading_of c) (plan_of c.plan).plan.pattern

-- the table, where one stands at an item
abbrev pub table_at : Stage → fits.Table → fits.Table
table_at Standing W = W
table_at Before W = []
table_at Ended W = []

-- the table that the picks and the levels have
abbrev pub kept_table : CommSearch → fits.Table
kept_table c = sought_table (asked_of c) c.room.choices.items (leading_of c) c.room.picks.items c.room.levels.items

-- the table of the item at hand
abbrev pub item_table : CommSearch → fits.Table
item_table c = table_at c.stage (kept_table c)

-- all items, where the substitution is that of the trail of the begin
abbrev pub all_items : CommSearch → Subst → List Item
all_items c s = items_sought (asked_of c) (leading_of c) (given_of c) s

-- the items that are still to come
abbrev pub ahead : CommSearch → Subst → List Item
ahead c s = ahead_at c.stage (kept_table c) (all_items c s)

-- how much of the trail's room it takes at most
abbrev pub cost_of : CommSearch → ℕ
cost_of c = seek_cost (asked_of c) (leading_of c) (given_of c)

-- the search goes by the trail, which is that of the begin
pub record IsOver (c : CommSearch) (t : Trail) : Type 0 where
  pub asked : IsAsked (asked_of c)
  pub commutative : IsCommutative c.sig.now (plan_of c.plan).plan.pattern
  pub numbered : IsNumberedPlan (plan_of c.plan)
  pub leading : AllByRecursion (IsLeading c.sig.now) (leading_of c)
  pub given : AreGiven c.sig.now (plan_of c.plan).plan.pattern c.table.now (given_of c)
  pub room : IsRoomFor c.table.now 0 (nodes_below (plan_of c.plan).plan.pattern)
      (all_nodes (terms_at c.table.now (given_of c))) c.room
  pub grounds : AreGrounds c.table.now (subpatterns (plan_of c.plan).plan.pattern) c.room.grounds.list.items.items
  pub choices : HasRanks c.table.now c.room.choices.items
  pub picks : ArePicksOf c.table.now (terms_at c.table.now (given_of c)) c.room.width c.room.choices.items
      (leading_of c) c.room.picks.items
  pub picked : c.stage ≡ Standing → ArePicked (leading_of c) c.room.picks.items
  pub trail : IsTrailOf c.table.now t
  pub spare : cost_of c ≤ t.spare
  pub among : IsAmong c.stage (kept_table c) (all_items c (numbered_subst c.table.now t.stack))
