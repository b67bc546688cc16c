-- Where a search below a node stands, and what one step on does.
use Rattle.std.specs.Prelude.{◌≡◌, ◌≤◌, ◌+◌, Bool, List, [], drop, length, slice_get, Some, MatchBool}
use Rattle.mp_term.specs.Size.{all_nodes}
use Rattle.mp_pattern.specs.Subpatterns.{subpatterns}
use Rattle.mp_pattern.specs.Value.{Subst}
use Rattle.mp_table.specs.Table.{terms_at}
use Rattle.mp_table.specs.declared.rank.Rank.{Rank}
use Rattle.mp_subst.specs.Trail.{Trail, GoesWith, cut}
use Rattle.mp_theory.specs.OneList.{Item}
use Rattle.mp_search.specs.At.{BindsOnly}
use Rattle.mp_search.specs.Grounds.{AreGrounds}
use Rattle.mp_ac.specs.declared.asked.Asked.{Asked}
use Rattle.mp_ac.specs.declared.room.CommRoom.{CommRoom}
use Rattle.mp_search.specs.declared.stage.Stage.{Stage}
use Rattle.mp_ac.specs.Asked.{IsAsked, AreGiven, IsTrailFor, all_items, cost, levels_table, trail_subst}
use Rattle.mp_ac.specs.CommPlan.{nodes_below}
use Rattle.mp_ac.specs.CommRoom.{IsRoomFor}
use Rattle.mp_ac.specs.Stage.{ahead_at, IsAmong, stage_after}

module _ (a : Asked) (rs : List Rank) where
  -- the items that are still to come over the substitution
  abbrev pub ahead_in : Stage → CommRoom → Subst → List Item
  ahead_in stage r s = ahead_at stage (levels_table a r.levels.items) (all_items a rs s)

  -- what a search counts on at a stage, with this room, over this trail
  pub record IsStandingAt (stage : Stage) (r : CommRoom) (t : Trail) : Type 0 where
    pub asked : IsAsked a
    pub given : AreGiven a.sig.now a.plan.now.pattern a.table.now rs
    pub room : IsRoomFor a.table.now 0 (nodes_below a.plan.now.pattern) (all_nodes (terms_at a.table.now rs)) r
    pub grounds : AreGrounds a.table.now (subpatterns a.plan.now.pattern) r.grounds.list.items.items
    pub trail : IsTrailFor a.vars.now a.plan.now.pattern a.table.now rs t
    pub among : IsAmong stage (levels_table a r.levels.items) (all_items a rs (trail_subst a t))

  -- of the items that are to come, the first one is found and taken off, and the new trail has its substitution; or
  -- there is none, and the trail is the old one
  abbrev pub IsFirstOf : List Item → Bool → CommRoom → Trail → Trail → Type 0
  IsFirstOf is found r t u =
      MatchBool found
      ((slice_get is 0 ≡ Some (levels_table a r.levels.items, trail_subst a u))
      × (ahead_in (stage_after found) r (trail_subst a t) ≡ drop 1 is))
      ((is ≡ []) × (u ≡ t))

  -- one step: the search stands there, or at its end; the new trail lies over the old one, binds variables of the plan
  -- alone, and takes no more of the room than it may
  pub record IsMoved (stage : Stage) (old : CommRoom) (t : Trail) (found : Bool) (new : CommRoom)
      (u : Trail) : Type 0 where
    pub first : IsFirstOf (ahead_in stage old (trail_subst a t)) found new t u
    pub stands : IsStandingAt (stage_after found) new t
    pub count : length new.levels.items ≡ length old.levels.items
    pub kept : cut (length t.stack) u ≡ t
    pub only : BindsOnly a.vars.now t u
    pub spare : t.spare ≤ u.spare + cost a.plan.now.pattern (terms_at a.table.now rs)
    pub goes : GoesWith a.table.now u
