-- One step of a search below a node.
use Rattle.std.proofs.Common.{◌≡◌, ◌≤◌, ◌+◌, List, [], length, drop, true, false, refl, ap, sym, ◌∙◌, subst, arith}
use Rattle.std.specs.Prelude.{Some, slice_get}
use Rattle.std.specs.Global.{Global}
use Rattle.std.specs.List.{AllByRecursion}
use Rattle.std.specs.Prelude.{Vec}
use Rattle.std.proofs.Math.Seq.{drop-length}
use Rattle.mp_term.specs.Search.{In}
use Rattle.mp_pattern.specs.Fits.{Table}
use Rattle.mp_pattern.specs.Subpatterns.{subpatterns}
use Rattle.mp_table.specs.Table.{terms_at}
use Rattle.mp_table.specs.declared.rank.Rank.{Rank}
use Rattle.mp_subst.specs.Trail.{Trail, GoesWith, cut}
use Rattle.mp_subst.proofs.TrailLaws.{cut-whole}
use Rattle.mp_theory.specs.OneList.{Item}
use Rattle.mp_search.specs.declared.level.Level.{Level}
use Rattle.mp_search.specs.declared.mode.Mode.{Mode}
use Rattle.mp_search.specs.declared.mode.Mode.TheVariants.{First, After}
use Rattle.mp_search.specs.At.{BindsOnly}
use Rattle.mp_search.specs.Grounds.{AreGrounds}
use Rattle.mp_search.specs.Levels.{AreLevels}
use Rattle.mp_search.specs.Wanted.{IsStanding}
use Rattle.mp_ac.specs.declared.asked.Asked.{Asked}
use Rattle.mp_ac.specs.declared.pick.Pick.{Pick}
use Rattle.mp_ac.specs.declared.room.CommRoom.{CommRoom}
use Rattle.mp_search.specs.declared.stage.Stage.{Stage}
use Rattle.mp_search.specs.declared.stage.Stage.TheVariants.{Before, Standing, Ended}
use Rattle.mp_ac.specs.Asked.{all_items, cost, levels_table, trail_subst}
use Rattle.mp_ac.specs.CommList.{behind_table}
use Rattle.mp_ac.specs.CommPlan.{nodes_below}
use Rattle.mp_ac.specs.Moved.{ahead_in, IsStandingAt, IsMoved}
use Rattle.mp_search.specs.Stage.{mode_at}
use Rattle.mp_ac.specs.Stage.{ahead_at, looked_for, IsAmong, IsOnward}
use Rattle.mp_ac.proofs.BehindLaws.{behind-in, first-in, table-in}

-- what is looked for at a stage are the items that are to come
pub looked-ahead : (stage : Stage) (mode : Mode) → Some mode ≡ mode_at stage → (W : Table) (is : List Item)
    → looked_for mode W is ≡ ahead_at stage W is
looked-ahead Before mode e W is = let m : mode ≡ First = cc in ap (λ n. looked_for n W is) m
looked-ahead Standing mode e W is = let m : mode ≡ After = cc in ap (λ n. looked_for n W is) m
looked-ahead Ended mode e W is = cc

pub onward : (stage : Stage) (mode : Mode) → Some mode ≡ mode_at stage → IsOnward mode
onward Before mode e = let m : First ≡ mode = cc in subst IsOnward m tt
onward Standing mode e = let m : After ≡ mode = cc in subst IsOnward m tt
onward Ended mode e = cc

-- the first of those that are to come is an item
pub ahead-in : (stage : Stage) (W : Table) (is : List Item) (i : Item) → slice_get (ahead_at stage W is) 0 ≡ Some i
    → In i is
ahead-in Before W is i e = first-in is i e
ahead-in Standing W is i e = behind-in W is i (first-in (behind_table W is) i e)
ahead-in Ended W is i e = cc

module _ (a : Asked) (rs : List Rank) (stage : Stage) (old : CommRoom) (t : Trail)
    (h : IsStandingAt a rs stage old t) where
  pub standing : (mode : Mode) → Some mode ≡ mode_at stage
      → IsStanding mode (levels_table a old.levels.items) (all_items a rs (trail_subst a t))
  standing mode e = by_stage stage h.among e
    where
      by_stage : (s : Stage) → IsAmong s (levels_table a old.levels.items) (all_items a rs (trail_subst a t))
          → Some mode ≡ mode_at s
          → IsStanding mode (levels_table a old.levels.items) (all_items a rs (trail_subst a t))
      by_stage Before k e = let m : First ≡ mode = cc in
          subst (λ n. IsStanding n (levels_table a old.levels.items) (all_items a rs (trail_subst a t))) m tt
      by_stage Standing k e = let m : After ≡ mode = cc in
          subst (λ n. IsStanding n (levels_table a old.levels.items) (all_items a rs (trail_subst a t))) m k
      by_stage Ended k e = cc

  -- nothing is to come where none is found
  pub none-look : (mode : Mode) → Some mode ≡ mode_at stage → (ls : List Level) → ls ≡ old.levels.items
      → looked_for mode (levels_table a ls) (all_items a rs (trail_subst a t)) ≡ []
      → ahead_in a rs stage old (trail_subst a t) ≡ []
  none-look mode e ls p none =
      sym (looked-ahead stage mode e (levels_table a ls) (all_items a rs (trail_subst a t))
      ∙ ap (λ l. ahead_at stage (levels_table a l) (all_items a rs (trail_subst a t))) p) ∙ none

  module _ (new : CommRoom) (same : new.grounds ≡ old.grounds) (wide : new.width ≡ old.width)
      (picks : new.picks ≡ old.picks)
      (count : length new.levels.items ≡ length old.levels.items)
      (levels : AreLevels a.table.now old.width new.levels.items) where
    -- with the new room a search stands where it is among the items
    stands-on : (next : Stage) → IsAmong next (levels_table a new.levels.items) (all_items a rs (trail_subst a t))
        → IsStandingAt a rs next new t
    stands-on next among = record {
      asked = h.asked;
      given = h.given;
      room = record {
        of_table = record {
          picks = subst (λ w. AllByRecursion (λ k. w ≤ k.rest.room) new.picks.items) (sym wide)
              (subst (λ (v : Vec Pick Global). AllByRecursion (λ k. old.width ≤ k.rest.room) v.items) (sym picks)
              h.room.of_table.picks);
          levels = subst (λ w. AreLevels a.table.now w new.levels.items) (sym wide) levels;
        };
        wide = omega (arith, h.room.wide, wide);
        children = omega arith;
        nodes = omega (arith, h.room.nodes, count);
        grounds = subst
            (λ g. nodes_below a.plan.now.pattern + 1 ≤ g.list.room) (sym same) h.room.grounds;
      };
      grounds = subst (λ g. AreGrounds a.table.now (subpatterns a.plan.now.pattern) g.list.items.items)
          (sym same) h.grounds;
      trail = h.trail;
      among = among;
    }

    -- an item is found
    pub moved-found : (u : Trail)
        → slice_get (ahead_in a rs stage old (trail_subst a t)) 0
        ≡ Some (levels_table a new.levels.items, trail_subst a u)
        → behind_table (levels_table a new.levels.items) (all_items a rs (trail_subst a t))
        ≡ drop 1 (ahead_in a rs stage old (trail_subst a t))
        → cut (length t.stack) u ≡ t → BindsOnly a.vars.now t u
        → t.spare ≤ u.spare + cost a.plan.now.pattern (terms_at a.table.now rs) → GoesWith a.table.now u
        → IsMoved a rs stage old t true new u
    moved-found u first rest kept only spare goes =
        let all = all_items a rs (trail_subst a t) in
        let found : Item = (levels_table a new.levels.items, trail_subst a u) in
        record {
          first = (first, rest);
          stands = stands-on Standing
              (table-in all found (ahead-in stage (levels_table a old.levels.items) all found first));
          count = count;
          kept = kept;
          only = only;
          spare = spare;
          goes = goes;
        }

    -- so it is where it is looked for in a copy of the levels
    pub moved-look : (mode : Mode) → Some mode ≡ mode_at stage → (ls ks : List Level) → ls ≡ old.levels.items
        → new.levels.items ≡ ks → (u : Trail)
        → (slice_get (looked_for mode (levels_table a ls) (all_items a rs (trail_subst a t))) 0
        ≡ Some (levels_table a ks, trail_subst a u))
        × (behind_table (levels_table a ks) (all_items a rs (trail_subst a t))
        ≡ drop 1 (looked_for mode (levels_table a ls) (all_items a rs (trail_subst a t))))
        → cut (length t.stack) u ≡ t → BindsOnly a.vars.now t u
        → t.spare ≤ u.spare + cost a.plan.now.pattern (terms_at a.table.now rs) → GoesWith a.table.now u
        → IsMoved a rs stage old t true new u
    moved-look mode e ls ks p q u found =
        let all = all_items a rs (trail_subst a t) in
        let o : looked_for mode (levels_table a ls) all ≡ ahead_in a rs stage old (trail_subst a t) =
        looked-ahead stage mode e (levels_table a ls) all ∙ ap (λ l. ahead_at stage (levels_table a l) all) p in
        moved-found u
        (ap (λ is. slice_get is 0) (sym o) ∙ found.0 ∙ ap (λ l. Some (levels_table a l, trail_subst a u)) (sym q))
        (ap (λ l. behind_table (levels_table a l) all) q ∙ found.1 ∙ ap (drop 1) o)

    -- none is found, and the trail is as it was
    pub moved-not : (u : Trail) → ahead_in a rs stage old (trail_subst a t) ≡ [] → u ≡ t
        → IsMoved a rs stage old t false new u
    moved-not u none back = subst (IsMoved a rs stage old t false new) (sym back) (record {
      first = (none, refl);
      stands = stands-on Ended tt;
      count = count;
      kept = cut-whole t;
      only = subst (AllByRecursion (λ e. In e.var a.vars.now)) (sym (drop-length t.stack)) tt;
      spare = omega arith;
      goes = h.trail.goes;
    })
