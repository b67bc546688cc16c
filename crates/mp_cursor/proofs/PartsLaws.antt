-- Parts with other levels.
use Rattle.std.proofs.Common.{◌≡◌, ◌≤◌, ◌*◌, ℕ, List, [], ◌∷◌, length, ap, sym, ◌∙◌, subst, arith}
use Rattle.std.specs.List.{AllByRecursion}
use Rattle.mp_term.specs.Size.{node_count}
use Rattle.mp_search.specs.declared.level.Level.{Level}
use Rattle.mp_pattern.specs.Subpatterns.{subpatterns}
use Rattle.mp_table.specs.Table.{Table, HasRanks, subject_of}
use Rattle.mp_subst.specs.Trail.{Trail, GoesWith, spare_at}
use Rattle.mp_search.specs.declared.grounds.Grounds.{Grounds}
use Rattle.mp_search.specs.Grounds.{AreGrounds}
use Rattle.mp_search.specs.Levels.{AreLevels, IsRoomy, IsOver, IsVacant, rooms_of}
use Rattle.mp_cursor.specs.declared.matched.Matched.{Matched}
use Rattle.mp_cursor.specs.declared.parts.Parts.{Parts}
use Rattle.mp_cursor.specs.Matched.{search_room}
use Rattle.mp_cursor.specs.Parts.{AreOver, AreRoomy, AreVacant}

pub with-levels : (m : Matched) (p q : Parts) (ls : List Level) → AreOver m p → q ≡ record p { levels = q.levels }
    → q.levels.items ≡ ls → length ls ≡ length p.levels.items
    → AreLevels m.table.now (node_count (subject_of m.table.now)) ls → AreOver m q
with-levels m p q ls o e i n a = subst (AreOver m) (sym e) (record {
  width = o.width;
  roomy = record {
    levels = ap length i ∙ n ∙ o.roomy.levels;
    kept = o.roomy.kept;
    kept_roomy = o.roomy.kept_roomy;
    trail = o.roomy.trail;
    second = o.roomy.second;
    numbered = o.roomy.numbered;
    start = o.roomy.start;
    grounds = o.roomy.grounds;
  };
  wide = o.wide;
  levels = subst (AreLevels m.table.now (node_count (subject_of m.table.now))) (sym i) a;
  trail = o.trail;
  whole = o.whole;
  spare = o.spare;
  grounds = o.grounds;
})

-- vacant levels are levels of each table
vacant-level : (t : Table) (n width : ℕ) (l : Level) → n ≤ width → IsVacant l → rooms_of l ≡ (width, width, width)
    → IsRoomy n l × IsOver t l
vacant-level t n width l h v r =
    let a : l.take.room ≡ width = ap (λ k. k.0) r in
    let b : l.pool.room ≡ width = ap (λ k. k.1) r in
    let d : l.rest.room ≡ width = ap (λ k. k.2) r in (
      (omega (arith, a, h), omega (arith, b, h), omega (arith, d, h)),
      (
        subst (HasRanks t) (sym (ap (λ k. k.0) v.take)) tt,
        subst (HasRanks t) (sym (ap (λ k. k.1) v.draws)) tt,
        subst (HasRanks t) (sym v.rest) tt,
      ),
    )

vacant-levels : (t : Table) (n width : ℕ) (ls : List Level) → n ≤ width → AllByRecursion IsVacant ls
    → AllByRecursion (λ l. rooms_of l ≡ (width, width, width)) ls → AreLevels t n ls
vacant-levels t n width [] h v r = tt
vacant-levels t n width (l ∷ ls) h v r =
    (vacant-level t n width l h v.0 r.0, vacant-levels t n width ls h v.1 r.1)

-- an empty trail goes with each table, and its whole room is left
empty-trail : (t : Table) (u : Trail) → u.stack ≡ [] → GoesWith t u
empty-trail t u e = record {
  values = subst (AllByRecursion _) (sym e) tt;
  variables = subst (AllByRecursion _) (sym e) tt;
}

empty-spare : (u : Trail) → u.stack ≡ [] → spare_at u 0 ≡ u.spare
empty-spare u e = ap (λ es. spare_at (record { vars = u.vars; room = u.room; spare = u.spare; stack = es }) 0) e

-- vacant parts are parts for each plan and table for which there is room
pub vacant-over : (m : Matched) (p : Parts) (g : Grounds) (nodes vars width : ℕ) → AreRoomy nodes vars width p
    → AreVacant width p → nodes ≡ length m.plan.now.nodes → vars ≡ length m.plan.now.variables
    → node_count (subject_of m.table.now) ≤ width → g.list.room ≡ p.grounds.list.room
    → AreGrounds m.table.now (subpatterns m.plan.now.pattern) g.list.items.items → AreOver m (record p { grounds = g })
vacant-over m p g nodes vars width r v a b w e gs =
    let n = node_count (subject_of m.table.now) in
    let whole : p.trail.spare ≡ 2 * search_room nodes width = v.spare ∙ r.trail in
    record {
      width = width;
      roomy = record {
        levels = r.levels ∙ a;
        kept = r.kept ∙ a;
        kept_roomy = r.kept_roomy;
        trail = r.trail ∙ ap (λ k. 2 * search_room k width) a;
        second = r.second ∙ ap (λ k. 2 * search_room k width) a;
        numbered = r.numbered ∙ b;
        start = r.start;
        grounds = omega (arith, r.grounds, a, e);
      };
      wide = w;
      levels = vacant-levels m.table.now n width p.levels.items w v.levels v.rooms;
      trail = empty-trail m.table.now p.trail v.trail;
      whole = empty-spare p.trail v.trail ∙ v.spare;
      spare = omega (arith, whole, a, w);
      grounds = gs;
    }
