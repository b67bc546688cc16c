-- What a search keeps from item to item, and the entries of the item at which it stands.
use Rattle.std.proofs.Common.{◌≡◌, ◌≤◌, ◌<◌, ◌+◌, ℕ, List, [], ◌∷◌, ◌++◌, map, take, length, Bool, true, false, refl}
use Rattle.std.proofs.Common.{ap, sym, ◌∙◌, subst, arith}
use Rattle.std.specs.Prelude.{IsTrue, Some, None, Vec, slice_get, slice_index_or}
use Rattle.std.specs.Global.{Global}
use Rattle.std.specs.List.{AllByRecursion}
use Rattle.std.proofs.lemmas.List.{length-take-le}
use Rattle.mp_term.specs.Search.{In}
use Rattle.mp_term.specs.Tree.{Tree}
use Rattle.mp_term.proofs.ListLaws.{all-map}
use Rattle.mp_pattern.specs.Fits as fits
use Rattle.mp_pattern.specs.Value.{Subst}
use Rattle.mp_pattern.proofs.ItemLaws.{slice_get-found, slice_get-second}
use Rattle.mp_table.specs.Table.{terms_at}
use Rattle.mp_table.specs.declared.rank.Rank.{Rank}
use Rattle.mp_subst.specs.Trail.{Trail, cut}
use Rattle.mp_subst.proofs.TrailLaws.{cut-whole}
use Rattle.mp_theory.specs.OneList.{Item, item_tables}
use Rattle.mp_search.specs.declared.level.Level.{Level}
use Rattle.mp_search.specs.declared.mode.Mode.{Mode}
use Rattle.mp_search.specs.declared.stage.Stage.{Stage}
use Rattle.mp_search.specs.declared.stage.Stage.TheVariants.{Standing, Ended}
use Rattle.mp_search.specs.Levels.{AreLevels}
use Rattle.mp_search.specs.Reading.{entry_of, table_of}
use Rattle.mp_search.specs.Stage.{mode_at}
use Rattle.mp_ac.specs.Asked.{root_list}
use Rattle.mp_ac.specs.CommPlan.{nodes_below}
use Rattle.mp_ac.specs.Numbered.{numbered_subst}
use Rattle.mp_ac.specs.Planned.{plan_of}
use Rattle.mp_ac.specs.Search.{IsOver, all_items, given_of, item_table, kept_table, leading_of, table_at}
use Rattle.mp_ac.specs.Seek.{ArePicked, ArePicksOf, AreTaken, IsFoundOf, picks_table, with_children}
use Rattle.mp_ac.specs.Stage.{IsAmong, stage_after}
use Rattle.mp_ac.specs.declared.comm_plan.CommPlan.{CommPlan}
use Rattle.mp_ac.specs.declared.pick.Pick.{Pick}
use Rattle.mp_ac.specs.declared.search.CommSearch.{CommSearch}
use Rattle.mp_ac.proofs.BehindLaws.{table-in}
use Rattle.mp_ac.proofs.LevelEntries.{level-at, level-behind}
use Rattle.mp_ac.proofs.MovedLaws.{ahead-in, looked-ahead}
use Rattle.mp_ac.proofs.PickedLaws.{picks-taken}

-- what holds of what items become
pub all-mapped : {X Y : Type 0} (P : Y → Type 0) (f : X → Y) (xs : List X) → AllByRecursion P (map f xs)
    → AllByRecursion (λ x. P (f x)) xs
all-mapped P f [] h = tt
all-mapped P f (x ∷ xs) h = (h.0, all-mapped P f xs h.1)

-- up to where it was cut a trail is the same, however often it is cut there
pub cut-again : (n : ℕ) (t u : Trail) → n ≤ length t.stack → cut (length (cut n t).stack) u ≡ cut n t
    → cut n u ≡ cut n t
cut-again n t u h e = ap (λ k. cut k u) (sym (length-take-le n t.stack h)) ∙ e

pub cut-twice : (n : ℕ) (t u : Trail) → n ≤ length t.stack → u ≡ cut n t → cut n u ≡ cut n t
cut-twice n t u h e = ap (cut n) e ∙ ap (λ k. cut k (cut n t)) (sym (length-take-le n t.stack h)) ∙ cut-whole (cut n t)

-- the first of the items that are looked for is an item
found-in : (stage : Stage) (mode : Mode) → Some mode ≡ mode_at stage → (W V : fits.Table) (is : List Item)
    (s : Subst) → IsFoundOf mode W V is s true → In V (item_tables is)
found-in stage mode e W V is s h =
    let r = h.0.0 in
    table-in is (V, r) (ahead-in stage W is (V, r)
    (sym (ap (λ l. slice_get l 0) (looked-ahead stage mode e W is)) ∙ h.0.1))

module _ (c : CommSearch) (t : Trail) (over : IsOver c t) where
  -- the search with other picks and levels, at another stage
  abbrev pub moved : Vec Pick Global → Vec Level Global → Stage → CommSearch
  moved ks ls s = record {
    sig = c.sig;
    table = c.table;
    children = c.children;
    plan = c.plan;
    args = c.args;
    owes = c.owes;
    room = record {
      width = c.room.width;
      choices = c.room.choices;
      picks = ks;
      levels = ls;
      grounds = c.room.grounds;
    };
    mark = c.mark;
    stage = s;
  }

  over-moved : (ks : Vec Pick Global) (ls : Vec Level Global) (s : Stage)
      → map (λ k. k.rest.room) ks.items ≡ map (λ k. k.rest.room) c.room.picks.items
      → ArePicksOf c.table.now (terms_at c.table.now (given_of c)) c.room.width c.room.choices.items (leading_of c)
      ks.items
      → length ls.items ≡ length c.room.levels.items → AreLevels c.table.now c.room.width ls.items
      → (s ≡ Standing → ArePicked (leading_of c) ks.items)
      → IsAmong s (kept_table (moved ks ls s)) (all_items c (numbered_subst c.table.now t.stack))
      → IsOver (moved ks ls s) t
  over-moved ks ls s rooms picks count levels stands among = record {
    asked = over.asked;
    commutative = over.commutative;
    numbered = over.numbered;
    leading = over.leading;
    given = over.given;
    room = record {
      of_table = record {
        picks = all-mapped (λ n. c.room.width ≤ n) (λ (k : Pick). k.rest.room) ks.items
            (subst (AllByRecursion (λ n. c.room.width ≤ n)) (sym rooms)
            (all-map (λ (k : Pick). c.room.width ≤ k.rest.room) (λ n. c.room.width ≤ n) (λ (k : Pick). k.rest.room)
            (λ k h. h) c.room.picks.items over.room.of_table.picks));
        levels = levels;
      };
      wide = over.room.wide;
      children = omega arith;
      nodes = omega (arith, over.room.nodes, count);
      grounds = over.room.grounds;
    };
    grounds = over.grounds;
    choices = over.choices;
    picks = picks;
    picked = stands;
    trail = over.trail;
    spare = over.spare;
    among = among;
  }

  module _ (q : CommPlan) (plan : q ≡ plan_of c.plan) (cs : List Rank) (choices : cs ≡ c.room.choices.items)
      (rs : List Rank) (given : rs ≡ given_of c) (u : Trail) (trail : u ≡ t) where
    -- a table of the search, and all its items, by what it was asked with
    abbrev table_by : List Pick → List Level → fits.Table
    table_by ks ls = picks_table c.table.now cs (leading_of c) ks
        ++ table_of c.table.now (take (nodes_below q.plan.pattern) ls)

    abbrev items_by : List Item
    items_by = root_list c.sig.now (with_children (leading_of c) q.plan.pattern) (terms_at c.table.now rs) c.owes
        (numbered_subst c.table.now u.stack)

    items-are : items_by ≡ all_items c (numbered_subst c.table.now t.stack)
    items-are = ap (λ (w : CommPlan). root_list c.sig.now (with_children (leading_of c) w.plan.pattern)
        (terms_at c.table.now rs) c.owes (numbered_subst c.table.now u.stack)) plan
        ∙ ap (λ ss. root_list c.sig.now (with_children (leading_of c) (plan_of c.plan).plan.pattern)
        (terms_at c.table.now ss) c.owes (numbered_subst c.table.now u.stack)) given
        ∙ ap (λ (v : Trail). all_items c (numbered_subst c.table.now v.stack)) trail

    table-is : (ks : Vec Pick Global) (ls : Vec Level Global) (s : Stage)
        → table_by ks.items ls.items ≡ kept_table (moved ks ls s)
    table-is ks ls s = ap (λ (w : CommPlan). picks_table c.table.now cs (leading_of c) ks.items
        ++ table_of c.table.now (take (nodes_below w.plan.pattern) ls.items)) plan
        ∙ ap (λ ds. picks_table c.table.now ds (leading_of c) ks.items
        ++ table_of c.table.now (take (nodes_below (plan_of c.plan).plan.pattern) ls.items)) choices

    -- the search after a step, which finds these picks and levels
    pub over-next : (ks : Vec Pick Global) (ls : Vec Level Global) (old xs : List Pick) (ys : List Level)
        → old ≡ c.room.picks.items → ks.items ≡ xs → ls.items ≡ ys → (found : Bool) (s : Stage)
        → s ≡ stage_after found → map (λ k. k.rest.room) xs ≡ map (λ k. k.rest.room) old
        → ((us : List Tree) → ArePicksOf c.table.now us c.room.width cs (leading_of c) old
        → ArePicksOf c.table.now us c.room.width cs (leading_of c) xs)
        → length ys ≡ length c.room.levels.items → AreLevels c.table.now c.room.width ys
        → (IsTrue found → ArePicked (leading_of c) xs)
        → (mode : Mode) → Some mode ≡ mode_at c.stage → (W : fits.Table) (r : Subst)
        → IsFoundOf mode W (table_by xs ys) items_by r found
        → IsOver (moved ks ls s) t
    over-next ks ls old xs ys o p l found s e rooms picks count levels stands mode m W r h =
        over-moved ks ls s
        (ap (map (λ (k : Pick). k.rest.room)) p ∙ rooms ∙ ap (map (λ (k : Pick). k.rest.room)) o)
        (subst (λ ds. ArePicksOf c.table.now us c.room.width ds (leading_of c) ks.items) choices
        (subst (ArePicksOf c.table.now us c.room.width cs (leading_of c)) (sym p)
        (picks us (subst (ArePicksOf c.table.now us c.room.width cs (leading_of c)) (sym o)
        (subst (λ ds. ArePicksOf c.table.now us c.room.width ds (leading_of c) c.room.picks.items) (sym choices)
        over.picks)))))
        (ap length l ∙ count) (subst (AreLevels c.table.now c.room.width) (sym l) levels)
        (by_found found e stands h).0 (by_found found e stands h).1
      where
        us : List Tree
        us = terms_at c.table.now (given_of c)

        V : fits.Table
        V = kept_table (moved ks ls s)

        is : List Item
        is = all_items c (numbered_subst c.table.now t.stack)

        table-kept : table_by xs ys ≡ V
        table-kept = ap (λ x. table_by x ys) (sym p) ∙ ap (table_by ks.items) (sym l) ∙ table-is ks ls s

        by_found : (b : Bool) → s ≡ stage_after b → (IsTrue b → ArePicked (leading_of c) xs)
            → IsFoundOf mode W (table_by xs ys) items_by r b
            → (s ≡ Standing → ArePicked (leading_of c) ks.items) × IsAmong s V is
        by_found true e k h = (
          λ _. subst (ArePicked (leading_of c)) (sym p) (k refl),
          subst (λ x. IsAmong x V is) (sym e)
              (subst (λ js. In V (item_tables js)) items-are
              (subst (λ T. In T (item_tables items_by)) table-kept
              (found-in c.stage mode m W (table_by xs ys) items_by r h))),
        )
        by_found false e k h = (
          λ x. (let n : Standing ≡ Ended = sym x ∙ e in cc),
          subst (λ x. IsAmong x V is) (sym e) tt,
        )

  -- where it stands each child takes what is picked
  pub over-taken : c.stage ≡ Standing → AreTaken c.table.now c.room.choices.items (leading_of c) c.room.picks.items
  over-taken e = picks-taken c.table.now c.room.choices.items (terms_at c.table.now (given_of c)) c.room.width
      (leading_of c) c.room.picks.items over.picks (over.picked e)

  module _ (stands : c.stage ≡ Standing) (node : ℕ) where
    -- the entries are those of the picks and those of the levels
    abbrev first_ones : fits.Table
    first_ones = picks_table c.table.now c.room.choices.items (leading_of c) c.room.picks.items

    abbrev other_ones : fits.Table
    other_ones = table_of c.table.now (take (nodes_below (plan_of c.plan).plan.pattern) c.room.levels.items)

    item-table : item_table c ≡ first_ones ++ other_ones
    item-table = ap (λ s. table_at s (kept_table c)) stands

    pub entry-first : (e : fits.Entry) → slice_get first_ones node ≡ Some e → Some e ≡ slice_get (item_table c) node
    entry-first e h =
        sym (ap (λ T. slice_get T node) item-table ∙ slice_get-found first_ones other_ones node e h)

    module _ (left : ℕ) (e : left + length first_ones ≡ node) where
      other-entry : slice_get (item_table c) node ≡ slice_get other_ones left
      other-entry = ap (λ T. slice_get T node) item-table ∙ slice_get-second first_ones other_ones left node
          (omega (arith, e))

      pub entry-none : nodes_below (plan_of c.plan).plan.pattern ≤ left → None ≡ slice_get (item_table c) node
      entry-none h = sym (other-entry ∙ level-behind c.table.now (nodes_below (plan_of c.plan).plan.pattern)
          c.room.levels.items left h)

      pub entry-other : (l : Level) → left < nodes_below (plan_of c.plan).plan.pattern
          → l ≡ slice_index_or c.room.levels.items left l
          → Some (entry_of c.table.now l) ≡ slice_get (item_table c) node
      entry-other l h k = sym (other-entry ∙ level-at c.table.now (nodes_below (plan_of c.plan).plan.pattern)
          c.room.levels.items left l h over.room.nodes k)
