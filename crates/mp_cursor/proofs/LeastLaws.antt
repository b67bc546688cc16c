-- A second search over an item's substitution tells whether its table is the least; and which item has the table of a
-- token.
use Rattle.std.proofs.Common.{◌≡◌, ◌≤◌, List, [], Bool, true, false, ◌&&◌, length, map, refl, ap, sym, ◌∙◌, subst}
use Rattle.std.proofs.Common.{arith}
use Rattle.std.proofs.Math.Bool.{and-true}
use Rattle.std.specs.Prelude.{filter, Option, Some, None, slice_get, IsTrue, MatchBool, ◌↔◌}
use Rattle.std.specs.List.{AllByRecursion}
use Rattle.std.specs.Ordering.{is_eq}
use Rattle.std.proofs.lemmas.List.{length-map}
use Rattle.std.proofs.lemmas.Bool.{and_parts}
use Rattle.mp_term.specs.Search.{In}
use Rattle.mp_term.specs.Size.{node_count}
use Rattle.mp_term.proofs.SearchLaws.{from_in-filter, in-filter}
use Rattle.mp_pattern.specs.Admission.{meets}
use Rattle.mp_pattern.specs.CondTree.{Cond}
use Rattle.mp_pattern.specs.Fits as fits
use Rattle.mp_pattern.specs.DerivationOrder.{table_cmp}
use Rattle.mp_pattern.specs.Value.{Subst}
use Rattle.mp_table.specs.declared.rank.Rank.{Rank}
use Rattle.mp_table.specs.Table.{subject_of}
use Rattle.mp_theory.specs.Frames.{settle, start}
use Rattle.mp_theory.specs.OneList.{Item, same_subst}
use Rattle.mp_theory.proofs.ItemTables.{items-exact}
use Rattle.mp_theory.proofs.OneListLaws.{same_subst-itself}
use Rattle.mp_theory.proofs.SecondSearch.{second-search, least_item-tested}
use Rattle.mp_search.specs.declared.level.Level.{Level}
use Rattle.mp_search.specs.declared.mode.Mode.TheVariants.{First, At}
use Rattle.mp_search.specs.Levels.{take_of}
use Rattle.mp_search.specs.Reading.{table_of}
use Rattle.mp_search.proofs.FoundLaws.{filter-always}
use Rattle.mp_cursor.specs.declared.matched.Matched.{Matched}
use Rattle.mp_cursor.specs.Kept.{HaveRoom, AreHeldTakes}
use Rattle.mp_cursor.specs.Matched.{IsMatched, all_items, looked_for, sought}
use Rattle.mp_cursor.specs.Listing.{ReadAs}
use Rattle.mp_cursor.proofs.FilterLaws.{not-empty, both-true}
use Rattle.mp_cursor.proofs.ReaderLaws.{item-fits}
use Rattle.mp_cursor.proofs.SoughtLaws.{is_least, items-of-pattern, normal-subject, found-item}
use Rattle.mp_cursor.proofs.TableLaws.{IsShort, all-short, short-takes, short-room, table-takes, takes-same}
use Rattle.mp_cursor.proofs.TableLaws.{tables-equal, tables-itself, entry_from, read-takes}

module _ (m : Matched) where
  -- the takes of an item are short
  pub item-short : (W : fits.Table) (r : Subst) → In {X = Item} (W, r) (all_items m [])
      → AllByRecursion (IsShort (node_count (subject_of m.table.now))) W
  item-short W r k = all-short _ (node_count (subject_of m.table.now)) W (omega arith)
      (short-takes m.sig.now (length m.plan.now.nodes) (settle (start m.plan.now.pattern (subject_of m.table.now))) [] W
      r k)

  -- as many as there are nodes
  pub item-length : (W : fits.Table) (r : Subst) → In {X = Item} (W, r) (all_items m [])
      → length W ≡ length m.plan.now.nodes
  item-length W r k = ((items-exact m.sig.now (length m.plan.now.nodes)
      (settle (start m.plan.now.pattern (subject_of m.table.now))) [] W r).0 k).0

  -- no two items have one table
  pub item-unique : (W : fits.Table) (r q : Subst) → In {X = Item} (W, r) (all_items m [])
      → In {X = Item} (W, q) (all_items m []) → r ≡ q
  item-unique W r q k l =
      let n = settle (start m.plan.now.pattern (subject_of m.table.now)) in
      let a = ((items-exact m.sig.now (length m.plan.now.nodes) n [] W r).0 k).2 in
      let b = ((items-exact m.sig.now (length m.plan.now.nodes) n [] W q).0 l).2 in
      let e : Some r ≡ Some q = sym a ∙ b in cc

  module _ (h : IsMatched m) where
    -- over its substitution an item is found again
    found-again : (W : fits.Table) (s : Subst) → In {X = Item} (W, s) (all_items m [])
        → In {X = Item} (W, s) (all_items m s)
    found-again W s k =
        let p = m.plan.now.pattern in
        let t = subject_of m.table.now in
        subst (λ is. In {X = Item} (W, s) is)
        (ap (filter (λ i. same_subst s i.1)) (items-of-pattern m h [])
        ∙ sym (second-search m.sig.now p t (normal-subject m h) s W (item-fits m h (W, s) k))
        ∙ sym (items-of-pattern m h s))
        (in-filter (λ (i : Item). same_subst s i.1) (W, s) (all_items m []) k (same_subst-itself s))

    -- the table is the least where the first that is found again is the same
    pub least-test : (ls ms : List Level) (s u : Subst) (V : fits.Table) (a b : Bool)
        → AreHeldTakes m.table.now (map take_of ls) → AreHeldTakes m.table.now (map take_of ms)
        → In {X = Item} (table_of m.table.now ls, s) (all_items m [])
        → MatchBool b (slice_get (looked_for m None First V s) 0 ≡ Some (table_of m.table.now ms, u))
        (looked_for m None First V s ≡ [])
        → IsTrue a ↔ (map take_of ms ≡ map take_of ls)
        → a ≡ is_least m (table_of m.table.now ls, s)
    least-test ls ms s u V a b hl hm k found same =
        let t = m.table.now in
        let i : Item = (table_of t ls, s) in
        let j : Item = (table_of t ms, u) in
        let pass : looked_for m None First V s ≡ all_items m s =
        filter-always (λ (i : Item). true) (all_items m s) (λ i. refl) in
        let tested : slice_get (all_items m s) 0 ≡ Some j → is_least m i ≡ is_eq (table_cmp i.0 j.0) = λ e.
        least_item-tested m.sig.now m.plan.now.pattern (subject_of t) i j
        (subst (λ is. slice_get is 0 ≡ Some j) (items-of-pattern m h s) e) in
        let equal : a ≡ is_eq (table_cmp i.0 j.0) = both-true a (is_eq (table_cmp i.0 j.0)) (λ x.
        subst (λ W. is_eq (table_cmp i.0 W) ≡ true)
        (table-takes t ls ∙ sym (ap (map (entry_from t)) (same.0 x)) ∙ sym (table-takes t ms)) (tables-itself i.0))
        (λ e. same.1 (sym (takes-same t h.table (map take_of ls) (map take_of ms) hl hm
        (sym (table-takes t ls) ∙ tables-equal i.0 j.0 e ∙ table-takes t ms)))) in
        elim b as (λ c. MatchBool c (slice_get (looked_for m None First V s) 0 ≡ Some j)
        (looked_for m None First V s ≡ []) → a ≡ is_least m i) [
          | true ↦ λ f. equal ∙ sym (tested (subst (λ is. slice_get is 0 ≡ Some j) pass f))
          | false ↦ λ f. absurd (not-empty i (all_items m s) (found-again i.0 s k) (sym pass ∙ f))
        ] found

  -- a member of what is sought
  pub sought-member : (c : Option Cond) (V : fits.Table) (i : Item) → In i (sought m c First V)
      → In i (all_items m []) × (meets m.sig.now c i.1 ≡ true) × (is_least m i ≡ true)
  sought-member c V i k =
      let a = from_in-filter (is_least m) i (looked_for m c First V []) k in
      let b = from_in-filter (λ (j : Item). meets m.sig.now c j.1 && true) i (all_items m []) a.0 in
      (b.0, (and_parts (meets m.sig.now c i.1) true b.1).0, a.1)

  pub member-sought : (c : Option Cond) (V : fits.Table) (i : Item) → In i (all_items m [])
      → meets m.sig.now c i.1 ≡ true → is_least m i ≡ true → In i (sought m c First V)
  member-sought c V i k g l = in-filter (is_least m) i (looked_for m c First V [])
      (in-filter (λ (j : Item). meets m.sig.now c j.1 && true) i (all_items m []) k
      (and-true (meets m.sig.now c i.1) ∙ g)) l

  -- an item with the entries as its table is no item where the nodes can't take them
  pub read-fits : (ls : List Level) (es : List (List Rank × Bool)) (i : Item) → In i (all_items m [])
      → ReadAs m.table.now es i.0 → length ls ≡ length m.plan.now.nodes
      → AllByRecursion (λ n. node_count (subject_of m.table.now) ≤ n) (map (λ l. l.take.room) ls)
      → HaveRoom (map (λ l. l.take.room) ls) es × AreHeldTakes m.table.now es
  read-fits ls es i k r e a =
      let q = read-takes m.table.now es i.0 r in
      let n = length-map es (entry_from m.table.now) in
      let count : length es ≡ length i.0 = sym n ∙ ap length q.1 in (
        short-room (node_count (subject_of m.table.now)) m.table.now (map (λ l. l.take.room) ls) es
            (length-map ls (λ l. l.take.room) ∙ e ∙ sym (item-length i.0 i.1 k) ∙ sym count) a
            (subst (AllByRecursion (IsShort (node_count (subject_of m.table.now)))) (sym q.1) (item-short i.0 i.1 k)),
        q.0,
      )

  -- nor is it one where nothing is found at its table
  pub none-found : (c : Option Cond) (V W : fits.Table) (es : List (List Rank × Bool)) (i : Item)
      → W ≡ map (entry_from m.table.now) es → looked_for m c At W [] ≡ [] → In i (sought m c First V)
      → ReadAs m.table.now es i.0 → ⊥
  none-found c V W es i e none k r =
      let a = sought-member c V i k in
      let same : W ≡ i.0 = e ∙ (read-takes m.table.now es i.0 r).1 in
      not-empty i (looked_for m c At W [])
      (in-filter (λ (j : Item). meets m.sig.now c j.1 && is_eq (table_cmp W j.0)) i (all_items m []) a.0
      (ap (λ b. b && is_eq (table_cmp W i.0)) a.1
      ∙ subst (λ U. is_eq (table_cmp W U) ≡ true) same (tables-itself W))) none

  -- what is found there has that table
  pub found-at : (c : Option Cond) (W : fits.Table) (j : Item) → slice_get (looked_for m c At W []) 0 ≡ Some j
      → In j (all_items m []) × (meets m.sig.now c j.1 ≡ true) × (W ≡ j.0)
  found-at c W j e =
      let a = found-item m c At W [] j e in
      let b = and_parts (meets m.sig.now c j.1) (is_eq (table_cmp W j.0)) a.1 in
      (a.0, b.0, tables-equal W j.0 b.1)

  -- and where its table isn't the least, no item has it
  pub none-least : (c : Option Cond) (V W : fits.Table) (es : List (List Rank × Bool)) (i j : Item)
      → W ≡ map (entry_from m.table.now) es → In j (all_items m []) → W ≡ j.0 → is_least m j ≡ false
      → In i (sought m c First V) → ReadAs m.table.now es i.0 → ⊥
  none-least c V W es i j e kj same l k r =
      let a = sought-member c V i k in
      let table : i.0 ≡ j.0 = sym (read-takes m.table.now es i.0 r).1 ∙ sym e ∙ same in
      let one : i.1 ≡ j.1 =
      item-unique j.0 i.1 j.1 (subst (λ U. In {X = Item} (U, i.1) (all_items m [])) table a.0) kj in
      let q : is_least m i ≡ is_least m j = ap (λ U. is_least m (U, i.1)) table ∙ ap (λ s. is_least m (j.0, s)) one in
      let x : true ≡ false = sym a.2 ∙ q ∙ l in
      cc
