-- What is found at a node, by what is found behind its entries.
use Rattle.std.proofs.Common.{◌≡◌, ℕ, suc, ◌<◌, ◌≤◌, ◌-◌, List, [], ◌∷◌, ◌++◌, take, drop, length, Bool, true, false}
use Rattle.std.proofs.Common.{ap, sym, ◌∙◌, subst, arith}
use Rattle.std.specs.Prelude.{filter, flat_map, Some, None, slice_get, MatchBool, IsTrue, ⊤}
use Rattle.std.specs.List.{AllByRecursion}
use Rattle.std.specs.List.Sorted.{IsStrictlySortedBy}
use Rattle.mp_term.specs.Search.{In}
use Rattle.mp_pattern.specs.DerivationOrder.{entry_cmp}
use Rattle.mp_pattern.specs.Fits.{Entry, Table}
use Rattle.mp_pattern.specs.Value.{Subst}
use Rattle.mp_pattern.specs.View.{pattern_tree}
use Rattle.mp_theory.specs.Solve.{solve}
use Rattle.mp_theory.specs.Frames.{Next}
use Rattle.mp_theory.specs.Items.{items, items_by, above_entry, LeadsTo}
use Rattle.mp_theory.specs.Machine.{onward, said, choices}
use Rattle.mp_theory.specs.OneList.{Item, item_tables}
use Rattle.mp_theory.specs.Trail.{allows, listed_by}
use Rattle.mp_theory.proofs.Tables.{choices-ascending}
use Rattle.mp_theory.proofs.TrailLaws.{choice-allowed}
use Rattle.mp_search.specs.declared.level.Level.{Level}
use Rattle.mp_search.specs.declared.mode.Mode.{Mode}
use Rattle.mp_search.specs.declared.mode.Mode.TheVariants.{First, After, At}
use Rattle.mp_search.specs.declared.query.Query.{Query}
use Rattle.mp_search.specs.declared.stack.Place.{Place}
use Rattle.mp_search.specs.Frames.{place_after, inner_of, stack_frames}
use Rattle.mp_search.specs.Levels.{IsDrawable}
use Rattle.mp_search.specs.OneWay.{IsToldWithin}
use Rattle.mp_search.specs.Query.{width}
use Rattle.mp_search.specs.Reading.{table_of, entry_at}
use Rattle.mp_search.specs.Tried.{to_try}
use Rattle.mp_search.specs.Wanted.{wanted, good, IsStanding, AreComplete}
use Rattle.mp_search.specs.At.{IsAt, IsDrawn, KeepsLevels, drawn_at, draws_at, own_at, items_from, items_with}
use Rattle.mp_search.proofs.FoundLaws.{wanted-first, above-same, after-one, at-one, at-none, first-append}
use Rattle.mp_search.proofs.LevelsLaws.{table-from, entry-kept}
use Rattle.mp_search.proofs.OneWayLaws.{none-told}
use Rattle.mp_search.proofs.StandingLaws.{standing-begins, Begins, complete-by}
use Rattle.mp_search.proofs.TriedLaws.{drawn-kept, tried-above, moved-first, moved-above, tried-first}

-- levels with the same front have the same items
pub items-kept : (q : Query) (k : ℕ) (old new : List Level) (s : Subst) → take k new ≡ take k old
    → length new ≡ length old → items_from q k new s ≡ items_from q k old s
items-kept q k old new s f m = ap (λ ls. items q.sig.now (length new - k) (place_after q ls) s) f
    ∙ ap (λ j. items q.sig.now (j - k) (place_after q (take k old)) s) m

behind-kept : (q : Query) (k : ℕ) (old new : List Level) (s : Subst) (es : List Entry) → take k new ≡ take k old
    → length new ≡ length old → flat_map (items_with q k new s) es ≡ flat_map (items_with q k old s) es
behind-kept q k old new s es f m =
    ap (λ ls. flat_map (items_by q.sig.now (length new - suc k) (place_after q ls) s) es) f
    ∙ ap (λ j. flat_map (items_by q.sig.now (j - suc k) (place_after q (take k old)) s) es) m

-- so what is drawn leads to the same
pub drawn-same : (q : Query) (p : Place) (k : ℕ) (old new : List Level) (s : Subst) → IsDrawn q p old k s
    → take k new ≡ take k old → draws_at new k ≡ draws_at old k → IsDrawn q p new k s
drawn-same q p k old new s h f d =
    let es : drawn_at q p old k ≡ drawn_at q p new k = sym (drawn-kept q p k old new f d) in
    record {
      leads = subst
          (λ ls. LeadsTo q.sig.now (place_after q ls) s (drawn_at q p new k) (choices q.sig.now (place_after q ls)))
          (sym f)
          (subst (λ ds. LeadsTo q.sig.now (place_after q (take k old)) s ds
          (choices q.sig.now (place_after q (take k old)))) es h.leads);
      choices = subst (λ ls. AllByRecursion (λ e. In e (choices q.sig.now (place_after q ls))) (drawn_at q p new k))
          (sym f)
          (subst (AllByRecursion (λ e. In e (choices q.sig.now (place_after q (take k old))))) es h.choices);
      ascending = subst (IsStrictlySortedBy entry_cmp) es h.ascending;
      pool = subst
          (λ o. elim o as (λ _. Type 0) [ None ↦ ⊤ | Some w ↦ (length w.1 ≤ width q) × IsDrawable w.0 w.1 ]) (sym d)
          h.pool;
    }

module _ (q : Query) (k : ℕ) (L : List Level) (s : Subst) (within : k < length L) where
  abbrev n : Next
  n = place_after q (take k L)

  abbrev j : ℕ
  j = length L - suc k

  abbrev e : Entry
  e = entry_at q.table.now L k

  abbrev W : Table
  W = table_of q.table.now (drop (suc k) L)

  abbrev by : Entry → List Item
  by = items_with q k L s

  abbrev rests : Entry → List Item
  rests d = listed_by (λ r. items q.sig.now j (onward n d) r) (solve q.sig.now s (said n d))

  more : length L - k ≡ suc j
  more = omega (arith, within)

  -- the items by the choices of the node
  unrolled : items_from q k L s ≡ flat_map by (choices q.sig.now n)
  unrolled = ap (λ x. items q.sig.now x n s) more

  ascending : IsStrictlySortedBy entry_cmp (choices q.sig.now n)
  ascending = choices-ascending q.sig.now n

  here : table_of q.table.now (drop k L) ≡ e ∷ W
  here = table-from q.table.now L k within

  -- an entry that may not stand there is that of no table
  pub at-other : (m : Mode) → m ≡ At → allows q.sig.now n e ≡ false
      → wanted q m (table_of q.table.now (drop k L)) (items_from q k L s) ≡ []
  at-other m i h =
      ap (λ m. wanted q m (table_of q.table.now (drop k L)) (items_from q k L s)) i
      ∙ ap (λ V. wanted q At V (items_from q k L s)) here ∙ ap (wanted q At (e ∷ W)) unrolled
      ∙ at-none q rests e W (choices q.sig.now n)
      (λ x. let y : false ≡ true = sym h ∙ (choice-allowed q.sig.now n e).0 x in cc)

  -- else the tables that begin with it are behind it
  pub at-entry : (m : Mode) → m ≡ At → allows q.sig.now n e ≡ true
      → wanted q m (table_of q.table.now (drop k L)) (by e)
      ≡ wanted q m (table_of q.table.now (drop k L)) (items_from q k L s)
  at-entry m i h =
      ap (λ m. wanted q m (table_of q.table.now (drop k L)) (by e)) i
      ∙ ap (λ V. wanted q At V (by e)) here
      ∙ sym (at-one q rests e W (choices q.sig.now n) ascending ((choice-allowed q.sig.now n e).1 h))
      ∙ ap (wanted q At (e ∷ W)) (sym unrolled) ∙ ap (λ V. wanted q At V (items_from q k L s)) (sym here)
      ∙ ap (λ m. wanted q m (table_of q.table.now (drop k L)) (items_from q k L s)) (sym i)

  -- what the table at hand says of its first entry
  pub begins : (m : Mode) → m ≡ After → IsStanding m (table_of q.table.now (drop k L)) (items_from q k L s)
      → Begins q.sig.now j n s e W
  begins m i h =
      standing-begins q.sig.now j n s e W
      (subst (λ is. In (e ∷ W) (item_tables is)) (ap (λ x. items q.sig.now x n s) more)
      (subst (λ V. In V (item_tables (items_from q k L s))) here
      (subst (λ m. IsStanding m (table_of q.table.now (drop k L)) (items_from q k L s)) i h)))

  pub standing-entry : (m : Mode) → m ≡ After → Begins q.sig.now j n s e W
      → IsStanding m (table_of q.table.now (drop k L)) (by e)
  standing-entry m i h = subst (λ m. IsStanding m (table_of q.table.now (drop k L)) (by e)) (sym i)
      (subst (λ V. In V (item_tables (by e))) (sym here) h.behind)

  pub standing-at : (m : Mode) → m ≡ At → IsStanding m (table_of q.table.now (drop k L)) (by e)
  standing-at m i = subst (λ m. IsStanding m (table_of q.table.now (drop k L)) (by e)) (sym i) tt

  pub complete-entry : allows q.sig.now n e ≡ true → AreComplete q (items_from q k L s) → AreComplete q (by e)
  complete-entry h c = complete-by q j n s e (choices q.sig.now n) ((choice-allowed q.sig.now n e).1 h)
      (subst (AreComplete q) unrolled c)

  -- after the table at hand come those behind its entry, and then those behind the entries above it
  after : (m : Mode) → m ≡ After → allows q.sig.now n e ≡ true
      → wanted q m (table_of q.table.now (drop k L)) (items_from q k L s)
      ≡ wanted q m (table_of q.table.now (drop k L)) (by e)
      ++ filter (good q) (flat_map by (above_entry e (choices q.sig.now n)))
  after m i h =
      ap (λ m. wanted q m (table_of q.table.now (drop k L)) (items_from q k L s)) i
      ∙ ap (λ V. wanted q After V (items_from q k L s)) here ∙ ap (wanted q After (e ∷ W)) unrolled
      ∙ after-one q rests e W (choices q.sig.now n) ascending ((choice-allowed q.sig.now n e).1 h)
      ∙ ap (λ V. wanted q After V (by e) ++ filter (good q) (flat_map by (above_entry e (choices q.sig.now n))))
      (sym here)
      ∙ ap
      (λ m. wanted q m (table_of q.table.now (drop k L)) (by e)
      ++ filter (good q) (flat_map by (above_entry e (choices q.sig.now n)))) (sym i)

  -- nothing comes where there are no entries above
  pub after-last : (m : Mode) → m ≡ After → allows q.sig.now n e ≡ true
      → wanted q m (table_of q.table.now (drop k L)) (by e) ≡ [] → above_entry e (choices q.sig.now n) ≡ []
      → wanted q m (table_of q.table.now (drop k L)) (items_from q k L s) ≡ []
  after-last m i h none last = after m i h
      ∙ ap (λ is. is ++ filter (good q) (flat_map by (above_entry e (choices q.sig.now n)))) none
      ∙ ap (λ es. filter (good q) (flat_map by es)) last

  -- or where the trail tells of the child what it takes
  pub after-told : (m : Mode) (p : Place) → m ≡ After → IsAt q (take k L) p
      → IsToldWithin q.sig.now s (pattern_tree p.child.now)
      → IsStanding m (table_of q.table.now (drop k L)) (items_from q k L s)
      → wanted q m (table_of q.table.now (drop k L)) (by e) ≡ []
      → wanted q m (table_of q.table.now (drop k L)) (items_from q k L s) ≡ []
  after-told m p i at told h none =
      subst (λ V. wanted q m V (items_from q k L s) ≡ []) (sym here)
      (subst (λ x. wanted q m (e ∷ W) (items q.sig.now x n s) ≡ []) (sym more)
      (none-told q m j n (pattern_tree p.child.now) (inner_of q (take k L) p)
      (stack_frames q (take k L) p.outer.now) s e W at.stands i told
      (subst (λ x. IsStanding m (e ∷ W) (items q.sig.now x n s)) more
      (subst (λ V. IsStanding m V (items_from q k L s)) here h))
      (subst (λ V. wanted q m V (by e) ≡ []) here none)))

  pub after-found : (m : Mode) (x : Item) → m ≡ After → allows q.sig.now n e ≡ true
      → slice_get (wanted q m (table_of q.table.now (drop k L)) (by e)) 0 ≡ Some x
      → slice_get (wanted q m (table_of q.table.now (drop k L)) (items_from q k L s)) 0 ≡ Some x
  after-found m x i h f = ap (λ is. slice_get is 0) (after m i h)
      ∙ first-append (wanted q m (table_of q.table.now (drop k L)) (by e))
      (filter (good q) (flat_map by (above_entry e (choices q.sig.now n)))) x f

  -- all that is tried is all that is good
  pub first-tried : (p : Place) (L1 L2 : List Level) (b : Bool) (m : Mode) (V : Table) → m ≡ First
      → IsDrawn q p L1 k s → KeepsLevels q k L L1 → KeepsLevels q k L1 L2 → draws_at L2 k ≡ draws_at L1 k
      → MatchBool b (slice_get (drawn_at q p L1 k) 0 ≡ Some (entry_at q.table.now L2 k)) (drawn_at q p L1 k ≡ [])
      → filter (good q)
      (flat_map (items_with q k L2 s) (to_try b (entry_at q.table.now L2 k) (drawn_at q p L2 k)))
      ≡ wanted q m V (items_from q k L s)
  first-tried p L1 L2 b m V i d l1 l2 draws choice =
      let es = drawn_at q p L1 k in
      let e2 = entry_at q.table.now L2 k in
      let n1 = place_after q (take k L1) in
      ap (λ ds. filter (good q) (flat_map (items_with q k L2 s) (to_try b e2 ds)))
      (drawn-kept q p k L1 L2 l2.front draws)
      ∙ ap (λ ds. filter (good q) (flat_map (items_with q k L2 s) ds)) (tried-first b e2 es d.ascending choice)
      ∙ ap (filter (good q)) (behind-kept q k L1 L2 s es l2.front l2.many)
      ∙ ap (filter (good q)) (d.leads (length L1 - suc k))
      ∙ ap (filter (good q)) (behind-kept q k L L1 s (choices q.sig.now n1) l1.front l1.many)
      ∙ ap (λ ls. filter (good q) (flat_map by (choices q.sig.now (place_after q ls)))) l1.front
      ∙ ap (filter (good q)) (sym unrolled) ∙ sym (wanted-first q V (items_from q k L s))
      ∙ ap (λ m. wanted q m V (items_from q k L s)) (sym i)

  -- where nothing is found behind the entry of the table at hand, those above it are left
  pub after-tried : (p : Place) (L1 L2 L3 : List Level) (b : Bool) (m : Mode) → m ≡ After
      → allows q.sig.now n e ≡ true → wanted q m (table_of q.table.now (drop k L)) (by e) ≡ []
      → IsDrawn q p L2 k s → take k L1 ≡ take k L → length L1 ≡ length L → own_at L1 k ≡ own_at L k
      → KeepsLevels q k L1 L2 → entry_at q.table.now L2 k ≡ entry_at q.table.now L1 k → KeepsLevels q k L2 L3
      → draws_at L3 k ≡ draws_at L2 k
      → MatchBool b
      (slice_get (above_entry (entry_at q.table.now L2 k) (drawn_at q p L2 k)) 0 ≡ Some (entry_at q.table.now L3 k))
      (above_entry (entry_at q.table.now L2 k) (drawn_at q p L2 k) ≡ [])
      → filter (good q)
      (flat_map (items_with q k L3 s) (to_try b (entry_at q.table.now L3 k) (drawn_at q p L3 k)))
      ≡ wanted q m (table_of q.table.now (drop k L)) (items_from q k L s)
  after-tried p L1 L2 L3 b m i h none d front many own l2 entry l3 draws choice =
      let es = drawn_at q p L2 k in
      let e2 = entry_at q.table.now L2 k in
      let e3 = entry_at q.table.now L3 k in
      let same : e2 ≡ e = entry ∙ entry-kept q.table.now k L1 L own in
      let front2 : take k L2 ≡ take k L = l2.front ∙ front in
      let leads : flat_map by es ≡ flat_map by (choices q.sig.now n) =
      sym (behind-kept q k L L2 s es front2 (l2.many ∙ many)) ∙ d.leads (length L2 - suc k)
      ∙ behind-kept q k L L2 s (choices q.sig.now (place_after q (take k L2))) front2 (l2.many ∙ many)
      ∙ ap (λ ls. flat_map by (choices q.sig.now (place_after q ls))) front2 in
      ap (λ ds. filter (good q) (flat_map (items_with q k L3 s) (to_try b e3 ds)))
      (drawn-kept q p k L2 L3 l3.front draws)
      ∙ ap (λ ds. filter (good q) (flat_map (items_with q k L3 s) ds)) (tried-above b e2 e3 es d.ascending choice)
      ∙ ap (filter (good q))
      (behind-kept q k L L3 s (above_entry e2 es) (l3.front ∙ front2) (l3.many ∙ l2.many ∙ many))
      ∙ ap (λ d. filter (good q) (flat_map by (above_entry d es))) same
      ∙ ap (filter (good q)) (above-same rests e es (choices q.sig.now n) leads)
      ∙ ap (λ is. is ++ filter (good q) (flat_map by (above_entry e (choices q.sig.now n)))) (sym none)
      ∙ sym (after m i h)

  -- the entry of the table at hand is one of those that are drawn
  pub drawn-entry : (p : Place) (L1 L2 : List Level) → Begins q.sig.now j n s e W → IsDrawn q p L2 k s
      → take k L1 ≡ take k L → own_at L1 k ≡ own_at L k → KeepsLevels q k L1 L2
      → entry_at q.table.now L2 k ≡ entry_at q.table.now L1 k
      → In (entry_at q.table.now L2 k) (drawn_at q p L2 k)
  drawn-entry p L1 L2 h d front own l2 entry =
      subst (λ z. In z (drawn_at q p L2 k)) (sym (entry ∙ entry-kept q.table.now k L1 L own))
      (h.drawn (drawn_at q p L2 k)
      (subst (λ ls. LeadsTo q.sig.now (place_after q ls) s (drawn_at q p L2 k) (choices q.sig.now (place_after q ls)))
      (l2.front ∙ front) d.leads))

-- an entry that is moved to is one of those that are drawn
pub first-drawn : (q : Query) (p : Place) (k : ℕ) (L1 L2 : List Level) (b : Bool) → take k L2 ≡ take k L1
    → draws_at L2 k ≡ draws_at L1 k
    → MatchBool b (slice_get (drawn_at q p L1 k) 0 ≡ Some (entry_at q.table.now L2 k)) (drawn_at q p L1 k ≡ [])
    → IsTrue b → In (entry_at q.table.now L2 k) (drawn_at q p L2 k)
first-drawn q p k L1 L2 b f d choice i =
    subst (In (entry_at q.table.now L2 k)) (sym (drawn-kept q p k L1 L2 f d))
    (moved-first b (entry_at q.table.now L2 k) (drawn_at q p L1 k) choice i)

pub next-drawn : (q : Query) (p : Place) (k : ℕ) (L1 L2 : List Level) (b : Bool) → take k L2 ≡ take k L1
    → draws_at L2 k ≡ draws_at L1 k
    → MatchBool b
    (slice_get (above_entry (entry_at q.table.now L1 k) (drawn_at q p L1 k)) 0 ≡ Some (entry_at q.table.now L2 k))
    (above_entry (entry_at q.table.now L1 k) (drawn_at q p L1 k) ≡ [])
    → IsTrue b → In (entry_at q.table.now L2 k) (drawn_at q p L2 k)
next-drawn q p k L1 L2 b f d choice i =
    subst (In (entry_at q.table.now L2 k)) (sym (drawn-kept q p k L1 L2 f d))
    (moved-above b (entry_at q.table.now L1 k) (entry_at q.table.now L2 k) (drawn_at q p L1 k) choice i)
