-- What is looked for, in the order of the tables, and what is still to come.
use Rattle.std.proofs.Common.{◌≡◌, ◌<◌, ◌≤◌, List, [], ◌∷◌, Bool, true, false, ◌&&◌, length, drop, refl, ap, sym, ◌∙◌}
use Rattle.std.proofs.Common.{subst, arith}
use Rattle.std.proofs.Math.Bool.{and-true}
use Rattle.std.specs.Prelude.{filter, Option, Some, None, slice_get}
use Rattle.std.specs.List.Sorted.{IsStrictlySortedBy}
use Rattle.std.specs.Ordering.{is_lt}
use Rattle.mp_term.specs.Normal.{IsNormal}
use Rattle.mp_term.specs.Search.{In}
use Rattle.mp_term.proofs.SearchLaws.{from_in-filter, in-map}
use Rattle.mp_pattern.specs.Admission.{Rule, meets}
use Rattle.mp_pattern.specs.CondTree.{Cond}
use Rattle.mp_pattern.specs.Fits.{Table}
use Rattle.mp_pattern.specs.DerivationOrder.{table_cmp}
use Rattle.mp_pattern.specs.Size.{pattern_nodes}
use Rattle.mp_pattern.specs.Value.{Subst}
use Rattle.mp_theory.specs.Frames.{settle, start}
use Rattle.mp_theory.specs.Items.{items}
use Rattle.mp_theory.specs.Least.{is_least_item}
use Rattle.mp_theory.specs.OneList.{Item, item_tables, item_list}
use Rattle.mp_theory.proofs.SecondSearch.{items-ascending, ascending-kept, filter-same, item_list-least}
use Rattle.mp_theory.proofs.SecondSearch.{item_list-distinct}
use Rattle.mp_search.specs.declared.mode.Mode.{Mode}
use Rattle.mp_search.specs.declared.mode.Mode.TheVariants.{First, After, At}
use Rattle.mp_search.specs.Wanted.{beyond}
use Rattle.mp_cursor.specs.declared.matched.Matched.{Matched}
use Rattle.mp_cursor.specs.Matched.{IsMatched, IsOnward, IsDecided, all_items, looked_for, sought}
use Rattle.mp_table.specs.Table.{subject_of}
use Rattle.mp_cursor.specs.Listing.{items_after}
use Rattle.mp_cursor.proofs.AfterLaws.{after-first, after-found, kept-after, kept-first, left-first}
use Rattle.mp_cursor.proofs.AfterLaws.{fewer-behind}
use Rattle.mp_cursor.proofs.FilterLaws.{filter-both, kept-pass}
use Rattle.mp_pattern.proofs.PlanNodes.{plan-nodes}
use Rattle.mp_search.proofs.FoundLaws.{filter-always}
use Rattle.mp_search.proofs.NumberLaws.{in-slice_get}
use Rattle.mp_search.proofs.TableLaws.{subject-normal}

module _ (m : Matched) where
  -- those under which the condition holds
  abbrev pub good_items : Option Cond → List Item
  good_items c = filter (λ i. meets m.sig.now c i.1) (all_items m [])

  abbrev pub is_least : Item → Bool
  is_least = is_least_item m.sig.now m.plan.now.pattern (subject_of m.table.now)

  pub items-up : (s : Subst) → IsStrictlySortedBy table_cmp (item_tables (all_items m s))
  items-up s = items-ascending m.sig.now (length m.plan.now.nodes)
      (settle (start m.plan.now.pattern (subject_of m.table.now))) s

  pub good-up : (c : Option Cond) → IsStrictlySortedBy table_cmp (item_tables (good_items c))
  good-up c = ascending-kept (λ i. meets m.sig.now c i.1) (all_items m []) (items-up [])

  pub first-looked : (c : Option Cond) (W : Table) → looked_for m c First W [] ≡ good_items c
  first-looked c W = filter-same (λ i. meets m.sig.now c i.1 && true) (λ i. meets m.sig.now c i.1) (all_items m [])
      (λ i k. and-true (meets m.sig.now c i.1))

  pub after-looked : (c : Option Cond) (W : Table) → looked_for m c After W [] ≡ items_after W (good_items c)
  after-looked c W = filter-both (λ i. meets m.sig.now c i.1) (λ i. is_lt (table_cmp W i.0)) (all_items m [])

  -- behind the first that is looked for, the next ones are looked for
  pub next-looked : (c : Option Cond) (mode : Mode) (W : Table) (j : Item) → IsOnward mode
      → slice_get (looked_for m c mode W []) 0 ≡ Some j
      → looked_for m c After j.0 [] ≡ drop 1 (looked_for m c mode W [])
  next-looked c First W j o e =
      after-looked c j.0
      ∙ after-first j (good_items c) (good-up c) (subst (λ is. slice_get is 0 ≡ Some j) (first-looked c W) e)
      ∙ ap (drop 1) (sym (first-looked c W))
  next-looked c After W j o e =
      after-looked c j.0
      ∙ after-found W j (good_items c) (good-up c) (subst (λ is. slice_get is 0 ≡ Some j) (after-looked c W) e)
      ∙ ap (drop 1) (sym (after-looked c W))
  next-looked c At W j o e = absurd o

  -- what is found is an item under which the condition holds
  pub found-item : (c : Option Cond) (mode : Mode) (W : Table) (s : Subst) (j : Item)
      → slice_get (looked_for m c mode W s) 0 ≡ Some j
      → In j (all_items m s) × ((meets m.sig.now c j.1 && beyond mode W j.0) ≡ true)
  found-item c mode W s j e =
      from_in-filter (λ i. meets m.sig.now c i.1 && beyond mode W i.0) j (all_items m s)
      (in-slice_get (looked_for m c mode W s) 0 j e)

  -- its table is that of an item
  pub item-standing : (j : Item) → In j (all_items m []) → In j.0 (item_tables (all_items m []))
  item-standing j k = in-map (λ i. i.0) j (all_items m []) k

  -- a first item that is the least of its substitution is what is sought, and what comes behind it is sought next
  pub sought-found : (c : Option Cond) (mode : Mode) (W : Table) (j : Item) → IsOnward mode
      → slice_get (looked_for m c mode W []) 0 ≡ Some j → is_least j ≡ true
      → (slice_get (sought m c mode W) 0 ≡ Some j) × (drop 1 (sought m c mode W) ≡ sought m c After j.0)
  sought-found c mode W j o e k =
      let q : sought m c mode W ≡ j ∷ filter is_least (drop 1 (looked_for m c mode W [])) =
      kept-first is_least j (looked_for m c mode W []) e k in (
        ap (λ is. slice_get is 0) q,
        ap (drop 1) q ∙ ap (filter is_least) (sym (next-looked c mode W j o e)),
      )

  -- one that isn't is passed over
  pub sought-left : (c : Option Cond) (mode : Mode) (W : Table) (j : Item) → IsOnward mode
      → slice_get (looked_for m c mode W []) 0 ≡ Some j → is_least j ≡ false
      → sought m c After j.0 ≡ sought m c mode W
  sought-left c mode W j o e k =
      ap (filter is_least) (next-looked c mode W j o e)
      ∙ sym (left-first is_least j (looked_for m c mode W []) e k)

  pub fewer-looked : (c : Option Cond) (mode : Mode) (W : Table) (j : Item) → IsOnward mode
      → slice_get (looked_for m c mode W []) 0 ≡ Some j
      → length (looked_for m c After j.0 []) < length (looked_for m c mode W [])
  fewer-looked c mode W j o e = subst (λ is. length is < length (looked_for m c mode W []))
      (sym (next-looked c mode W j o e)) (fewer-behind j (looked_for m c mode W []) e)

  module _ (h : IsMatched m) where
    pub normal-subject : IsNormal m.sig.now (subject_of m.table.now)
    normal-subject = subject-normal m.sig.now m.table.now h.table h.normal

    pub items-of-pattern : (s : Subst)
        → all_items m s ≡ items m.sig.now (pattern_nodes m.plan.now.pattern)
        (settle (start m.plan.now.pattern (subject_of m.table.now))) s
    items-of-pattern s = ap (λ k. items m.sig.now k (settle (start m.plan.now.pattern (subject_of m.table.now))) s)
        (plan-nodes m.sig.now m.plan.now.pattern m.plan.now h.plan)

    -- the items of a rule with that pattern are those sought
    pub sought-first : (r : Rule) (W : Table) → r.pattern ≡ m.plan.now.pattern
        → item_list m.sig.now r (subject_of m.table.now) ≡ sought m r.condition First W
    sought-first r W e =
        let t = subject_of m.table.now in
        item_list-least m.sig.now r t normal-subject
        ∙ ap (λ p. filter (is_least_item m.sig.now p t) (filter (λ i. meets m.sig.now r.condition i.1)
        (items m.sig.now (pattern_nodes p) (settle (start p t)) []))) e
        ∙ ap (λ is. filter is_least (filter (λ i. meets m.sig.now r.condition i.1) is)) (sym (items-of-pattern []))
        ∙ ap (filter is_least) (sym (first-looked r.condition W))

    pub sought-after : (r : Rule) (W : Table) → r.pattern ≡ m.plan.now.pattern
        → items_after W (item_list m.sig.now r (subject_of m.table.now)) ≡ sought m r.condition After W
    sought-after r W e =
        ap (items_after W) (sought-first r W e ∙ ap (filter is_least) (first-looked r.condition W))
        ∙ kept-after is_least W (good_items r.condition)
        ∙ ap (filter is_least) (sym (after-looked r.condition W))

    -- where a substitution decides its table, each table is the least
    pub decided-least : IsDecided m true → (i : Item) → In i (all_items m []) → is_least i ≡ true
    decided-least d i k =
        let t = subject_of m.table.now in
        let p = m.plan.now.pattern in
        let r : Rule = record { name = []; pattern = p; template = None; condition = None } in
        let all = items m.sig.now (pattern_nodes p) (settle (start p t)) [] in
        let kept : List Item = filter (λ (j : Item). true) all in
        let one : item_list m.sig.now r t ≡ filter is_least kept = item_list-least m.sig.now r t normal-subject in
        let two : item_list m.sig.now r t ≡ kept =
        item_list-distinct m.sig.now r t normal-subject (d refl).0 (d refl).1 in
        let same : kept ≡ all_items m [] =
        filter-always (λ (j : Item). true) all (λ j. refl) ∙ sym (items-of-pattern []) in
        kept-pass is_least (all_items m []) i
        (subst (λ n. length (all_items m []) ≤ n)
        (ap length (sym same ∙ sym two ∙ one ∙ ap (filter is_least) same)) (omega arith)) k
