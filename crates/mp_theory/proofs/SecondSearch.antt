-- A search over a whole substitution finds the tables of that substitution, so that the first which it finds is the
-- least.
use Rattle.std.proofs.Common.{◌≡◌, List, [], ◌∷◌, Bool, true, false, refl, ap, sym, ◌∙◌, inl, inr, subst}
use Rattle.std.specs.Prelude.{ℕ, Option, Some, None, filter, filter_map, option_map, if◌then◌else◌, is_some, slice_get}
use Rattle.std.specs.Ordering.{is_eq, ordering_reverse}
use Rattle.std.specs.declared.cmp.Ordering.TheVariants.{Less}
use Rattle.std.specs.List.{AllByRecursion, cons_option}
use Rattle.std.specs.List.Sorted.{IsStrictlySortedBy}
use Rattle.std.proofs.lemmas.Cmp.{lists_total, tied_itself}
use Rattle.std.proofs.lemmas.List.Kept.{IsStrictlySortedBy-filter}
use Rattle.mp_term.specs.Tree.{Tree}
use Rattle.mp_term.specs.Signature.{Sig}
use Rattle.mp_term.specs.Normal.{IsNormal}
use Rattle.mp_term.specs.Search.{In, words}
use Rattle.mp_term.proofs.SearchLaws.{words-sound, words-ascending, from_in-filter}
use Rattle.mp_term.proofs.ListingLaws.{all_in}
use Rattle.mp_pattern.specs.PatternTree.{Pattern}
use Rattle.mp_pattern.specs.Size.{pattern_nodes}
use Rattle.mp_pattern.specs.Value.{Subst}
use Rattle.mp_pattern.specs.Fits.{Table, Fits}
use Rattle.mp_pattern.specs.DerivationOrder.{entry_cmp, table_cmp}
use Rattle.mp_pattern.specs.Instance.{is_fully_named}
use Rattle.mp_pattern.specs.Admission.{Rule, meets}
use Rattle.mp_theory.specs.Solve.{solve}
use Rattle.mp_theory.specs.Frames.{Next, settle, start}
use Rattle.mp_theory.specs.Machine.{is_ended, onward, takes, choices, HasShape}
use Rattle.mp_theory.specs.NoOptional.{HasNoOptional}
use Rattle.mp_theory.specs.OneList.{Item, item_tables, item_list, same_item, same_subst}
use Rattle.mp_theory.specs.Items.{items}
use Rattle.mp_theory.specs.Least.{is_headed_by, is_least_item}
use Rattle.mp_theory.proofs.Tables.{entry_cmp_total, choices-ascending, shape-accounts}
use Rattle.mp_theory.proofs.Solving.{GivesFinal}
use Rattle.mp_theory.proofs.Again.{again-same, again-solves, solves-again}
use Rattle.mp_theory.proofs.FitsSolves.{fits-solves, fine-start, takes-final}
use Rattle.mp_theory.proofs.FirstsLaws.{Distinct, distinct-filter, firsts_after-distinct}
use Rattle.mp_theory.proofs.OneListLaws.{same_subst-itself, same_subst-sound}
use Rattle.mp_theory.proofs.TrailLaws.{derivations-is, derivations-fit}
use Rattle.mp_theory.proofs.DistinctItems.{distinct-derivations}
use Rattle.mp_theory.proofs.ItemLaws.{items-derivations, item_list-items}
use Rattle.mp_theory.proofs.LeastItems.{Apart, leads, firsts_after-leads}

-- a table with a substitution
abbrev pub pair : Table → Subst → Item
pair W r = (W, r)

-- where g gives s exactly of what h gives s, and nothing else, what g gives are the items of h with s
picked : (s : Subst) (g h : Table → Option Subst) (ws : List Table)
    → ((W : Table) → In W ws
    → ((r : Subst) → g W ≡ Some r → (s ≡ r) × (h W ≡ Some s)) × (h W ≡ Some s → g W ≡ Some s))
    → filter_map (λ W. option_map (pair W) (g W)) ws
    ≡ filter (λ i. same_subst s i.1) (filter_map (λ W. option_map (pair W) (h W)) ws)
picked s g h [] k = refl
picked s g h (W ∷ ws) k =
    let G = filter_map (λ W. option_map (pair W) (g W)) ws in
    let H = filter_map (λ W. option_map (pair W) (h W)) ws in
    let keep = λ (i : Item). same_subst s i.1 in
    let rest : G ≡ filter keep H = picked s g h ws (λ V i. k V (inr i)) in
    let here = k W (inl refl) in
    elim (g W) as (λ o. g W ≡ o
    → cons_option (option_map (pair W) o) G ≡ filter keep (cons_option (option_map (pair W) (h W)) H)) [
      | Some r ↦ λ e.
          ap (λ is. pair W r ∷ is) rest
          ∙ ap (λ q. pair W q ∷ filter keep H) (sym (here.0 r e).0)
          ∙ ap (λ b. if b then pair W s ∷ filter keep H else filter keep H) (sym (same_subst-itself s))
          ∙ ap (λ o. filter keep (cons_option (option_map (pair W) o) H)) (sym (here.0 r e).1)
      | None ↦ λ e.
          elim (h W) as (λ o. h W ≡ o → G ≡ filter keep (cons_option (option_map (pair W) o) H)) [
            | None ↦ λ q. rest
            | Some u ↦ λ q.
                elim (same_subst s u) as
                (λ b. same_subst s u ≡ b → G ≡ (if b then pair W u ∷ filter keep H else filter keep H)) [
                  | true ↦ λ c.
                      let m : g W ≡ Some s = here.1 (q ∙ ap Some (sym (same_subst-sound s u c))) in
                      let x : None ≡ Some s = sym e ∙ m in
                      cc
                  | false ↦ λ c. rest
                ] refl
          ] refl
    ] refl

-- the tables of what is given, in order
item_tables-filter_map : (g : Table → Option Subst) (ws : List Table)
    → item_tables (filter_map (λ W. option_map (pair W) (g W)) ws) ≡ filter (λ W. is_some (g W)) ws
item_tables-filter_map g [] = refl
item_tables-filter_map g (W ∷ ws) =
    elim (g W) as (λ o.
    item_tables (cons_option (option_map (pair W) o) (filter_map (λ W. option_map (pair W) (g W)) ws))
    ≡ (if is_some o then W ∷ filter (λ W. is_some (g W)) ws else filter (λ W. is_some (g W)) ws)) [
      | None ↦ item_tables-filter_map g ws
      | Some r ↦ ap (λ Ts. W ∷ Ts) (item_tables-filter_map g ws)
    ]

module _ (sig : Sig) where
  pub items-is : (k : ℕ) (n : Next) (s : Subst) → items sig k n s
      ≡ filter_map (λ W. option_map (pair W) (solve sig s (takes n W))) (words (choices sig) onward is_ended k n)
  items-is k n s = sym (items-derivations sig k n s) ∙ derivations-is sig k n [] s

  -- the items ascend strictly by their tables
  pub items-ascending : (k : ℕ) (n : Next) (s : Subst) → IsStrictlySortedBy table_cmp (item_tables (items sig k n s))
  items-ascending k n s =
      subst (IsStrictlySortedBy table_cmp)
      (sym (ap item_tables (items-is k n s)
      ∙ item_tables-filter_map (λ W. solve sig s (takes n W)) (words (choices sig) onward is_ended k n)))
      (IsStrictlySortedBy-filter table_cmp (λ W. is_some (solve sig s (takes n W)))
      (words (choices sig) onward is_ended k n)
      (words-ascending (choices sig) onward is_ended entry_cmp entry_cmp_total (choices-ascending sig) k n))

  module _ (p : Pattern) (t : Tree) (normal : IsNormal sig t) where
    -- the items from the start, over a substitution
    abbrev pub from_start : Subst → List Item
    from_start s = items sig (pattern_nodes p) (settle (start p t)) s

    final_takes : (T : Table) → HasShape sig p t T → AllByRecursion (GivesFinal sig) (takes (settle (start p t)) T)
    final_takes T a = takes-final sig (settle (start p t)) T (fine-start sig p t normal) a

    -- over a substitution that fits they are those with that substitution
    pub second-search : (s : Subst) (T : Table) → Fits sig p t s T
        → from_start s ≡ filter (λ i. same_subst s i.1) (from_start [])
    second-search s T f =
        let m = settle (start p t) in
        let a = fits-solves sig p t s T normal f in
        let ws = words (choices sig) onward is_ended (pattern_nodes p) m in
        items-is (pattern_nodes p) m s
        ∙ picked s (λ W. solve sig s (takes m W)) (λ W. solve sig [] (takes m W)) ws (λ W i.
        let shape : HasShape sig p t W = (words-sound (choices sig) onward is_ended (pattern_nodes p) m W i).1 in
        let first = (shape-accounts sig p t T a.0).1 in
        let second = (shape-accounts sig p t W shape).1 in
        let fine = final_takes T a.0 in
        let fine_too = final_takes W shape in (
          λ r e. (
            again-same sig p (takes m T) (takes m W) first second s a.1 fine fine_too r e,
            again-solves sig p (takes m T) (takes m W) first second s a.1 fine fine_too r e,
          ),
          λ e. solves-again sig p (takes m T) (takes m W) first second s a.1 fine fine_too e,
        ))
        ∙ ap (filter (λ i. same_subst s i.1)) (sym (items-is (pattern_nodes p) m []))

    -- each item from the start is a table that fits, with its substitution
    pub items-fit : AllByRecursion (λ i. Fits sig p t i.1 i.0) (from_start [])
    items-fit = subst (AllByRecursion (λ i. Fits sig p t i.1 i.0))
        (items-derivations sig (pattern_nodes p) (settle (start p t)) []) (derivations-fit sig p t normal)

-- what is kept of ascending items ascends
pub ascending-kept : (keep : Item → Bool) (is : List Item) → IsStrictlySortedBy table_cmp (item_tables is)
    → IsStrictlySortedBy table_cmp (item_tables (filter keep is))
unfolding IsStrictlySortedBy
ascending-kept keep [] h = tt
ascending-kept keep (i ∷ is) h =
    elim (keep i) as
    (λ b. IsStrictlySortedBy table_cmp (item_tables (if b then i ∷ filter keep is else filter keep is))) [
      | true ↦ (all-kept (λ T. table_cmp i.0 T ≡ Less) is h.0, ascending-kept keep is h.1)
      | false ↦ ascending-kept keep is h.1
    ]
  where
    all-kept : (P : Table → Type 0) (js : List Item) → AllByRecursion P (item_tables js)
        → AllByRecursion P (item_tables (filter keep js))
    all-kept P [] h = tt
    all-kept P (j ∷ js) h =
        elim (keep j) as (λ b. AllByRecursion P (item_tables (if b then j ∷ filter keep js else filter keep js)))
        [ true ↦ (h.0, all-kept P js h.1) | false ↦ all-kept P js h.1 ]

-- a test that agrees on the members keeps the same
pub filter-same : {X : Type 0} (p r : X → Bool) (xs : List X) → ((x : X) → In x xs → p x ≡ r x)
    → filter p xs ≡ filter r xs
filter-same p r [] h = refl
filter-same p r (x ∷ xs) h = ap (λ b. if b then x ∷ filter p xs else filter p xs) (h x (inl refl))
    ∙ ap (λ ys. if r x then x ∷ ys else ys) (filter-same p r xs (λ y i. h y (inr i)))

-- they have one table
abbrev same_table : Item → Item → Bool
same_table i j = is_eq (table_cmp i.0 j.0)

same_table-itself : (i : Item) → same_table i i ≡ true
same_table-itself i = ap is_eq (tied_itself (lists_total entry_cmp_total) i.0)

-- no table of ascending items stands twice
apart-ascending : (is : List Item) → IsStrictlySortedBy table_cmp (item_tables is)
    → Apart (λ i. i.1) same_subst same_subst-itself same_subst-sound same_table same_table-itself is
unfolding IsStrictlySortedBy
apart-ascending [] h = tt
apart-ascending (i ∷ is) h = (greater is h.0, apart-ascending is h.1)
  where
    greater : (js : List Item) → AllByRecursion (λ T. table_cmp i.0 T ≡ Less) (item_tables js)
        → AllByRecursion (λ j. same_table j i ≡ false) js
    greater [] h = tt
    greater (j ∷ js) h = (
      ap is_eq ((lists_total entry_cmp_total).antisymm j.0 i.0 ∙ ap ordering_reverse h.0),
      greater js h.1,
    )

module _ (sig : Sig) (r : Rule) (t : Tree) (normal : IsNormal sig t) where
  -- the condition holds of the item's substitution
  abbrev good : Item → Bool
  good i = meets sig r.condition i.1

  abbrev all : List Item
  all = from_start sig r.pattern t normal []

  -- the items with the substitution of a good one are good
  good-alike : (i : Item) (is : List Item) → good i ≡ true
      → filter (λ j. same_subst i.1 j.1) (filter good is) ≡ filter (λ j. same_subst i.1 j.1) is
  good-alike i [] g = refl
  good-alike i (j ∷ is) g =
      let keep = λ (j : Item). same_subst i.1 j.1 in
      elim (good j) as (λ b. good j ≡ b
      → filter keep (if b then j ∷ filter good is else filter good is)
      ≡ (if keep j then j ∷ filter keep is else filter keep is)) [
        | true ↦ λ e. ap (λ js. if keep j then j ∷ js else js) (good-alike i is g)
        | false ↦ λ e.
            good-alike i is g
            ∙ elim (keep j) as (λ b. keep j ≡ b → filter keep is ≡ (if b then j ∷ filter keep is else filter keep is)) [
              | true ↦ λ q.
                  let x : true ≡ false = sym g ∙ ap (meets sig r.condition) (same_subst-sound i.1 j.1 q) ∙ e in
                  cc
              | false ↦ λ q. refl
            ] refl
      ] refl

  leads-headed : (i : Item) (is : List Item)
      → leads (λ i. i.1) same_subst same_subst-itself same_subst-sound same_table same_table-itself i is
      ≡ is_headed_by i is
  leads-headed i [] = refl
  leads-headed i (j ∷ is) = refl

  -- the item list has the good items that a second search finds first
  pub item_list-least : item_list sig r t ≡ filter (is_least_item sig r.pattern t) (filter good all)
  item_list-least =
      item_list-items sig r t
      ∙ firsts_after-leads (λ i. i.1) same_subst same_subst-itself same_subst-sound same_table same_table-itself
      (filter good all)
      (apart-ascending (filter good all)
      (ascending-kept good all (items-ascending sig (pattern_nodes r.pattern) (settle (start r.pattern t)) [])))
      ∙ filter-same
      (λ i. leads (λ i. i.1) same_subst same_subst-itself same_subst-sound same_table same_table-itself i
      (filter (λ j. same_subst i.1 j.1) (filter good all)))
      (is_least_item sig r.pattern t) (filter good all) (λ i m.
      let k = from_in-filter good i all m in
      let f : Fits sig r.pattern t i.1 i.0 = all_in (λ j. Fits sig r.pattern t j.1 j.0) all i
      (items-fit sig r.pattern t normal) k.0 in
      leads-headed i (filter (λ j. same_subst i.1 j.1) (filter good all))
      ∙ ap (is_headed_by i)
      (good-alike i all k.1 ∙ sym (second-search sig r.pattern t normal i.1 i.0 f)))

  -- where a substitution decides its table it has all of them
  pub item_list-distinct : is_fully_named r.pattern ≡ true → HasNoOptional r.pattern
      → item_list sig r t ≡ filter good all
  item_list-distinct named plain =
      item_list-items sig r t
      ∙ firsts_after-distinct same_item (filter good all)
      (distinct-filter same_item good all
      (subst (λ is. Distinct same_item is)
      (items-derivations sig (pattern_nodes r.pattern) (settle (start r.pattern t)) [])
      (distinct-derivations sig r.pattern t named plain normal)))

-- what the first of the items of a second search says
pub least_item-tested : (sig : Sig) (p : Pattern) (t : Tree) (i j : Item)
    → slice_get (items sig (pattern_nodes p) (settle (start p t)) i.1) 0 ≡ Some j
    → is_least_item sig p t i ≡ is_eq (table_cmp i.0 j.0)
least_item-tested sig p t i j h = tested (items sig (pattern_nodes p) (settle (start p t)) i.1) h
  where
    tested : (is : List Item) → slice_get is 0 ≡ Some j → is_headed_by i is ≡ is_eq (table_cmp i.0 j.0)
    tested [] h = cc
    tested (k ∷ is) h = let q : k ≡ j = cc in ap (λ l. is_eq (table_cmp i.0 l.0)) q
