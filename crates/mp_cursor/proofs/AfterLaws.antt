-- Items in the order of their tables, and what comes after one of them.
use Rattle.std.proofs.Common.{◌≡◌, ◌<◌, List, [], ◌∷◌, Bool, true, false, refl, ap, sym, ◌∙◌, arith, length, drop}
use Rattle.std.proofs.Common.{subst}
use Rattle.std.specs.Prelude.{filter, Some, slice_get, if◌then◌else◌}
use Rattle.std.specs.List.{AllByRecursion}
use Rattle.std.specs.List.Sorted.{IsStrictlySortedBy}
use Rattle.std.specs.Ordering.{is_lt}
use Rattle.std.specs.declared.cmp.Ordering.TheVariants.{Less}
use Rattle.std.proofs.lemmas.Cmp.{tied_itself, lists_total}
use Rattle.mp_term.proofs.SearchLaws.{from_in-filter}
use Rattle.mp_term.proofs.TestLaws.{less-from}
use Rattle.mp_pattern.specs.Fits.{Table}
use Rattle.mp_pattern.specs.DerivationOrder.{table_cmp}
use Rattle.mp_theory.specs.OneList.{Item, item_tables}
use Rattle.mp_theory.proofs.Tables.{entry_cmp_total}
use Rattle.mp_theory.proofs.SecondSearch.{ascending-kept}
use Rattle.mp_search.proofs.DrawnEntries.{filter-filter}
use Rattle.mp_search.proofs.NumberLaws.{in-slice_get}
use Rattle.mp_cursor.specs.Listing.{items_after}

-- those after an item that stands before all of them
after-all : (j : Item) (is : List Item) → AllByRecursion (λ T. table_cmp j.0 T ≡ Less) (item_tables is)
    → items_after j.0 is ≡ is
after-all j [] h = refl
after-all j (i ∷ is) h = ap (λ o. if is_lt o then i ∷ items_after j.0 is else items_after j.0 is) h.0
    ∙ ap (λ ys. i ∷ ys) (after-all j is h.1)

-- those after the first
after-head : (j : Item) (is : List Item) → IsStrictlySortedBy table_cmp (item_tables (j ∷ is))
    → items_after j.0 (j ∷ is) ≡ is
unfolding IsStrictlySortedBy
after-head j is h =
    ap (λ o. if is_lt o then j ∷ items_after j.0 is else items_after j.0 is)
    (tied_itself (lists_total entry_cmp_total) j.0)
    ∙ after-all j is h.0

pub after-first : (j : Item) (is : List Item) → IsStrictlySortedBy table_cmp (item_tables is)
    → slice_get is 0 ≡ Some j → items_after j.0 is ≡ drop 1 is
after-first j [] h e = cc
after-first j (i ∷ is) h e =
    let same : i ≡ j = cc in
    subst (λ k. items_after k.0 (i ∷ is) ≡ is) same (after-head i is h)

-- those after an item that comes after W are those after it among those after W
pub after-after : (W : Table) (j : Item) (is : List Item) → table_cmp W j.0 ≡ Less
    → items_after j.0 (items_after W is) ≡ items_after j.0 is
after-after W j [] h = refl
after-after W j (i ∷ is) h =
    elim (is_lt (table_cmp W i.0)) as (λ b. is_lt (table_cmp W i.0) ≡ b
    → items_after j.0 (if b then i ∷ items_after W is else items_after W is)
    ≡ (if is_lt (table_cmp j.0 i.0) then i ∷ items_after j.0 is else items_after j.0 is)) [
      | true ↦ λ e. ap (λ ys. if is_lt (table_cmp j.0 i.0) then i ∷ ys else ys) (after-after W j is h)
      | false ↦ λ e. elim (is_lt (table_cmp j.0 i.0)) as (λ c. is_lt (table_cmp j.0 i.0) ≡ c
          → items_after j.0 (items_after W is) ≡ (if c then i ∷ items_after j.0 is else items_after j.0 is)) [
            | true ↦ λ f.
                let above : table_cmp W i.0 ≡ Less =
                (lists_total entry_cmp_total).trans W j.0 i.0 h (less-from (table_cmp j.0 i.0) f) in
                let t : is_lt (table_cmp W i.0) ≡ true = ap is_lt above in
                absurd (let x : false ≡ true = sym e ∙ t in cc)
            | false ↦ λ f. after-after W j is h
          ] refl
    ] refl

-- after the first of those after W
pub after-found : (W : Table) (j : Item) (is : List Item) → IsStrictlySortedBy table_cmp (item_tables is)
    → slice_get (items_after W is) 0 ≡ Some j → items_after j.0 is ≡ drop 1 (items_after W is)
after-found W j is up e =
    let m = from_in-filter (λ i. is_lt (table_cmp W i.0)) j is (in-slice_get (items_after W is) 0 j e) in
    sym (after-after W j is (less-from (table_cmp W j.0) m.1))
    ∙ after-first j (items_after W is) (ascending-kept (λ i. is_lt (table_cmp W i.0)) is up) e

-- what is kept of those after an item, and those after it of what is kept
pub kept-after : (keep : Item → Bool) (W : Table) (is : List Item)
    → items_after W (filter keep is) ≡ filter keep (items_after W is)
kept-after keep W is = filter-filter (λ i. is_lt (table_cmp W i.0)) keep is

-- a list by its first item
pub kept-first : (keep : Item → Bool) (j : Item) (is : List Item) → slice_get is 0 ≡ Some j → keep j ≡ true
    → filter keep is ≡ j ∷ filter keep (drop 1 is)
kept-first keep j [] e k = cc
kept-first keep j (i ∷ is) e k =
    let same : i ≡ j = cc in
    subst (λ x. filter keep (i ∷ is) ≡ x ∷ filter keep is) same
    (ap (λ b. if b then i ∷ filter keep is else filter keep is) (ap keep same ∙ k))

pub left-first : (keep : Item → Bool) (j : Item) (is : List Item) → slice_get is 0 ≡ Some j → keep j ≡ false
    → filter keep is ≡ filter keep (drop 1 is)
left-first keep j [] e k = cc
left-first keep j (i ∷ is) e k =
    let same : i ≡ j = cc in
    ap (λ b. if b then i ∷ filter keep is else filter keep is) (ap keep same ∙ k)

-- fewer are left behind the first
pub fewer-behind : (j : Item) (is : List Item) → slice_get is 0 ≡ Some j → length (drop 1 is) < length is
fewer-behind j [] e = cc
fewer-behind j (i ∷ is) e = omega arith
