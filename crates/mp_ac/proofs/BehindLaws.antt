-- What comes behind an item of a list in which no table stands twice.
use Rattle.std.proofs.Common.{◌≡◌, List, [], ◌∷◌, true, false, inl, inr, refl, ap, sym, ◌∙◌, subst, drop}
use Rattle.std.specs.Prelude.{Some, slice_get, filter, if◌then◌else◌}
use Rattle.std.specs.declared.cmp.Ordering.{Ordering}
use Rattle.std.specs.declared.cmp.Ordering.TheVariants.{Less, Equal, Greater}
use Rattle.std.specs.Ordering.{is_lt, is_eq, ordering_reverse}
use Rattle.std.specs.Cmp.{IsTotalOrder}
use Rattle.std.specs.List.{AllByRecursion}
use Rattle.std.specs.List.Sorted.{IsStrictlySortedBy}
use Rattle.std.proofs.lemmas.Cmp.{tied_itself, lists_total}
use Rattle.mp_term.specs.Search.{In}
use Rattle.mp_term.proofs.ListingLaws.{all_in}
use Rattle.mp_term.proofs.TestLaws.{equal-from}
use Rattle.mp_pattern.specs.Fits.{Table}
use Rattle.mp_pattern.specs.DerivationOrder.{table_cmp}
use Rattle.mp_theory.specs.OneList.{Item, item_tables}
use Rattle.mp_theory.proofs.Tables.{entry_cmp_total}
use Rattle.mp_theory.proofs.Unique.{same_table}
use Rattle.mp_ac.specs.CommItems.{NoneTwice}
use Rattle.mp_ac.specs.CommList.{behind_table}

-- the order of tables is total
pub table_total : IsTotalOrder table_cmp
table_total = lists_total entry_cmp_total

-- another table isn't behind which one stands
pub other-table : (T U : Table) → (T ≡ U → ⊥) → is_eq (table_cmp T U) ≡ false
other-table T U never =
    elim (is_eq (table_cmp T U)) as (λ b. is_eq (table_cmp T U) ≡ b → b ≡ false) [
      | true ↦ λ e. absurd (never (same_table T U (equal-from (table_cmp T U) e)))
      | false ↦ λ e. refl
    ] refl

-- the first item of what comes behind one is of the list
pub behind-in : (W : Table) (is : List Item) (i : Item) → In i (behind_table W is) → In i is
behind-in W [] i h = absurd h
behind-in W (j ∷ js) i h =
    elim (is_eq (table_cmp W j.0)) as (λ b. In i (if b then js else behind_table W js) → In i (j ∷ js))
    [ true ↦ λ m. inr m | false ↦ λ m. inr (behind-in W js i m) ] h

pub first-in : (is : List Item) (i : Item) → slice_get is 0 ≡ Some i → In i is
first-in [] i e = cc
first-in (j ∷ js) i e = let k : j ≡ i = cc in inl (sym k)

pub table-in : (is : List Item) (i : Item) → In i is → In i.0 (item_tables is)
table-in [] i h = absurd h
table-in (j ∷ js) i (inl e) = inl (ap (λ k. k.0) e)
table-in (j ∷ js) i (inr h) = inr (table-in js i h)

-- behind the first item are the others
pub behind-first : (is : List Item) (i : Item) → slice_get is 0 ≡ Some i → behind_table i.0 is ≡ drop 1 is
behind-first [] i e = cc
behind-first (j ∷ js) i e =
    let k : j ≡ i = cc in
    subst (λ m. behind_table m.0 (j ∷ js) ≡ js) k
    (ap (λ b. if b then js else behind_table j.0 js) (ap is_eq (tied_itself table_total j.0)))

-- and so it is behind the first item that comes behind another one
pub behind-next : (W : Table) (is : List Item) (i : Item) → NoneTwice (item_tables is)
    → slice_get (behind_table W is) 0 ≡ Some i → behind_table i.0 is ≡ drop 1 (behind_table W is)
behind-next W [] i h e = cc
behind-next W (j ∷ js) i h e =
    elim (is_eq (table_cmp W j.0)) as (λ b. slice_get (if b then js else behind_table W js) 0 ≡ Some i
    → (if is_eq (table_cmp i.0 j.0) then js else behind_table i.0 js)
    ≡ drop 1 (if b then js else behind_table W js)) [
      | true ↦ λ k. skipped (first-in js i k) ∙ behind-first js i k
      | false ↦ λ k. skipped (behind-in W js i (first-in (behind_table W js) i k)) ∙ behind-next W js i h.1 k
    ] e
  where
    skipped : In i js → (if is_eq (table_cmp i.0 j.0) then js else behind_table i.0 js) ≡ behind_table i.0 js
    skipped m = ap (λ b. if b then js else behind_table i.0 js)
        (other-table i.0 j.0 (λ q. h.0 (subst (λ T. In T (item_tables js)) q (table-in js i m))))

-- in ascending order it is what is greater
greater-all : (W : Table) (is : List Item) → AllByRecursion (λ T. table_cmp W T ≡ Less) (item_tables is)
    → filter (λ i. is_lt (table_cmp W i.0)) is ≡ is
greater-all W [] h = refl
greater-all W (i ∷ is) h =
    ap (λ o. if is_lt o then i ∷ filter (λ i. is_lt (table_cmp W i.0)) is else filter (λ i. is_lt (table_cmp W i.0)) is)
    h.0
    ∙ ap (λ js. i ∷ js) (greater-all W is h.1)

greater-reverse : (o : Ordering) → ordering_reverse o ≡ Less → o ≡ Greater
greater-reverse Less h = cc
greater-reverse Equal h = cc
greater-reverse Greater h = refl

pub behind-greater : (W : Table) (is : List Item) → IsStrictlySortedBy table_cmp (item_tables is)
    → In W (item_tables is) → filter (λ i. is_lt (table_cmp W i.0)) is ≡ behind_table W is
unfolding IsStrictlySortedBy
behind-greater W [] h m = absurd m
behind-greater W (j ∷ js) h (inl e) =
    let tied : table_cmp W j.0 ≡ Equal = subst (λ T. table_cmp W T ≡ Equal) e (tied_itself table_total W) in
    ap (λ o. if is_lt o then j ∷ filter (λ i. is_lt (table_cmp W i.0)) js else filter (λ i. is_lt (table_cmp W i.0)) js)
    tied
    ∙ greater-all W js (subst (λ T. AllByRecursion (λ U. table_cmp T U ≡ Less) (item_tables js)) (sym e) h.0)
    ∙ sym (ap (λ o. if is_eq o then js else behind_table W js) tied)
behind-greater W (j ∷ js) h (inr m) =
    let less : table_cmp j.0 W ≡ Less = all_in (λ U. table_cmp j.0 U ≡ Less) (item_tables js) W h.0 m in
    let more : table_cmp W j.0 ≡ Greater =
    greater-reverse (table_cmp W j.0) (sym (table_total.antisymm j.0 W) ∙ less) in
    ap (λ o. if is_lt o then j ∷ filter (λ i. is_lt (table_cmp W i.0)) js else filter (λ i. is_lt (table_cmp W i.0)) js)
    more
    ∙ behind-greater W js h.1 m
    ∙ sym (ap (λ o. if is_eq o then js else behind_table W js) more)
