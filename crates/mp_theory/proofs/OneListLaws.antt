-- `one_list` is the one-list.
use Rattle.std.proofs.Common.{◌≡◌, List, [], ◌∷◌, map, length, true, false, ◌&&◌, refl, ap, sym, ◌∙◌, subst}
use Rattle.std.specs.Prelude.{Some, None, ◌↔◌, if◌then◌else◌, zip, Contains}
use Rattle.std.specs.List.{AllByRecursion}
use Rattle.std.specs.List.Sorted.{IsStrictlySortedBy}
use Rattle.std.proofs.lemmas.Cmp.{lists_total}
use Rattle.std.proofs.lemmas.Bool.{and_parts, and_from}
use Rattle.mp_term.specs.Order.{tree_cmp}
use Rattle.mp_term.specs.OrderLaws.{tree_cmp_total, tree_same}
use Rattle.mp_term.specs.Tree.{Tree}
use Rattle.mp_term.specs.Signature.{Sig}
use Rattle.mp_term.specs.Normal.{IsNormal}
use Rattle.mp_term.proofs.ListingLaws.{contains-from_in, in-from_contains}
use Rattle.mp_pattern.specs.PatternTree.{Pattern}
use Rattle.mp_pattern.specs.Size.{pattern_nodes}
use Rattle.mp_pattern.specs.Variables.{variables}
use Rattle.mp_pattern.specs.Value.{Value, one, seq, bag, Subst, same_name}
use Rattle.mp_pattern.specs.Fits.{Table, Fits}
use Rattle.mp_pattern.specs.DerivationOrder.{table_cmp}
use Rattle.mp_pattern.specs.Admission.{Rule, meets, Admits, IsLeast, AreLeast}
use Rattle.mp_pattern.specs.Lists.{IsOneList}
use Rattle.mp_pattern.proofs.NameLaws.{same_name-is, same_name-itself}
use Rattle.mp_theory.specs.Solve.{solve}
use Rattle.mp_theory.specs.Frames.{settle, start}
use Rattle.mp_theory.proofs.Merging.{same_terms-sound, same_terms-complete}
use Rattle.mp_term.specs.Search.{In}
use Rattle.mp_theory.specs.Machine.{takes, tables}
use Rattle.mp_theory.specs.OneList.{Item, same_value, same_subst, admitted, one_list, item_tables, item_substs}
use Rattle.mp_theory.specs.OneList.{item_list, AreItems}
use Rattle.mp_term.proofs.PiecesLaws.{same-sound, same-itself}
use Rattle.mp_theory.proofs.Tables.{tables-exact, tables-ascending, shape-accounts, entry_cmp_total}
use Rattle.mp_theory.proofs.Solving.{then_some}
use Rattle.mp_theory.proofs.FitsSolves.{fits-solves, solves-fits}
use Rattle.mp_theory.proofs.FirstsLaws.{Both, from_both, IsFirst, Added, added}

-- the test of values is sound and complete
same_value-itself : (v : Value) → same_value v v ≡ true
same_value-itself (one t) = same-itself tree_cmp tree_cmp_total tree_same t
same_value-itself (seq ts) = same_terms-complete ts ts refl
same_value-itself (bag ts) = same_terms-complete ts ts refl

same_value-sound : (v w : Value) → same_value v w ≡ true → v ≡ w
same_value-sound (one t) (one u) e = ap one (same-sound tree_cmp tree_cmp_total tree_same t u e)
same_value-sound (seq ts) (seq us) e = ap seq (same_terms-sound ts us e)
same_value-sound (bag ts) (bag us) e = ap bag (same_terms-sound ts us e)
same_value-sound (one t) (seq us) e = cc
same_value-sound (one t) (bag us) e = cc
same_value-sound (seq ts) (one u) e = cc
same_value-sound (seq ts) (bag us) e = cc
same_value-sound (bag ts) (one u) e = cc
same_value-sound (bag ts) (seq us) e = cc

-- so is the test of substitutions
pub same_subst-itself : (s : Subst) → same_subst s s ≡ true
same_subst-itself [] = refl
same_subst-itself (b ∷ s) = and_from _ _ (same_name-itself b.name)
    (and_from _ _ (same_value-itself b.value) (same_subst-itself s))

pub same_subst-sound : (r s : Subst) → same_subst r s ≡ true → r ≡ s
same_subst-sound [] [] e = refl
same_subst-sound [] (c ∷ s) e = cc
same_subst-sound (b ∷ r) [] e = cc
same_subst-sound (b ∷ r) (c ∷ s) e =
    let h = and_parts (same_name b.name c.name) (same_value b.value c.value && same_subst r s) e in
    let k = and_parts (same_value b.value c.value) (same_subst r s) h.1 in
    ap (λ m. record { name = m; value = b.value } ∷ r) (same_name-is b.name c.name h.0)
    ∙ ap (λ m. record { name = c.name; value = m } ∷ r) (same_value-sound b.value c.value k.0)
    ∙ ap (λ m. c ∷ m) (same_subst-sound r s k.1)

module _ (sig : Sig) (r : Rule) (t : Tree) where
  -- s solves the takes of the table
  abbrev Solves : Table → Subst → Type 0
  Solves T s = solve sig [] (takes (settle (start r.pattern t)) T) ≡ Some s

  -- a table gives s exactly where s solves its takes and meets the condition
  from_admitted : (T : Table) (s : Subst) → admitted sig r t T ≡ Some s → Solves T s × (meets sig r.condition s ≡ true)
  from_admitted T s e =
      let a = then_some (λ u. if meets sig r.condition u then Some u else None)
      (solve sig [] (takes (settle (start r.pattern t)) T)) s e in
      elim (meets sig r.condition a.0) as (λ b. meets sig r.condition a.0 ≡ b → (if b then Some a.0 else None) ≡ Some s
      → Solves T s × (meets sig r.condition s ≡ true)) [
        | true ↦ λ m p. let q : a.0 ≡ s = cc in (a.1 ∙ ap Some q, subst (λ u. meets sig r.condition u ≡ true) q m)
        | false ↦ λ m p. cc
      ] refl a.2

  to_admitted : (T : Table) (s : Subst) → Solves T s → meets sig r.condition s ≡ true → admitted sig r t T ≡ Some s
  to_admitted T s e m = rw (e, m) refl

  module _ (normal : IsNormal sig t) where
    -- the first tables and what they give
    abbrev Found : Added same_subst same_subst-itself same_subst-sound (admitted sig r t) table_cmp
        (lists_total entry_cmp_total) [] (tables sig r.pattern t)
    Found = added same_subst same_subst-itself same_subst-sound (admitted sig r t) table_cmp
        (lists_total entry_cmp_total) [] (tables sig r.pattern t) (tables-ascending sig r.pattern t)

    -- the table is the first that gives s
    abbrev First : Subst → Table → Type 0
    First = IsFirst same_subst same_subst-itself same_subst-sound (admitted sig r t) table_cmp
        (lists_total entry_cmp_total) (tables sig r.pattern t)

    -- a table gives s exactly where it fits with s
    fits-admitted : (s : Subst) (T : Table) → Fits sig r.pattern t s T → meets sig r.condition s ≡ true
        → In T (tables sig r.pattern t) × (admitted sig r t T ≡ Some s)
    fits-admitted s T h m = let k = fits-solves sig r.pattern t s T normal h in
        ((tables-exact sig r.pattern t T).1 k.0, to_admitted T s k.1 m)

    admitted-fits : (s : Subst) (T : Table) → In T (tables sig r.pattern t) → admitted sig r t T ≡ Some s
        → Fits sig r.pattern t s T × (meets sig r.condition s ≡ true)
    admitted-fits s T i e = let k = from_admitted T s e in
        (solves-fits sig r.pattern t s T normal ((tables-exact sig r.pattern t T).0 i) k.0, k.1)

    -- so the first table that gives s is the least that fits with it
    first-least : (s : Subst) (T : Table) → First s T → IsLeast sig r.pattern t s T
    first-least s T h =
        let k = admitted-fits s T h.stands h.gives in
        record { fits = k.0; least = λ U u l. let a = fits-admitted s U u k.1 in h.least U a.0 a.1 l }

    are-least : (ss : List Subst) (Ts : List Table) → Both First ss Ts → AreLeast sig r.pattern t ss Ts
    are-least [] [] h = tt
    are-least [] (T ∷ Ts) h = absurd h
    are-least (s ∷ ss) [] h = absurd h
    are-least (s ∷ ss) (T ∷ Ts) h = (first-least s T h.0, are-least ss Ts h.1)

    -- what is found is what the rule admits
    found-exactly : (s : Subst) → Contains Found.items s ↔ Admits sig r t s
    found-exactly s = (
      λ c.
          let f = from_both First Found.items Found.firsts s Found.least (in-from_contains s Found.items c) in
          let k = admitted-fits s f.0 f.1.stands f.1.gives in
          record { table = f.0; fits = k.0; condition = k.1 },
      λ a. let k = fits-admitted s a.table a.fits a.condition in
          contains-from_in s Found.items (Found.complete a.table s k.0 k.1),
    )

    -- the list of the search is the one-list
    pub one_list-is : IsOneList sig r t (one_list sig r t)
    one_list-is = subst (IsOneList sig r t) (sym Found.is)
        (record {
          exactly = found-exactly;
          tables = Found.firsts;
          least = are-least Found.items Found.firsts Found.least;
          ascending = Found.ascending;
        })

    -- of lists with a fact for each place, the pairs give back both
    firsts-zip : (ss : List Subst) (Ts : List Table) → Both First ss Ts → item_tables (zip Ts ss) ≡ Ts
    firsts-zip [] [] h = refl
    firsts-zip [] (T ∷ Ts) h = absurd h
    firsts-zip (s ∷ ss) [] h = absurd h
    firsts-zip (s ∷ ss) (T ∷ Ts) h = ap (λ l. T ∷ l) (firsts-zip ss Ts h.1)

    seconds-zip : (ss : List Subst) (Ts : List Table) → Both First ss Ts → item_substs (zip Ts ss) ≡ ss
    seconds-zip [] [] h = refl
    seconds-zip [] (T ∷ Ts) h = absurd h
    seconds-zip (s ∷ ss) [] h = absurd h
    seconds-zip (s ∷ ss) (T ∷ Ts) h = ap (λ l. s ∷ l) (seconds-zip ss Ts h.1)

    -- the items of the search are the first tables with what they give
    item_list-zip : item_list sig r t ≡ zip Found.firsts Found.items
    item_list-zip = Found.paired [] refl

    -- the substitutions of the items are the one-list
    pub item_substs-item_list : item_substs (item_list sig r t) ≡ one_list sig r t
    item_substs-item_list = ap item_substs item_list-zip ∙ seconds-zip Found.items Found.firsts Found.least
        ∙ sym Found.is

    -- so the items are exactly those of the rule
    pub item_list-are : AreItems sig r t (item_list sig r t)
    item_list-are =
        let ts = firsts-zip Found.items Found.firsts Found.least in
        let ss = seconds-zip Found.items Found.firsts Found.least in
        subst (AreItems sig r t) (sym item_list-zip) (record {
          exactly = λ s. subst (λ us. Contains us s ↔ Admits sig r t s) (sym ss) (found-exactly s);
          least = subst (λ us. AreLeast sig r.pattern t us (item_tables (zip Found.firsts Found.items))) (sym ss)
              (subst (AreLeast sig r.pattern t Found.items) (sym ts) (are-least Found.items Found.firsts Found.least));
          ascending = subst (IsStrictlySortedBy table_cmp) (sym ts) Found.ascending;
        })

-- a table that fits has an entry for each node, and its substitution a value for each variable
fits-shape : (sig : Sig) (p : Pattern) (t : Tree) (s : Subst) (T : Table) → IsNormal sig t → Fits sig p t s T
    → (length T ≡ pattern_nodes p) × (map (λ b. b.name) s ≡ variables p)
fits-shape sig p t s T normal h = ((shape-accounts sig p t T (fits-solves sig p t s T normal h).0).0, h.subst_of.names)

-- so has each item
pub items-shape : (sig : Sig) (r : Rule) (t : Tree) (is : List Item) → IsNormal sig t
    → AreLeast sig r.pattern t (item_substs is) (item_tables is)
    → AllByRecursion (λ i. (length i.0 ≡ pattern_nodes r.pattern) × (map (λ b. b.name) i.1 ≡ variables r.pattern)) is
items-shape sig r t [] normal h = tt
items-shape sig r t (i ∷ is) normal h =
    (fits-shape sig r.pattern t i.1 i.0 normal h.0.fits, items-shape sig r t is normal h.1)
