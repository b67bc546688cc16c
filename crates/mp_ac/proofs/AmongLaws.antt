-- What comes behind an item where the first child takes one term: the others of the term, and then the later terms.
use Rattle.std.proofs.Common.{◌≡◌, ℕ, List, [], ◌∷◌, ◌++◌, map, Bool, true, false, refl}
use Rattle.std.proofs.Common.{ap, sym, ◌∙◌, subst, inl, inr}
use Rattle.std.specs.Prelude.{Some, if◌then◌else◌}
use Rattle.std.specs.declared.cmp.Ordering.TheVariants.{Less}
use Rattle.std.specs.Ordering.{is_eq, ordering_then}
use Rattle.std.specs.List.Sorted.{IsStrictlySortedBy}
use Rattle.std.proofs.lemmas.Cmp.{tied_itself}
use Rattle.mp_term.specs.Order.{tree_cmp}
use Rattle.mp_term.specs.OrderLaws.{tree_cmp_total}
use Rattle.mp_term.specs.Pieces.{without}
use Rattle.mp_term.specs.Search.{In}
use Rattle.mp_term.specs.Signature.{Sig}
use Rattle.mp_term.specs.Tree.{Tree, symbol, app}
use Rattle.mp_term.proofs.ListingLaws.{all_in, irreflexive}
use Rattle.mp_term.proofs.SearchLaws.{in-flat, from_in-flat, in-map, from_in-map, in-right}
use Rattle.mp_pattern.specs.DerivationOrder.{table_cmp}
use Rattle.mp_pattern.specs.Fits.{Table}
use Rattle.mp_pattern.specs.PatternTree.{Pattern, symbol_pattern, app_pattern, wild_pattern, Patterns}
use Rattle.mp_pattern.specs.Value.{Subst}
use Rattle.mp_theory.specs.Filled.{filled}
use Rattle.mp_theory.specs.OneList.{Item, item_tables}
use Rattle.mp_theory.specs.Shape.{shape, table_of}
use Rattle.mp_theory.specs.Trail.{listed_by}
use Rattle.mp_theory.proofs.ItemLaws.{in-listed_by}
use Rattle.mp_theory.proofs.Tables.{entry_cmp_total}
use Rattle.mp_ac.specs.CommList.{comm_list, behind_table}
use Rattle.mp_theory.specs.Items.{in_front}
use Rattle.mp_ac.specs.TakesOne.{is_left, items_with, items_by, items_among}
use Rattle.mp_ac.proofs.BehindLaws.{other-table, table-in, table_total}
use Rattle.mp_theory.proofs.NextTerm.{entry}

-- the items with other tables are passed
behind-others : (V : Table) (is js : List Item) → ((i : Item) → In i is → V ≡ i.0 → ⊥)
    → behind_table V (is ++ js) ≡ behind_table V js
behind-others V [] js h = refl
behind-others V (i ∷ is) js h =
    ap (λ b. if b then is ++ js else behind_table V (is ++ js)) (other-table V i.0 (h i (inl refl)))
    ∙ behind-others V is js (λ k m. h k (inr m))

-- and where a list has the table the lists after it are untouched
behind-left : (V : Table) (is js : List Item) → In V (item_tables is)
    → behind_table V (is ++ js) ≡ behind_table V is ++ js
behind-left V [] js h = absurd h
behind-left V (i ∷ is) js h =
    elim (is_eq (table_cmp V i.0)) as (λ b. is_eq (table_cmp V i.0) ≡ b
    → (if b then is ++ js else behind_table V (is ++ js)) ≡ (if b then is else behind_table V is) ++ js) [
      | true ↦ λ e. refl
      | false ↦ λ e. behind-left V is js (elim h [
        | inl q ↦
            let t : is_eq (table_cmp V i.0) ≡ true =
            subst (λ U. is_eq (table_cmp V U) ≡ true) q (ap is_eq (tied_itself table_total V)) in
            let x : true ≡ false = sym t ∙ e in
            cc
        | inr m ↦ m
      ])
    ] refl

-- entries that both tables begin with say nothing
same-front : (T V W : Table) → table_cmp (T ++ V) (T ++ W) ≡ table_cmp V W
same-front [] V W = refl
same-front (e ∷ T) V W =
    ap (λ o. ordering_then o (table_cmp (T ++ V) (T ++ W))) (tied_itself entry_cmp_total e) ∙ same-front T V W

pub behind-in_front : (T W : Table) (is : List Item)
    → behind_table (T ++ W) (map (in_front T) is) ≡ map (in_front T) (behind_table W is)
behind-in_front T W [] = refl
behind-in_front T W (i ∷ is) =
    ap (λ o. if is_eq o then map (in_front T) is else behind_table (T ++ W) (map (in_front T) is)) (same-front T W i.0)
    ∙ elim (is_eq (table_cmp W i.0)) as
    (λ b. (if b then map (in_front T) is else behind_table (T ++ W) (map (in_front T) is))
    ≡ map (in_front T) (if b then is else behind_table W is)) [ true ↦ refl | false ↦ behind-in_front T W is ]

-- the table of a shape begins with its term
table-first : (p : Pattern) (t : Tree) → shape p t ≡ true → (T : Table) × (table_of p t ≡ entry t false ∷ T)
table-first (symbol_pattern n) t h = ([], refl)
table-first (wild_pattern w x) t h = ([], refl)
table-first (app_pattern g ps) (symbol n) h = cc
table-first (app_pattern g ps) (app i ts) h = (_, refl)

same-first : (t u : Tree) (V W : Table) → entry t false ∷ V ≡ entry u false ∷ W → t ≡ u
same-first t u V W q =
    let e : entry t false ≡ entry u false = cc in
    let l : t ∷ [] ≡ u ∷ [] = ap (λ e. e.terms) e in
    cc

module _ (sig : Sig) (g : ℕ) (p : Pattern) (ps : Patterns) (left : List Tree) (owes : Bool) (s : Subst) where
  -- the items of a term, and those of terms in turn
  abbrev of_term : Tree → List Item
  of_term = items_by sig g p ps left owes s

  abbrev of_terms : List Tree → List Item
  of_terms = items_among sig g p ps left owes s

  -- what the later children find behind the term
  abbrev later : Tree → Subst → List Item
  later t r = comm_list sig g ps (without tree_cmp (t ∷ []) left) owes r

  -- what an item of a term says: the term is left, has the shape, and is filled, and the later children go on
  pub record TakesTermFirst (t : Tree) (V : Table) : Type 0 where
    pub stands : is_left left t ≡ true
    pub has_shape : shape p t ≡ true
    pub after : Subst
    pub fills : filled sig p t s ≡ Some after
    pub rest : Table
    pub table : V ≡ table_of p t ++ rest
    pub goes_on : In rest (item_tables (later t after))

  pub from_in-items_by : (t : Tree) (V : Table) → In V (item_tables (of_term t)) → TakesTermFirst t V
  from_in-items_by t V h =
      let m = from_in-map (λ (i : Item). i.0) V (of_term t) h in
      by_left (is_left left t) (shape p t) refl refl m.0 m.1 m.2
    where
      by_left : (a b : Bool) → is_left left t ≡ a → shape p t ≡ b → (i : Item) → V ≡ i.0
          → In i (if a then (if b then items_with sig g p ps left owes s t else []) else []) → TakesTermFirst t V
      by_left false b q r i e k = absurd k
      by_left true false q r i e k = absurd k
      by_left true true q r i e k =
          let m = from_in-map (in_front (table_of p t)) i (listed_by (λ u. later t u) (filled sig p t s)) k in
          let l = in-listed_by (λ u. later t u) (filled sig p t s) m.0 m.2 in
          record {
            stands = q;
            has_shape = r;
            after = l.0;
            fills = l.1;
            rest = m.0.0;
            table = e ∙ ap (λ j. j.0) m.1;
            goes_on = table-in (later t l.0) m.0 l.2;
          }

  -- the items of a term that is left, has the shape and is filled
  pub items_by-filled : (t : Tree) (r : Subst) → is_left left t ≡ true → shape p t ≡ true → filled sig p t s ≡ Some r
      → of_term t ≡ map (in_front (table_of p t)) (later t r)
  items_by-filled t r l h f =
      ap (λ b. if b then (if shape p t then items_with sig g p ps left owes s t else []) else []) l
      ∙ ap (λ b. if b then items_with sig g p ps left owes s t else []) h
      ∙ ap (λ o. map (in_front (table_of p t)) (listed_by (λ u. later t u) o)) f

  pub in-items_by : (t : Tree) (r : Subst) (W : Table) → is_left left t ≡ true → shape p t ≡ true
      → filled sig p t s ≡ Some r → In W (item_tables (later t r))
      → In (table_of p t ++ W) (item_tables (of_term t))
  in-items_by t r W l h f m =
      let a = from_in-map (λ (i : Item). i.0) W (later t r) m in
      let b = table-in (map (in_front (table_of p t)) (later t r)) (in_front (table_of p t) a.0)
      (in-map (in_front (table_of p t)) a.0 (later t r) a.2) in
      subst (λ is. In (table_of p t ++ W) (item_tables is)) (sym (items_by-filled t r l h f))
      (subst (λ U. In (table_of p t ++ U) (item_tables (map (in_front (table_of p t)) (later t r)))) (sym a.1) b)

  -- behind one of them are the others of the later children
  pub behind_table-items_by : (t : Tree) (r : Subst) (W : Table) → is_left left t ≡ true → shape p t ≡ true
      → filled sig p t s ≡ Some r
      → behind_table (table_of p t ++ W) (of_term t) ≡ map (in_front (table_of p t)) (behind_table W (later t r))
  behind_table-items_by t r W l h f =
      ap (behind_table (table_of p t ++ W)) (items_by-filled t r l h f)
      ∙ behind-in_front (table_of p t) W (later t r)

  -- each of them begins with the term
  pub items_by-first : (t : Tree) (V : Table) → In V (item_tables (of_term t)) → (W : Table) × (V ≡ entry t false ∷ W)
  items_by-first t V h =
      let m = from_in-items_by t V h in
      let f = table-first p t m.has_shape in
      (f.0 ++ m.rest, m.table ∙ ap (λ T. T ++ m.rest) f.1)

  -- behind an item of a term are the others of the term and then those of the later ones
  pub behind_table-among : (us : List Tree) (t : Tree) (ws : List Tree) (V : Table)
      → IsStrictlySortedBy tree_cmp (us ++ t ∷ ws) → In V (item_tables (of_term t))
      → behind_table V (of_terms (us ++ t ∷ ws)) ≡ behind_table V (of_term t) ++ of_terms ws
  unfolding IsStrictlySortedBy
  behind_table-among [] t ws V up h = behind-left V (of_term t) (of_terms ws) h
  behind_table-among (a ∷ us) t ws V up h =
      behind-others V (of_term a) (of_terms (us ++ t ∷ ws)) (λ i m q.
      let v = items_by-first t V h in
      let w = items_by-first a i.0 (table-in (of_term a) i m) in
      let same : t ≡ a = same-first t a v.0 w.0 (sym v.1 ∙ q ∙ w.1) in
      let less : tree_cmp a t ≡ Less =
      all_in (λ x. tree_cmp a x ≡ Less) (us ++ t ∷ ws) t up.0 (in-right t us (t ∷ ws) (inl refl)) in
      irreflexive tree_cmp tree_cmp_total a (subst (λ x. tree_cmp a x ≡ Less) same less))
      ∙ behind_table-among us t ws V up.1 h

  -- the items of a term are items of terms among which it is
  pub in-among : (ts : List Tree) (t : Tree) (V : Table) → In t ts → In V (item_tables (of_term t))
      → In V (item_tables (of_terms ts))
  in-among ts t V h k =
      let m = from_in-map (λ (i : Item). i.0) V (of_term t) k in
      subst (λ U. In U (item_tables (of_terms ts))) (sym m.1)
      (table-in (of_terms ts) m.0 (in-flat of_term t m.0 ts h m.2))

  -- and back, each is of one of them
  pub from_in-among : (ts : List Tree) (V : Table) → In V (item_tables (of_terms ts))
      → (t : Tree) × In t ts × In V (item_tables (of_term t))
  from_in-among ts V h =
      let m = from_in-map (λ (i : Item). i.0) V (of_terms ts) h in
      let f = from_in-flat of_term m.0 ts m.2 in
      (f.0, f.1, subst (λ U. In U (item_tables (of_term f.0))) (sym m.1) (table-in (of_term f.0) m.0 f.2))

  -- of the one with which its table begins
  pub in-term : (ts : List Tree) (t : Tree) (V W : Table) → V ≡ entry t false ∷ W
      → In V (item_tables (of_terms ts)) → In V (item_tables (of_term t))
  in-term ts t V W e h =
      let m = from_in-among ts V h in
      let f = items_by-first m.0 V m.2 in
      subst (λ u. In V (item_tables (of_term u))) (sym (same-first t m.0 W f.0 (sym e ∙ f.1))) m.2

  -- as it is with the table of a shape
  pub in-table : (ts : List Tree) (t : Tree) (W : Table) → shape p t ≡ true
      → In (table_of p t ++ W) (item_tables (of_terms ts)) → In (table_of p t ++ W) (item_tables (of_term t))
  in-table ts t W h m =
      let f = table-first p t h in
      in-term ts t (table_of p t ++ W) (f.0 ++ W) (ap (λ T. T ++ W) f.1) m
