-- The first item of a one-list, and what the first takes of a table say.
use Rattle.std.proofs.Common.{◌≡◌, ◌∙◌, ap, sym, refl, subst, ℕ, ◌≤◌, true, false, ◌&&◌}
use Rattle.std.proofs.Common.{List, [], ◌∷◌, length, arith, ◌⊎◌, inl, inr}
use Rattle.std.specs.Prelude.{Option, slice_get, Some, if◌then◌else◌, nat_eq}
use Rattle.std.specs.declared.cmp.Ordering.TheVariants.{Less, Equal, Greater}
use Rattle.std.specs.Ordering.{nat_cmp, ordering_then}
use Rattle.std.specs.List.Sorted.{IsStrictlySortedBy}
use Rattle.std.specs.Cmp.{nat_cmp_is}
use Rattle.std.specs.Cmp.Lexicographic.{slice_cmp}
use Rattle.std.proofs.lemmas.Cmp.{lists_total}
use Rattle.mp_term.specs.Tree.{Tree, symbol, app, tree_list}
use Rattle.mp_term.specs.Order.{tree_cmp}
use Rattle.mp_term.specs.OrderLaws.{tree_same}
use Rattle.mp_term.specs.Search.{In}
use Rattle.mp_term.specs.Signature.{Sig, is_assoc}
use Rattle.mp_term.specs.Normal.{IsNormal}
use Rattle.mp_term.specs.NormalTest.{has_head}
use Rattle.mp_term.proofs.ListingLaws.{irreflexive, all_in, in-from_contains}
use Rattle.mp_pattern.specs.Admission.{Rule, AreLeast, meets}
use Rattle.mp_pattern.specs.Contribution.{contribution, spread, if_several}
use Rattle.mp_pattern.specs.DerivationOrder.{entry_cmp, table_cmp}
use Rattle.mp_pattern.specs.Fits.{Entry, Table, Fits, WildTakes, TakesBy, AllTakeBy}
use Rattle.mp_pattern.specs.Instance.{is_fully_named}
use Rattle.mp_pattern.specs.PatternTree.{Wildcard, dot, Pattern, Patterns, no_patterns, more_patterns}
use Rattle.mp_pattern.specs.Value.{Value, one, seq, bag, Subst}
use Rattle.mp_theory.specs.NoOptional.{HasNoOptional}
use Rattle.mp_theory.specs.OneList.{one_list}
use Rattle.mp_theory.proofs.OneListLaws.{one_list-is}
use Rattle.mp_theory.proofs.OneTable.{fits-same}
use Rattle.mp_theory.proofs.Tables.{entry_cmp_total}

-- the entry of a list that isn't collapsed
abbrev pub entry : List Tree → Entry
entry l = record { terms = l; collapsed = false }

module _ (sig : Sig) (r : Rule) (t : Tree) (s : Subst) (W : Table) (normal : IsNormal sig t)
    (named : is_fully_named r.pattern ≡ true) (plain : HasNoOptional r.pattern) (fits : Fits sig r.pattern t s W)
    (least : (u : Subst) (V : Table) → Fits sig r.pattern t u V → table_cmp V W ≡ Less → ⊥) where
  -- the table of a member is the one that fits with it
  table_for : (ss : List Subst) (Ts : List Table) → AreLeast sig r.pattern t ss Ts → In s ss → In W Ts
  table_for [] Ts h i = absurd i
  table_for (u ∷ ss) [] h i = absurd h
  table_for (u ∷ ss) (T ∷ Ts) h (inl e) =
      inl (sym (fits-same sig r.pattern t s T W named plain
      (subst (λ v. Fits sig r.pattern t v T) (sym e) h.0.fits) fits))
  table_for (u ∷ ss) (T ∷ Ts) h (inr i) = inr (table_for ss Ts h.1 i)

  heads : (ss : List Subst) (Ts : List Table) → AreLeast sig r.pattern t ss Ts → IsStrictlySortedBy table_cmp Ts
      → In s ss → slice_get ss 0 ≡ Some s
  unfolding IsStrictlySortedBy
  heads [] Ts h a i = absurd i
  heads (u ∷ ss) [] h a i = absurd h
  heads (u ∷ ss) (T ∷ Ts) h a (inl e) = ap Some (sym e)
  heads (u ∷ ss) (T ∷ Ts) h a (inr i) =
      absurd (least u T h.0.fits (all_in (λ V. table_cmp T V ≡ Less) Ts W a.0 (table_for ss Ts h.1 i)))

  -- the substitution whose table is the least of all that fit is the first of the one-list
  pub one_list-first : meets sig r.condition s ≡ true → slice_get (one_list sig r t) 0 ≡ Some s
  one_list-first c =
      let all = one_list-is sig r t normal in
      heads (one_list sig r t) all.tables all.least all.ascending
      (in-from_contains s (one_list sig r t) ((all.exactly s).1 (record { table = W; fits = fits; condition = c })))

-- ---- children in turn

-- the first child's list and table, and those of the others
pub record Front (sig : Sig) (line : Option ℕ → Wildcard → Option (List ℕ) → List Tree → Type 0) (g : ℕ) (p : Pattern)
    (ps : Patterns) (ls : List (List Tree)) (Ts : List Table) : Type 0 where
  pub list : List Tree
  pub lists : List (List Tree)
  pub table : Table
  pub tables : List Table
  pub all_lists : ls ≡ list ∷ lists
  pub all_tables : Ts ≡ table ∷ tables
  pub takes : TakesBy sig line (Some g) p list table
  pub others : AllTakeBy sig line g ps lists tables

module _ (sig : Sig) (line : Option ℕ → Wildcard → Option (List ℕ) → List Tree → Type 0) (g : ℕ) where
  pub front : (p : Pattern) (ps : Patterns) (ls : List (List Tree)) (Ts : List Table)
      → AllTakeBy sig line g (more_patterns p ps) ls Ts → Front sig line g p ps ls Ts
  front p ps [] Ts h = absurd h
  front p ps (l ∷ ls) [] h = absurd h
  front p ps (l ∷ ls) (T ∷ Ts) h = record {
    list = l;
    lists = ls;
    table = T;
    tables = Ts;
    all_lists = refl;
    all_tables = refl;
    takes = h.0;
    others = h.1;
  }

  pub no-more : (ls : List (List Tree)) (Ts : List Table) → AllTakeBy sig line g no_patterns ls Ts
      → (ls ≡ []) × (Ts ≡ [])
  no-more [] [] h = (refl, refl)
  no-more [] (T ∷ Ts) h = absurd h
  no-more (l ∷ ls) Ts h = absurd h

-- ---- what a dot takes

module _ (sig : Sig) (g : ℕ) where
  spread-either : (u : Tree) (l : List Tree) → spread g u ≡ Some l → (l ≡ u ∷ []) ⊎ (2 ≤ length l)
  spread-either (symbol n) l e = let i : symbol n ∷ [] ≡ l = cc in inl (sym i)
  spread-either (app k ts) l e =
      elim (nat_eq g k) as (λ b. (if b then if_several (tree_list ts) else Some (app k ts ∷ [])) ≡ Some l
      → (l ≡ app k ts ∷ []) ⊎ (2 ≤ length l)) [
        | true ↦ λ q. inr (several (tree_list ts) q)
        | false ↦ λ q. let i : app k ts ∷ [] ≡ l = cc in inl (sym i)
      ] e
    where
      several : (ts : List Tree) → if_several ts ≡ Some l → 2 ≤ length l
      several [] q = cc
      several (t ∷ []) q = cc
      several (t ∷ u ∷ ts) q = let i : t ∷ u ∷ ts ≡ l = cc in omega (arith, ap length i)

  -- a term contributes itself, or two terms or more
  pub contribution-either : (u : Tree) (l : List Tree) → contribution sig (Some g) u ≡ Some l
      → (l ≡ u ∷ []) ⊎ (2 ≤ length l)
  contribution-either u l e =
      elim (is_assoc sig g) as (λ b. (if b then spread g u else Some (u ∷ [])) ≡ Some l
      → (l ≡ u ∷ []) ⊎ (2 ≤ length l)) [
        | true ↦ λ q. spread-either u l q
        | false ↦ λ q. let i : u ∷ [] ≡ l = cc in inl (sym i)
      ] e

  -- one that isn't opened contributes itself
  pub contribution-alone : (u : Tree) → (is_assoc sig g && has_head g u) ≡ false
      → contribution sig (Some g) u ≡ Some (u ∷ [])
  contribution-alone u e =
      elim (is_assoc sig g) as (λ b. (b && has_head g u) ≡ false
      → (if b then spread g u else Some (u ∷ [])) ≡ Some (u ∷ [])) [
        | true ↦ λ q. unopened u q
        | false ↦ λ q. refl
      ] e
    where
      unopened : (u : Tree) → has_head g u ≡ false → spread g u ≡ Some (u ∷ [])
      unopened (symbol n) q = refl
      unopened (app k ts) q = rw q refl

  -- the value of a dot
  pub dot-value : (v : Value) (l : List Tree) → WildTakes sig (Some g) dot v l
      → (u : Tree) × (v ≡ one u) × (contribution sig (Some g) u ≡ Some l)
  dot-value (one u) l h = (u, refl, h)
  dot-value (seq us) l h = absurd h
  dot-value (bag us) l h = absurd h

-- ---- the first entries of two tables

-- a table that begins with a list, and isn't behind one that begins with the list of one term
pub begins-before : (l : List Tree) (b : Tree) (T U : Table) → 1 ≤ length l
    → table_cmp (entry l ∷ T) (entry (b ∷ []) ∷ U) ≡ Less
    → (u : Tree) × (l ≡ u ∷ []) × ((tree_cmp u b ≡ Less) ⊎ ((u ≡ b) × (table_cmp T U ≡ Less)))
begins-before [] b T U n e = absurd (omega (arith, n))
begins-before (u ∷ v ∷ l) b T U n e =
    let longer : nat_cmp (length (u ∷ v ∷ l)) 1 ≡ Greater =
    sym (nat_cmp_is (length (u ∷ v ∷ l)) 1 Greater (omega arith)) in
    let wrong : Greater ≡ Less =
    ap (λ o. ordering_then (ordering_then (ordering_then o (slice_cmp tree_cmp (u ∷ v ∷ l) (b ∷ []))) Equal)
    (table_cmp T U)) (sym longer) ∙ e in
    cc
begins-before (u ∷ []) b T U n e = (
  u,
  refl,
  elim (tree_cmp u b) as (λ o. tree_cmp u b ≡ o
      → ordering_then (ordering_then (ordering_then Equal (ordering_then o Equal)) Equal) (table_cmp T U) ≡ Less
      → (tree_cmp u b ≡ Less) ⊎ ((u ≡ b) × (table_cmp T U ≡ Less))) [
        | Less ↦ λ q h. inl q
        | Equal ↦ λ q h. inr (tree_same u b q, h)
        | Greater ↦ λ q h. cc
      ] refl e,
)

-- no table is before itself
pub not_before-itself : (T : Table) → table_cmp T T ≡ Less → ⊥
not_before-itself T = irreflexive table_cmp (lists_total entry_cmp_total) T

-- where the first entries are the same, the others decide
pub same-entry : (d : Entry) (T U : Table) → table_cmp (d ∷ T) (d ∷ U) ≡ Less → table_cmp T U ≡ Less
same-entry d T U e =
    elim (entry_cmp d d) as (λ o. entry_cmp d d ≡ o → ordering_then o (table_cmp T U) ≡ Less → table_cmp T U ≡ Less) [
      | Less ↦ λ q h. absurd (irreflexive entry_cmp entry_cmp_total d q)
      | Equal ↦ λ q h. h
      | Greater ↦ λ q h. cc
    ] refl e
