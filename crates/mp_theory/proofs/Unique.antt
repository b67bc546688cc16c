-- There is one one-list.
use Rattle.std.proofs.Common.{◌≡◌, List, [], ◌∷◌, Bool, true, false, refl, ap, sym, ◌∙◌, inl, inr, subst}
use Rattle.std.specs.Prelude.{Some}
use Rattle.std.specs.declared.cmp.Ordering.TheVariants.{Less, Equal, Greater}
use Rattle.std.specs.Ordering.{bool_cmp, ordering_reverse, is_eq}
use Rattle.std.proofs.lemmas.Cmp.{lists_total}
use Rattle.mp_term.specs.Tree.{Tree}
use Rattle.mp_term.specs.OrderLaws.{both_equal}
use Rattle.mp_term.specs.Signature.{Sig}
use Rattle.mp_term.specs.Normal.{IsNormal}
use Rattle.mp_term.proofs.ListingLaws.{same_members, contains-from_in, in-from_contains}
use Rattle.mp_pattern.specs.PatternTree.{Pattern}
use Rattle.mp_pattern.specs.Value.{Subst}
use Rattle.mp_pattern.specs.Fits.{Entry, Table}
use Rattle.mp_pattern.specs.DerivationOrder.{entry_cmp, table_cmp}
use Rattle.mp_pattern.specs.Admission.{Rule, IsLeast, AreLeast}
use Rattle.mp_pattern.specs.Lists.{IsOneList}
use Rattle.mp_theory.proofs.Merging.{same_terms-sound}
use Rattle.mp_term.specs.Search.{In}
use Rattle.mp_theory.proofs.Tables.{entry_cmp_total}
use Rattle.mp_theory.proofs.FitsSolves.{fits-solves}

-- entries and tables that compare equal are equal
same_mark : (a b : Bool) → bool_cmp a b ≡ Equal → a ≡ b
same_mark true true e = refl
same_mark false false e = refl
same_mark true false e = cc
same_mark false true e = cc

pub same_entry : (d e : Entry) → entry_cmp d e ≡ Equal → d ≡ e
same_entry d e h =
    let k = both_equal _ _ h in
    let t : d.terms ≡ e.terms = same_terms-sound d.terms e.terms (ap is_eq (both_equal _ _ k.0).1) in
    let m : d.collapsed ≡ e.collapsed = same_mark d.collapsed e.collapsed k.1 in
    ap (λ l. record { terms = l; collapsed = d.collapsed }) t ∙ ap (λ b. record { terms = e.terms; collapsed = b }) m

pub same_table : (T U : Table) → table_cmp T U ≡ Equal → T ≡ U
same_table [] [] h = refl
same_table [] (e ∷ U) h = cc
same_table (d ∷ T) [] h = cc
same_table (d ∷ T) (e ∷ U) h = let k = both_equal _ _ h in ap (λ x. x ∷ T) (same_entry d e k.0)
    ∙ ap (λ x. e ∷ x) (same_table T U k.1)

module _ (sig : Sig) (t : Tree) where
  -- a substitution has one least table
  one_least : (p : Pattern) (s : Subst) (T U : Table) → IsLeast sig p t s T → IsLeast sig p t s U → T ≡ U
  one_least p s T U h k =
      elim (table_cmp T U) as (λ o. table_cmp T U ≡ o → T ≡ U) [
        | Less ↦ λ e. absurd (k.least T h.fits e)
        | Equal ↦ λ e. same_table T U e
        | Greater ↦ λ e. absurd (h.least U k.fits ((lists_total entry_cmp_total).antisymm U T ∙ ap ordering_reverse e))
      ] refl

  -- the table of a substitution, and the substitution of a table
  table_for : (p : Pattern) (ss : List Subst) (Ts : List Table) (s : Subst) → AreLeast sig p t ss Ts → In s ss
      → (T : Table) × In T Ts × IsLeast sig p t s T
  table_for p [] Ts s h i = absurd i
  table_for p (u ∷ ss) [] s h i = absurd h
  table_for p (u ∷ ss) (T ∷ Ts) s h (inl e) = (T, inl refl, subst (λ r. IsLeast sig p t r T) (sym e) h.0)
  table_for p (u ∷ ss) (T ∷ Ts) s h (inr i) = let k = table_for p ss Ts s h.1 i in (k.0, inr k.1, k.2)

  subst_for : (p : Pattern) (ss : List Subst) (Ts : List Table) (T : Table) → AreLeast sig p t ss Ts → In T Ts
      → (s : Subst) × In s ss × IsLeast sig p t s T
  subst_for p ss [] T h i = absurd i
  subst_for p [] (U ∷ Ts) T h i = absurd h
  subst_for p (s ∷ ss) (U ∷ Ts) T h (inl e) = (s, inl refl, subst (λ V. IsLeast sig p t s V) (sym e) h.0)
  subst_for p (s ∷ ss) (U ∷ Ts) T h (inr i) = let k = subst_for p ss Ts T h.1 i in (k.0, inr k.1, k.2)

  module _ (r : Rule) (normal : IsNormal sig t) where
    -- the least tables of two one-lists are the same
    table_moves : (ss us : List Subst) (h : IsOneList sig r t ss) (k : IsOneList sig r t us) (T : Table) → In T h.tables
        → In T k.tables
    table_moves ss us h k T i =
        let a = subst_for r.pattern ss h.tables T h.least i in
        let b = table_for r.pattern us k.tables a.0 k.least
        (in-from_contains a.0 us ((k.exactly a.0).1 ((h.exactly a.0).0 (contains-from_in a.0 ss a.1)))) in
        subst (λ V. In V k.tables) (one_least r.pattern a.0 b.0 T b.2 a.2) b.1

    -- and each decides its substitution
    decided : (ss us : List Subst) (Ts : List Table) → AreLeast sig r.pattern t ss Ts → AreLeast sig r.pattern t us Ts
        → ss ≡ us
    decided [] [] [] h k = refl
    decided [] [] (T ∷ Ts) h k = absurd h
    decided [] (u ∷ us) [] h k = absurd k
    decided [] (u ∷ us) (T ∷ Ts) h k = absurd h
    decided (s ∷ ss) us [] h k = absurd h
    decided (s ∷ ss) [] (T ∷ Ts) h k = absurd k
    decided (s ∷ ss) (u ∷ us) (T ∷ Ts) h k =
        let a = fits-solves sig r.pattern t s T normal h.0.fits in
        let b = fits-solves sig r.pattern t u T normal k.0.fits in
        let q : Some s ≡ Some u = sym a.1 ∙ b.1 in
        let e : s ≡ u = cc in
        ap (λ x. x ∷ ss) e ∙ ap (λ x. u ∷ x) (decided ss us Ts h.1 k.1)

    -- so the lists are one
    pub IsOneList-unique : (ss us : List Subst) → IsOneList sig r t ss → IsOneList sig r t us → ss ≡ us
    IsOneList-unique ss us h k =
        let e : h.tables ≡ k.tables = same_members table_cmp
        (lists_total entry_cmp_total) h.tables k.tables h.ascending k.ascending (table_moves ss us h k)
        (table_moves us ss k h) in
        decided ss us k.tables (subst (AreLeast sig r.pattern t ss) e h.least) k.least
