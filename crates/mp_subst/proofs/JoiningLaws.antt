-- Values by ranks in a table merge by their forms, their operations and their ranks.
use Rattle.std.proofs.Common.{◌≡◌, ℕ, Bool, true, false, List, refl, ap, sym, ◌∙◌}
use Rattle.std.specs.Prelude.{Option, Some, None, if◌then◌else◌, ◌↔◌, IsTrue}
use Rattle.std.specs.Ordering.{is_eq, eq_by_cmp}
use Rattle.std.specs.Cmp.Lexicographic.{slice_cmp}
use Rattle.std.proofs.lemmas.Map.Views.{tells_apart}
use Rattle.mp_term.specs.Tree.{Tree}
use Rattle.mp_term.specs.Sorting.{sorted}
use Rattle.mp_term.proofs.ListLaws.{bool_same}
use Rattle.mp_pattern.specs.Value.{Value, seq, bag, one_form, seq_form, bag_form, merge}
use Rattle.mp_pattern.specs.Lists.{value_cmp}
use Rattle.mp_pattern.specs.PlanView.{form}
use Rattle.mp_pattern.specs.declared.entry.Form.{Form}
use Rattle.mp_pattern.specs.declared.entry.Form.TheVariants.{One, Seq, Bag}
use Rattle.mp_table.specs.Table.{Table, IsTable, rank_cmp}
use Rattle.mp_table.specs.declared.rank.Rank.{Rank}
use Rattle.mp_subst.specs.Bound.{Bound, value_from, value_in, IsBoundIn}
use Rattle.mp_subst.specs.Choice.{chosen}
use Rattle.mp_subst.specs.declared.merging.Choice.{Choice}
use Rattle.mp_subst.specs.declared.merging.Choice.TheVariants.{Old, New, Neither}
use Rattle.mp_subst.proofs.Equality.{is_mixed, chosen-equal, values_equal, value_cmp-same}
use Rattle.mp_subst.proofs.BoundLaws.{same_multiset-ranks, bounds_same}

-- the lists are equal as multisets
abbrev same_multiset : List Rank → List Rank → Bool
same_multiset rs ss = eq_by_cmp (slice_cmp rank_cmp) (sorted rank_cmp rs) (sorted rank_cmp ss)

chosen-seq_bag : (ts us : List Tree) (b : Bool) → chosen (seq ts) (bag us) (if b then Old else Neither)
    ≡ (if b then Some (seq ts) else None)
chosen-seq_bag ts us true = refl
chosen-seq_bag ts us false = refl

chosen-bag_seq : (ts us : List Tree) (b : Bool) → chosen (bag ts) (seq us) (if b then New else Neither)
    ≡ (if b then Some (seq us) else None)
chosen-bag_seq ts us true = refl
chosen-bag_seq ts us false = refl

module _ (t : Table) (h : IsTable t) (a b : Bound) (p : IsBoundIn t a) (q : IsBoundIn t b) where
  pub join-seq_bag : (o : Choice) → o ≡ (if same_multiset a.ranks b.ranks then Old else Neither)
      → a.form ≡ seq_form → b.form ≡ bag_form
      → chosen (value_in t a) (value_in t b) o ≡ merge (value_in t a) (value_in t b)
  join-seq_bag o e f g =
      rw (f, g, e, sym (same_multiset-ranks t h a.ranks b.ranks p.ranks q.ranks)) (chosen-seq_bag _ _ _)

  pub join-bag_seq : (o : Choice) → o ≡ (if same_multiset a.ranks b.ranks then New else Neither)
      → a.form ≡ bag_form → b.form ≡ seq_form
      → chosen (value_in t a) (value_in t b) o ≡ merge (value_in t a) (value_in t b)
  join-bag_seq o e f g =
      rw (f, g, e, sym (same_multiset-ranks t h a.ranks b.ranks p.ranks q.ranks)) (chosen-bag_seq _ _ _)

  pub join-equal : (r : Bool) (o : Choice) → o ≡ (if r then Old else Neither) → IsTrue r ↔ (a ≡ b)
      → is_mixed (value_in t a) (value_in t b) ≡ false
      → chosen (value_in t a) (value_in t b) o ≡ merge (value_in t a) (value_in t b)
  join-equal r o e same m =
      let test : r ≡ is_eq (value_cmp (value_in t a) (value_in t b)) =
      bool_same r (is_eq (value_cmp (value_in t a) (value_in t b)))
      (λ k. values_equal (value_in t a) (value_in t b) (ap (value_in t) (same.0 k)))
      (λ k. same.1 (bounds_same t h a b p q (tells_apart value_cmp-same (value_in t a) (value_in t b) k))) in
      ap (chosen (value_in t a) (value_in t b)) (e ∙ ap (λ k. if k then Old else Neither) test)
      ∙ chosen-equal (value_in t a) (value_in t b) m

-- values that aren't a tuple and a multiset
module _ (t : Table) (w v : Option ℕ) (rs ss : List Rank) where
  pub tuple_with : (g : Form) → (g ≡ Bag → ⊥)
      → is_mixed (value_from t seq_form w rs) (value_from t (form g) v ss) ≡ false
  tuple_with One n =
      elim v as (λ u. is_mixed (value_from t seq_form w rs) (value_from t one_form u ss) ≡ false)
      [ None ↦ refl | Some f ↦ refl ]
  tuple_with Seq n = refl
  tuple_with Bag n = absurd (n refl)

  pub multiset_with : (g : Form) → (g ≡ Seq → ⊥)
      → is_mixed (value_from t bag_form w rs) (value_from t (form g) v ss) ≡ false
  multiset_with One n =
      elim v as (λ u. is_mixed (value_from t bag_form w rs) (value_from t one_form u ss) ≡ false)
      [ None ↦ refl | Some f ↦ refl ]
  multiset_with Seq n = absurd (n refl)
  multiset_with Bag n = refl

  pub one_with : (u : Value) → is_mixed (value_from t one_form w rs) u ≡ false
  one_with u = elim w as (λ x. is_mixed (value_from t one_form x rs) u ≡ false) [ None ↦ refl | Some f ↦ refl ]
