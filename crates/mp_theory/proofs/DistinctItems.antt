-- Where a substitution decides its table, no two derivations have one substitution.
use Rattle.std.proofs.Common.{◌≡◌, List, [], ◌∷◌, true, false, refl, sym, inl, inr, subst}
use Rattle.std.specs.Prelude.{Some, None, filter_map}
use Rattle.std.specs.declared.cmp.Ordering.TheVariants.{Less}
use Rattle.std.specs.List.{cons_option}
use Rattle.std.specs.List.Sorted.{IsStrictlySortedBy}
use Rattle.std.proofs.lemmas.Cmp.{lists_total}
use Rattle.mp_term.specs.Tree.{Tree}
use Rattle.mp_term.specs.Signature.{Sig}
use Rattle.mp_term.specs.Normal.{IsNormal}
use Rattle.mp_term.proofs.ListingLaws.{all_in, irreflexive}
use Rattle.mp_pattern.specs.PatternTree.{Pattern}
use Rattle.mp_pattern.specs.Size.{pattern_nodes}
use Rattle.mp_pattern.specs.Fits.{Table, Fits}
use Rattle.mp_pattern.specs.DerivationOrder.{table_cmp}
use Rattle.mp_pattern.specs.Instance.{is_fully_named}
use Rattle.mp_term.specs.Search.{In}
use Rattle.mp_theory.specs.NoOptional.{HasNoOptional}
use Rattle.mp_theory.specs.Frames.{settle, start}
use Rattle.mp_theory.specs.Machine.{tables}
use Rattle.mp_theory.specs.OneList.{Item, same_item}
use Rattle.mp_theory.specs.Trail.{derivations}
use Rattle.mp_theory.proofs.FirstsLaws.{Distinct}
use Rattle.mp_theory.proofs.Tables.{tables-ascending, entry_cmp_total}
use Rattle.mp_theory.proofs.OneListLaws.{same_subst-sound}
use Rattle.mp_theory.proofs.OneTable.{fits-same}
use Rattle.mp_theory.proofs.TrailLaws.{all-filter_map, table_item, table_item-fits, derivations-start}

module _ (sig : Sig) (p : Pattern) (t : Tree) (named : is_fully_named p ≡ true) (plain : HasNoOptional p)
    (normal : IsNormal sig t) where
  -- two tables that fit in order have different substitutions
  same_item-later : (T U : Table) (i j : Item) → Fits sig p t i.1 T → Fits sig p t j.1 U → table_cmp T U ≡ Less
      → same_item i j ≡ false
  same_item-later T U i j h k less =
      elim (same_item i j) as (λ b. same_item i j ≡ b → b ≡ false) [
        | true ↦ λ e.
            let one : T ≡ U = fits-same sig p t i.1 T U named plain h
            (subst (λ s. Fits sig p t s U) (sym (same_subst-sound i.1 j.1 e)) k) in
            absurd (irreflexive table_cmp (lists_total entry_cmp_total) U (subst (λ V. table_cmp V U ≡ Less) one less))
        | false ↦ λ e. refl
      ] refl

  distinct-items : (Ts : List Table) → IsStrictlySortedBy table_cmp Ts → ((T : Table) → In T Ts → In T (tables sig p t))
      → Distinct same_item (filter_map (table_item sig p t) Ts)
  unfolding IsStrictlySortedBy
  distinct-items [] up among = tt
  distinct-items (T ∷ Ts) up among =
      let rest = distinct-items Ts up.1 (λ U i. among U (inr i)) in
      elim (table_item sig p t T) as (λ o. table_item sig p t T ≡ o
      → Distinct same_item (cons_option o (filter_map (table_item sig p t) Ts))) [
        | None ↦ λ e. rest
        | Some i ↦ λ e. (
          all-filter_map (λ j. same_item i j ≡ false) (table_item sig p t) Ts (λ U j m g.
              same_item-later T U i j (table_item-fits sig p t T i normal (among T (inl refl)) e).1
              (table_item-fits sig p t U j normal (among U (inr m)) g).1
              (all_in (λ V. table_cmp T V ≡ Less) Ts U up.0 m)),
          rest,
        )
      ] refl

  pub distinct-derivations : Distinct same_item (derivations sig (pattern_nodes p) (settle (start p t)) [] [])
  distinct-derivations = subst (Distinct same_item) (sym (derivations-start sig p t))
      (distinct-items (tables sig p t) (tables-ascending sig p t) (λ T i. i))
