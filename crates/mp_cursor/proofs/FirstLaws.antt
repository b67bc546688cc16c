-- The table of a subject and of a rule's constants holds these.
use Rattle.std.proofs.Common.{◌≡◌, List, [], ◌∷◌, refl, ap, sym, ◌∙◌}
use Rattle.std.specs.Prelude.{Option, Some, None, IsSome, flat_map, map, option_map, slice_get}
use Rattle.std.specs.List.{AllByRecursion}
use Rattle.mp_term.specs.Tree.{Tree}
use Rattle.mp_term.specs.Search.{In}
use Rattle.mp_term.specs.Order.{tree_cmp}
use Rattle.mp_term.specs.Listing.{IsListing}
use Rattle.mp_term.proofs.ListingLaws.{contains-from_in, in-from_contains}
use Rattle.mp_term.proofs.SearchLaws.{all-from_in, in-left}
use Rattle.mp_pattern.specs.Admission.{Rule}
use Rattle.mp_pattern.specs.Constants.{rule_constants, IsConstantOf}
use Rattle.mp_pattern.specs.Lists.{IsOneList}
use Rattle.mp_pattern.specs.Value.{Subst}
use Rattle.mp_theory.specs.OneList.{Item, item_list, one_list}
use Rattle.mp_theory.proofs.OneListLaws.{one_list-is, item_substs-item_list}
use Rattle.mp_term.specs.Normal.{IsNormal}
use Rattle.mp_term.specs.Signature.{Sig}
use Rattle.mp_table.specs.Table.{Table, IsTableOf, rank_of}
pub use Rattle.mp_search.proofs.TableLaws.{subject-built}
use Rattle.mp_search.proofs.TableLaws.{held-built}
use Rattle.mp_cursor.specs.Listing.{Listing, advanced}

module _ (t : Table) (subject : Tree) (ts : List Tree) (h : IsTableOf subject ts t) where
  pub constants-held : (r : Rule) → IsListing tree_cmp (IsConstantOf (r ∷ [])) ts
      → AllByRecursion (λ u. IsSome (rank_of t u)) (rule_constants r)
  constants-held r l = all-from_in (λ u. IsSome (rank_of t u)) (rule_constants r) (λ u i.
      let listed : In u ts = in-from_contains u ts ((l.exactly u).1
      (contains-from_in u (flat_map rule_constants (r ∷ [])) (in-left u (rule_constants r) [] i))) in
      held-built t subject ts h u listed)

-- the first of mapped items
first-mapped : {X Y : Type 0} (f : X → Y) (xs : List X) → option_map f (slice_get xs 0) ≡ slice_get (map f xs) 0
first-mapped f [] = refl
first-mapped f (x ∷ xs) = refl

pub no-some : {X : Type 0} (o : Option X) → (IsSome o → ⊥) → o ≡ None
no-some None h = refl
no-some (Some x) h = absurd (h refl)

module _ (sig : Sig) (r : Rule) (t : Tree) (n : IsNormal sig t) where
  -- the first item has the first substitution
  pub first-item : (o : Option Item) → o ≡ slice_get (item_list sig r t) 0
      → option_map (λ i. i.1) o ≡ slice_get (one_list sig r t) 0
  first-item o e =
      ap (option_map (λ (i : Item). i.1)) e
      ∙ first-mapped (λ (i : Item). i.1) (item_list sig r t)
      ∙ ap (λ ss. slice_get ss 0) (item_substs-item_list sig r t n)

  -- and where there is no item there is none
  pub no-item : item_list sig r t ≡ [] → None ≡ slice_get (one_list sig r t) 0
  no-item e = first-item None (ap (λ is. slice_get is 0) (sym e))

  -- one step from the start is the first item
  pub first-step : (begun now : Listing) (u : Tree) → now ≡ advanced begun → begun.to_come ≡ item_list sig r u → u ≡ t
      → now.item ≡ slice_get (item_list sig r t) 0
  first-step begun now u moved list same =
      ap (λ (l : Listing). l.item) moved
      ∙ ap (λ is. slice_get is 0) list
      ∙ ap (λ v. slice_get (item_list sig r v) 0) same

  pub first-exact : (o : Option Subst) → o ≡ slice_get (one_list sig r t) 0
      → (ss : List Subst) × IsOneList sig r t ss × (o ≡ slice_get ss 0)
  first-exact o e = (one_list sig r t, one_list-is sig r t n, e)
