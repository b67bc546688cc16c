-- The entries with lists that ascend: those above one of them.
use Rattle.std.proofs.Common.{◌≡◌, List, [], ◌∷◌, ◌++◌, filter, Bool, true, false, refl, ap, sym, ◌∙◌, inl, inr, subst}
use Rattle.std.specs.Prelude.{if◌then◌else◌}
use Rattle.std.specs.declared.cmp.Ordering.TheVariants.{Less, Equal, Greater}
use Rattle.std.specs.Ordering.{is_lt, ordering_reverse}
use Rattle.std.specs.List.{AllByRecursion}
use Rattle.std.specs.List.Sorted.{IsStrictlySortedBy}
use Rattle.std.proofs.lemmas.Cmp.{tied_itself}
use Rattle.std.proofs.lemmas.List.Elements.{filter-append}
use Rattle.mp_term.specs.Order.{tree_cmp, shortlex}
use Rattle.mp_term.specs.OrderLaws.{tree_cmp_total, shortlex_total}
use Rattle.mp_term.specs.Search.{In}
use Rattle.mp_term.specs.Tree.{Tree}
use Rattle.mp_term.proofs.ListingLaws.{all_in}
use Rattle.mp_pattern.specs.DerivationOrder.{entry_cmp}
use Rattle.mp_pattern.specs.Fits.{Entry}
use Rattle.mp_theory.specs.Items.{above_entry}
use Rattle.mp_theory.specs.Machine.{entries}
use Rattle.mp_search.specs.Drawn.{lists_above}
use Rattle.mp_term.proofs.ListsAbove.{above-head}

abbrev entry : List Tree → Bool → Entry
entry l c = record { terms = l; collapsed = c }

-- filters in either order
pub filter-filter : {X : Type 0} (p q : X → Bool) (xs : List X) → filter p (filter q xs) ≡ filter q (filter p xs)
filter-filter p q [] = refl
filter-filter p q (x ∷ xs) =
    elim (p x) as
    (λ a. p x ≡ a → filter p (filter q (x ∷ xs)) ≡ filter q (if a then x ∷ filter p xs else filter p xs)) [
      | true ↦ λ e. elim (q x) as
          (λ b. q x ≡ b → filter p (if b then x ∷ filter q xs else filter q xs)
          ≡ (if b then x ∷ filter q (filter p xs) else filter q (filter p xs))) [
            | true ↦ λ f. rw e (ap (λ ys. x ∷ ys) (filter-filter p q xs))
            | false ↦ λ f. filter-filter p q xs
          ] refl
      | false ↦ λ e. elim (q x) as
          (λ b. filter p (if b then x ∷ filter q xs else filter q xs) ≡ filter q (filter p xs)) [
            | true ↦ rw e (filter-filter p q xs)
            | false ↦ filter-filter p q xs
          ]
    ] refl

-- the entries of lists that are above l are above those of l
above-later : (l : List Tree) (c : Bool) (ls : List (List Tree))
    → AllByRecursion (λ m. shortlex tree_cmp l m ≡ Less) ls → above_entry (entry l c) (entries ls) ≡ entries ls
above-later l c [] h = refl
above-later l c (m ∷ ls) h =
    rw h.0 (ap (λ es. entry m false ∷ entry m true ∷ es) (above-later l c ls h.1))

-- the collapsed entry of a list, which comes right after the one that isn't
abbrev pub mark_left : List Tree → Bool → List Entry
mark_left l c = if c then [] else entry l true ∷ []

-- behind an entry come the collapsed one with its list, and those with later lists
above-entries : (l : List Tree) (c : Bool) (ls : List (List Tree)) → IsStrictlySortedBy (shortlex tree_cmp) ls
    → In l ls → above_entry (entry l c) (entries ls) ≡ mark_left l c ++ entries (lists_above tree_cmp l ls)
unfolding IsStrictlySortedBy
above-entries l c [] s i = absurd i
above-entries l c (m ∷ ls) s (inl e) = subst
    (λ k. above_entry (entry k c) (entries (m ∷ ls)) ≡ mark_left k c ++ entries (lists_above tree_cmp k (m ∷ ls)))
    (sym e) (rw (above-head (shortlex tree_cmp) (shortlex_total tree_cmp_total) m ls s.0) (own c))
  where
    tied : shortlex tree_cmp m m ≡ Equal
    tied = tied_itself (shortlex_total tree_cmp_total) m

    own : (c : Bool) → above_entry (entry m c) (entries (m ∷ ls)) ≡ mark_left m c ++ entries ls
    own true = rw tied (above-later m true ls s.0)
    own false = rw tied (ap (λ es. entry m true ∷ es) (above-later m false ls s.0))
above-entries l c (m ∷ ls) s (inr i) =
    let below : shortlex tree_cmp m l ≡ Less = all_in (λ k. shortlex tree_cmp m k ≡ Less) ls l s.0 i in
    let other : shortlex tree_cmp l m ≡ Greater =
    (shortlex_total tree_cmp_total).antisymm l m ∙ ap ordering_reverse below in
    rw other (above-entries l c ls s.1 i)

-- so it is with the entries that pass a test
pub above-read : (p : Entry → Bool) (l : List Tree) (c : Bool) (ls : List (List Tree))
    → IsStrictlySortedBy (shortlex tree_cmp) ls → In l ls
    → above_entry (entry l c) (filter p (entries ls))
    ≡ filter p (mark_left l c) ++ filter p (entries (lists_above tree_cmp l ls))
above-read p l c ls s i =
    filter-filter (λ d. is_lt (entry_cmp (entry l c) d)) p (entries ls) ∙ ap (filter p) (above-entries l c ls s i)
    ∙ filter-append p (mark_left l c) (entries (lists_above tree_cmp l ls))
