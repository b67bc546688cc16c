-- The value of a listing, and the steps of a generator through it.
use Rattle.std.proofs.Common.{◌≡◌, ℕ, ◌≤◌, List, [], ◌∷◌, Bool, true, false, refl, sym, inl, subst}
use Rattle.std.proofs.Common.{length, filter, arith}
use Rattle.std.specs.Prelude.{MatchBool}
use Rattle.std.specs.declared.cmp.Ordering.{Ordering}
use Rattle.std.specs.declared.cmp.Ordering.TheVariants.{Equal}
use Rattle.std.specs.Cmp.{IsTotalOrder}
use Rattle.std.specs.List.{AllByRecursion}
use Rattle.mp_term.specs.Listing.{IsListing}
use Rattle.mp_term.proofs.ListingLaws.{contains-from_in, in-from_contains}
use Rattle.mp_term.proofs.ListsAbove.{above-none, above-least, above-next}
use Rattle.mp_term.specs.Search.{In, Accepts}
use Rattle.mp_term.specs.Pieces.{count_to, distinct}
use Rattle.mp_term.proofs.SearchLaws.{in-filter, from_in-filter, words-complete}
use Rattle.mp_term.proofs.PiecesLaws.{in-count_to, in-distinct, from_in-distinct, ascending-distinct}
use Rattle.mp_choice.specs.declared.stage.Stage.{Stage}
use Rattle.mp_choice.specs.declared.stage.Stage.TheVariants.{Before, Standing}
use Rattle.mp_choice.specs.Listed.{number_lists, Reaches, IsExhausted, IsFirst, HasNone, IsNext, IsLast}

accepts-numbers : (most : ℕ) (ns : List ℕ) → AllByRecursion (λ n. n ≤ most) ns
    → Accepts (λ m. count_to 0 m) (λ m n. m) (λ m. true) most ns
accepts-numbers most [] h = refl
accepts-numbers most (n ∷ ns) h = (in-count_to n 0 most (omega arith) (omega (arith, h.0)), accepts-numbers most ns h.1)

-- each list of numbers that are at most the bound is among those of its length
pub in-number_lists : (most length_of : ℕ) (ns : List ℕ) → length ns ≡ length_of → AllByRecursion (λ n. n ≤ most) ns
    → In ns (number_lists most length_of)
in-number_lists most length_of ns e h = subst (λ k. In ns (number_lists most k)) e
    (words-complete (λ m. count_to 0 m) (λ m n. m) (λ m. true) most ns (accepts-numbers most ns h))

module _ {X : Type 0} (cmp : X → X → Ordering) (o : IsTotalOrder cmp) where
  -- where the test decides P and each x with P is in the universe, those that pass, in order, are the listing
  pub listing-distinct : (P : X → Type 0) (test : X → Bool) (universe : List X) → ((x y : X) → cmp x y ≡ Equal → x ≡ y)
      → ((x : X) → P x → test x ≡ true) → ((x : X) → test x ≡ true → P x) → ((x : X) → P x → In x universe)
      → IsListing cmp P (distinct cmp (filter test universe))
  listing-distinct P test universe same passes sound all = record {
    exactly = λ x. (
      λ c. sound x
          (from_in-filter test x universe
          (from_in-distinct cmp o same x (filter test universe)
          (in-from_contains x (distinct cmp (filter test universe)) c))).1,
      λ p. contains-from_in x (distinct cmp (filter test universe))
          (in-distinct cmp o same x (filter test universe) (in-filter test x universe (all x p) (passes x p))),
    );
    ascending = ascending-distinct cmp o same (filter test universe);
  }

  -- the same steps by the listing of P
  module _ (P : X → Type 0) (xs : List X) (l : IsListing cmp P xs) where
    listed : (x : X) → P x → In x xs
    listed x p = in-from_contains x xs ((l.exactly x).1 p)

    has : (x : X) → In x xs → P x
    has x i = (l.exactly x).0 (contains-from_in x xs i)

    -- the first step
    pub after-first : (found : Bool) (stage : Stage) (old new : X) → stage ≡ Before
        → MatchBool found (IsFirst cmp P new) (HasNone P)
        → MatchBool found (Reaches cmp P xs stage old new) (IsExhausted cmp xs stage old)
    after-first found stage old new e h = subst
        (λ s. MatchBool found (Reaches cmp P xs s old new) (IsExhausted cmp xs s old)) (sym e) (by_answer found h)
      where
        none : (ys : List X) → ((y : X) → In y ys → ⊥) → ys ≡ []
        none [] f = refl
        none (y ∷ ys) f = absurd (f y (inl refl))

        by_answer : (found : Bool) → MatchBool found (IsFirst cmp P new) (HasNone P)
            → MatchBool found (Reaches cmp P xs Before old new) (IsExhausted cmp xs Before old)
        by_answer true h =
            record {
              item = h.item;
              to_come = above-least cmp o new xs l.ascending (listed new h.item)
                  (λ y i. h.none_below y (has y i));
            }
        by_answer false h = none xs (λ y i. h y (has y i))

    -- a step from an item
    pub after-next : (found : Bool) (stage : Stage) (old new : X) → stage ≡ Standing
        → MatchBool found (IsNext cmp P old new) (IsLast cmp P old)
        → MatchBool found (Reaches cmp P xs stage old new) (IsExhausted cmp xs stage old)
    after-next found stage old new e h = subst
        (λ s. MatchBool found (Reaches cmp P xs s old new) (IsExhausted cmp xs s old)) (sym e) (by_answer found h)
      where
        by_answer : (found : Bool) → MatchBool found (IsNext cmp P old new) (IsLast cmp P old)
            → MatchBool found (Reaches cmp P xs Standing old new) (IsExhausted cmp xs Standing old)
        by_answer true h =
            record {
              item = h.item;
              to_come = above-next cmp o old new xs l.ascending (listed new h.item) h.above
                  (λ y i. h.none_between y (has y i));
            }
        by_answer false h = above-none cmp o old xs (λ y i. h y (has y i))
