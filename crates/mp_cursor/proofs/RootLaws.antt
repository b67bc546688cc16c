-- What a pattern that takes a term at the root says of it.
use Rattle.std.proofs.Common.{◌≡◌, List, [], ◌∷◌, ◌++◌, Bool, true, false, refl, ap, sym, ◌∙◌, inl, inr, ℕ}
use Rattle.std.proofs.Common.{subst}
use Rattle.std.proofs.lemmas.Bool.{not-true, and_from}
use Rattle.std.specs.Prelude.{Option, Some, None, filter, if◌then◌else◌}
use Rattle.std.specs.Ordering.{is_eq, nat_cmp}
use Rattle.std.specs.Cmp.{nat_cmp_total}
use Rattle.std.specs.Cmp.Lexicographic.{slice_cmp}
use Rattle.std.proofs.lemmas.Cmp.{tied_itself, lists_total}
use Rattle.std.proofs.lemmas.List.Folds.{list_any_at}
use Rattle.std.specs.List.{list_any}
use Rattle.mp_term.specs.Order.{tree_cmp}
use Rattle.mp_term.specs.Sorting.{sorted}
use Rattle.mp_term.specs.Tree.{Tree, Trees, symbol, app, trees, tree_list}
use Rattle.mp_term.specs.Signature.{Sig, is_one, is_assoc, is_comm}
use Rattle.mp_term.specs.Normal.{IsNormal}
use Rattle.mp_term.specs.Listing.{In}
use Rattle.mp_term.proofs.ListingLaws.{all_in, contains-from_in}
use Rattle.mp_term.proofs.SearchLaws.{in-left, in-right}
use Rattle.mp_term.specs.TreeLists.{tree_list-trees}
use Rattle.mp_pattern.proofs.SortedLaws.{in-sorted}
use Rattle.mp_pattern.specs.Admission.{Rule, meets}
use Rattle.mp_pattern.specs.Fits as fits
use Rattle.mp_pattern.specs.Contribution.{contribution, spread}
use Rattle.mp_pattern.specs.PatternTree.{dot, kind, plus, star, counted, optional, Pattern, Patterns, no_patterns}
use Rattle.mp_pattern.specs.PatternTree.{more_patterns, patterns, symbol_pattern, app_pattern, wild_pattern}
use Rattle.mp_pattern.specs.Size.{pattern_nodes}
use Rattle.mp_pattern.specs.Value.{Value, one, seq, bag, Subst}
use Rattle.mp_theory.specs.Frames.{settle, start}
use Rattle.mp_theory.specs.Items.{items}
use Rattle.mp_theory.specs.MayMatch.{takes_one, has_optional, may_collapse}
use Rattle.mp_theory.specs.Least.{is_least_item}
use Rattle.mp_theory.specs.OneList.{item_list}
use Rattle.mp_theory.proofs.SecondSearch.{items-fit, item_list-least}
use Rattle.mp_theory.proofs.NextTerm.{none-in}
pub use Rattle.mp_search.proofs.NumberLaws.{same-swapped}

pub single : (t u : Tree) → t ∷ [] ≡ u ∷ [] → t ≡ u
single t u e = cc

-- what passes a test isn't among items of which none does
pub none-among : {X : Type 0} (test : X → Bool) (xs : List X) (x : X) → list_any test xs ≡ false → test x ≡ true
    → In x xs → ⊥
none-among test xs x n e i =
    let k = contains-from_in x xs i in
    let found : true ≡ false = sym (list_any_at test xs k.0 x k.1 (ap test k.2 ∙ e)) ∙ n in cc

-- trees are those of one list
pub trees-injective : (ts us : List Tree) → trees ts ≡ trees us → ts ≡ us
trees-injective ts us e = sym (tree_list-trees ts) ∙ ap tree_list e ∙ tree_list-trees us

-- where a child is left out one is optional
some_left_out-optional : (ps : Patterns) (ls : List (List Tree)) → fits.some_left_out ps ls ≡ true
    → has_optional ps ≡ true
some_left_out-optional no_patterns ls e = cc
some_left_out-optional (more_patterns p ps) [] e = cc
some_left_out-optional (more_patterns (wild_pattern (optional d) x) ps) (l ∷ ls) e = refl
some_left_out-optional (more_patterns (wild_pattern dot x) ps) (l ∷ ls) e = some_left_out-optional ps ls e
some_left_out-optional (more_patterns (wild_pattern (kind k) x) ps) (l ∷ ls) e = some_left_out-optional ps ls e
some_left_out-optional (more_patterns (wild_pattern plus x) ps) (l ∷ ls) e = some_left_out-optional ps ls e
some_left_out-optional (more_patterns (wild_pattern star x) ps) (l ∷ ls) e = some_left_out-optional ps ls e
some_left_out-optional (more_patterns (wild_pattern (counted n b) x) ps) (l ∷ ls) e = some_left_out-optional ps ls e
some_left_out-optional (more_patterns (symbol_pattern n) ps) (l ∷ ls) e = some_left_out-optional ps ls e
some_left_out-optional (more_patterns (app_pattern g qs) ps) (l ∷ ls) e = some_left_out-optional ps ls e

-- what is arranged keeps its terms
pub arranged-in : (sig : Sig) (g : ℕ) (l ts : List Tree) (t : Tree) → fits.arranged sig (Some g) l ≡ ts → In t l
    → In t ts
arranged-in sig g l ts t e i = subst (In t) e (by_test (is_comm sig g))
  where
    by_test : (b : Bool) → In t (if b then sorted tree_cmp l else l)
    by_test true = in-sorted tree_cmp t l i
    by_test false = i

module _ (sig : Sig) (s : Subst) where
  -- a symbol takes itself
  pub symbol-takes : (t : Tree) (f : Option ℕ) (n : List ℕ) (W : fits.Table)
      → fits.Takes sig s f (symbol_pattern n) (t ∷ []) W → t ≡ symbol n
  symbol-takes t f n W h = single t (symbol n) h.0

  contributed-alone : (g : ℕ) (v : Tree) (l : List Tree) → is_assoc sig g ≡ false → contribution sig (Some g) v ≡ Some l
      → l ≡ v ∷ []
  contributed-alone g v l a e = by_test (is_assoc sig g) a e
    where
      by_test : (b : Bool) → b ≡ false → (if b then spread g v else Some (v ∷ [])) ≡ Some l → l ≡ v ∷ []
      by_test true a e = cc
      by_test false a e = cc

  dot-alone : (g : ℕ) (v : Value) (l : List Tree) → is_assoc sig g ≡ false → fits.WildTakes sig (Some g) dot v l
      → (t : Tree) × (l ≡ t ∷ [])
  dot-alone g (one v) l a w = (v, contributed-alone g v l a w)
  dot-alone g (seq ts) l a w = absurd w
  dot-alone g (bag ts) l a w = absurd w

  kind-alone : (g k : ℕ) (v : Value) (l : List Tree) → fits.WildTakes sig (Some g) (kind k) v l
      → (t : Tree) × (l ≡ t ∷ [])
  kind-alone g k (one v) l w = (v, w.0)
  kind-alone g k (seq ts) l w = absurd w
  kind-alone g k (bag ts) l w = absurd w

  -- a child that takes one term takes a list of one
  pub alone-taken : (g : ℕ) (p : Pattern) (l : List Tree) (W : fits.Table) → takes_one sig (Some g) p ≡ true
      → fits.Takes sig s (Some g) p l W → (t : Tree) × (l ≡ t ∷ [])
  alone-taken g (symbol_pattern n) l W o h = (symbol n, h.0)
  alone-taken g (app_pattern k ps) l W o (inl h) =
      (app k (trees (fits.arranged sig (Some k) (fits.joined h.takes))), h.node)
  alone-taken g (app_pattern k ps) l W o (inr h) = (h.term, h.node)
  alone-taken g (wild_pattern dot None) l W o h =
      (h.0.0, contributed-alone g h.0.0 l (not-true (is_assoc sig g) o) h.0.2)
  alone-taken g (wild_pattern dot (Some x)) l W o h = dot-alone g h.0.0 l (not-true (is_assoc sig g) o) h.0.2
  alone-taken g (wild_pattern (kind k) None) l W o h = (h.0.0, h.0.1)
  alone-taken g (wild_pattern (kind k) (Some x)) l W o h = kind-alone g k h.0.0 l h.0.2
  alone-taken g (wild_pattern plus x) l W o h = cc
  alone-taken g (wild_pattern star x) l W o h = cc
  alone-taken g (wild_pattern (counted n b) x) l W o h = cc
  alone-taken g (wild_pattern (optional d) x) l W o h = cc

  abbrev Children : ℕ → Patterns → List (List Tree) → List fits.Table → Type 0
  Children = fits.AllTakeBy sig (fits.ByValue sig s)

  -- an application that can't collapse takes one of its operation to what its children take together
  pub application-taken : (f : Option ℕ) (g : ℕ) (ps : Patterns) (l : List Tree) (W : fits.Table)
      → may_collapse sig g ps ≡ false → fits.Takes sig s f (app_pattern g ps) l W
      → (ls : List (List Tree)) × (Ws : List fits.Table) × Children g ps ls Ws
      × (l ≡ app g (trees (fits.arranged sig (Some g) (fits.joined ls))) ∷ [])
  application-taken f g ps l W o (inl h) = (h.takes, h.tables, h.children, h.node)
  application-taken f g ps l W o (inr h) = absurd
      (let wrong : true ≡ false =
      sym (and_from (is_one sig g) _ h.identity
      (and_from (fits.no_sequence ps) _ h.plain (some_left_out-optional ps h.takes h.left_out))) ∙ o in cc)

  -- so it takes no term of another head
  pub headed-taken : (f : Option ℕ) (p : Pattern) (g : ℕ) (ps : Patterns) (t : Tree) (W : fits.Table)
      → p ≡ app_pattern g ps → may_collapse sig g ps ≡ false → fits.Takes sig s f p (t ∷ []) W
      → (us : Trees) × (t ≡ app g us)
  headed-taken f p g ps t W e o h =
      let k = application-taken f g ps (t ∷ []) W o (subst (λ q. fits.Takes sig s f q (t ∷ []) W) e h) in
      (trees (fits.arranged sig (Some g) (fits.joined k.0)), single t _ k.3)

  -- where it takes given arguments its children take them
  pub arranged-taken : (g : ℕ) (ps : Patterns) (ts : List Tree) (W : fits.Table) → may_collapse sig g ps ≡ false
      → fits.Takes sig s None (app_pattern g ps) (app g (trees ts) ∷ []) W
      → (ls : List (List Tree)) × (Ws : List fits.Table) × Children g ps ls Ws
      × (fits.arranged sig (Some g) (fits.joined ls) ≡ ts)
  arranged-taken g ps ts W o h =
      let k = application-taken None g ps (app g (trees ts) ∷ []) W o h in
      let e = same_args (trees ts) _ (single (app g (trees ts)) _ k.3) in
      (k.0, k.1, k.2, sym (trees-injective ts _ e))
    where
      same_args : (us vs : Trees) → app g us ≡ app g vs → us ≡ vs
      same_args us vs e = cc

  -- children of an operation that isn't commutative take its arguments
  pub arguments-taken : (g : ℕ) (ps : Patterns) (ts : List Tree) (W : fits.Table) → is_comm sig g ≡ false
      → may_collapse sig g ps ≡ false → fits.Takes sig s None (app_pattern g ps) (app g (trees ts) ∷ []) W
      → (ls : List (List Tree)) × (Ws : List fits.Table) × Children g ps ls Ws × (fits.joined ls ≡ ts)
  arguments-taken g ps ts W c o h =
      let k = arranged-taken g ps ts W o h in (
        k.0,
        k.1,
        k.2,
        sym (ap (λ b. if b then sorted tree_cmp (fits.joined k.0) else fits.joined k.0) c) ∙ k.3,
      )

  -- what one child takes is among what they take together
  pub child-taken : (g : ℕ) (p : Pattern) (ps : List Pattern) (ls : List (List Tree)) (Ws : List fits.Table) → In p ps
      → Children g (patterns ps) ls Ws
      → (l : List Tree) × (W : fits.Table) × fits.Takes sig s (Some g) p l W
      × ((t : Tree) → In t l → In t (fits.joined ls))
  child-taken g p [] ls Ws i h = absurd i
  child-taken g p (q ∷ ps) [] Ws i h = absurd h
  child-taken g p (q ∷ ps) (l ∷ ls) [] i h = absurd h
  child-taken g p (q ∷ ps) (l ∷ ls) (W ∷ Ws) (inl e) h =
      (l, W, subst (λ r. fits.Takes sig s (Some g) r l W) (sym e) h.0, λ t i. in-left t l (fits.joined ls) i)
  child-taken g p (q ∷ ps) (l ∷ ls) (W ∷ Ws) (inr i) h =
      let k = child-taken g p ps ls Ws i h.1 in (k.0, k.1, k.2, λ t j. in-right t l (fits.joined ls) (k.3 t j))

  -- in turn
  pub first-taken : (g : ℕ) (p : Pattern) (ps : Patterns) (t : Tree) (ts : List Tree) (ls : List (List Tree))
      (Ws : List fits.Table) → takes_one sig (Some g) p ≡ true → Children g (more_patterns p ps) ls Ws
      → fits.joined ls ≡ t ∷ ts
      → ((W : fits.Table) × fits.Takes sig s (Some g) p (t ∷ []) W)
      × ((ms : List (List Tree)) × (Vs : List fits.Table) × Children g ps ms Vs × (fits.joined ms ≡ ts))
  first-taken g p ps t ts [] Ws o h e = absurd h
  first-taken g p ps t ts (l ∷ ls) [] o h e = absurd h
  first-taken g p ps t ts (l ∷ ls) (W ∷ Ws) o h e =
      let a = alone-taken g p l W o h.0 in
      let whole : a.0 ∷ fits.joined ls ≡ t ∷ ts = ap (λ k. k ++ fits.joined ls) (sym a.1) ∙ e in
      let i : a.0 ≡ t = cc in
      let j : fits.joined ls ≡ ts = cc in (
        (W, subst (λ k. fits.Takes sig s (Some g) p k W) (a.1 ∙ ap (λ u. u ∷ []) i) h.0),
        (ls, Ws, h.1, j),
      )

  pub none-taken : (g : ℕ) (p : Pattern) (ps : Patterns) (ls : List (List Tree)) (Ws : List fits.Table)
      → takes_one sig (Some g) p ≡ true → Children g (more_patterns p ps) ls Ws → fits.joined ls ≡ [] → ⊥
  none-taken g p ps [] Ws o h e = h
  none-taken g p ps (l ∷ ls) [] o h e = h
  none-taken g p ps (l ∷ ls) (W ∷ Ws) o h e =
      let a = alone-taken g p l W o h.0 in
      let whole : a.0 ∷ fits.joined ls ≡ [] = ap (λ k. k ++ fits.joined ls) (sym a.1) ∙ e in cc

-- where nothing takes the term there are no items
pub no-items : (sig : Sig) (r : Rule) (t : Tree) → IsNormal sig t
    → ((s : Subst) (W : fits.Table) → fits.Takes sig s None r.pattern (t ∷ []) W → ⊥) → item_list sig r t ≡ []
no-items sig r t n h =
    let all = items sig (pattern_nodes r.pattern) (settle (start r.pattern t)) [] in
    let none : all ≡ [] = none-in all (λ i k. h i.1 i.0
    (all_in (λ j. fits.Fits sig r.pattern t j.1 j.0) all i (items-fit sig r.pattern t n) k).takes) in
    item_list-least sig r t n
    ∙ ap (λ is. filter (is_least_item sig r.pattern t) (filter (λ i. meets sig r.condition i.1) is)) none

pub names-same : (m n : List ℕ) → symbol m ≡ symbol n → m ≡ n
names-same m n e = cc

pub names-equal : (m n : List ℕ) → m ≡ n → is_eq (slice_cmp nat_cmp n m) ≡ true
names-equal m n e = subst (λ k. is_eq (slice_cmp nat_cmp n k) ≡ true) (sym e)
    (ap is_eq (tied_itself (lists_total nat_cmp_total) n))
