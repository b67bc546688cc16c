-- Terms that have the shape of a syntactic pattern, by their arguments, and what its nodes take of them.
use Rattle.std.proofs.Common.{◌≡◌, ◌<◌, ◌≤◌, ◌+◌, ◌-◌, ℕ, zero, suc, Bool, true, false, ◌&&◌, List, [], ◌∷◌, ◌++◌, map}
use Rattle.std.proofs.Common.{length, take, drop, slice_index_or, refl, ap, ap₂, sym, ◌∙◌, subst, arith, inl, inr}
use Rattle.std.proofs.Common.{eq-eqb}
use Rattle.std.specs.Prelude.{◌≢◌, Option, Some, None, Result, Ok, Err, MatchResult, nat_eq, slice_get}
use Rattle.std.specs.List.{AllByRecursion}
use Rattle.std.proofs.lemmas.Bool.{and_parts}
use Rattle.std.proofs.lemmas.List.{map-append}
use Rattle.mp_term.proofs.SearchLaws.{in-left, in-right}
use Rattle.mp_term.specs.Listing.{In}
use Rattle.mp_term.specs.Signature.{Sig}
use Rattle.mp_term.specs.Tree.{Tree, symbol, app, no_trees, trees}
use Rattle.mp_term.specs.TreeLists.{trees-tree_list}
use Rattle.mp_term.specs.declared.term.OpId.{OpId}
use Rattle.mp_pattern.proofs.NameLaws.{same_name-is}
use Rattle.mp_pattern.specs.Fits.{Entry, Table, joined}
use Rattle.mp_pattern.specs.PatternTree.{Pattern, symbol_pattern, app_pattern, wild_pattern, Patterns, no_patterns}
use Rattle.mp_pattern.specs.PatternTree.{more_patterns, patterns}
use Rattle.mp_pattern.specs.Size.{pattern_nodes, all_pattern_nodes, list_nodes}
use Rattle.mp_pattern.specs.Value.{Subst, same_name}
use Rattle.mp_pattern.specs.Variables.{Use, uses, all_uses, variables}
use Rattle.mp_pattern.specs.View.{pattern_tree}
use Rattle.mp_pattern.specs.declared.pattern.Pattern as declared
use Rattle.mp_table.specs.Table as plain
use Rattle.mp_table.specs.Table.{HasRank, HasRanks, term_at, terms_at}
use Rattle.mp_table.specs.declared.rank.Rank.{Rank}
use Rattle.mp_table.specs.Reading.{IsHeadOf}
use Rattle.mp_table.specs.Subterms.{arguments}
use Rattle.mp_table.specs.declared.rank.Head.TheVariants as shown
use Rattle.mp_theory.proofs.FirstItems.{in-firsts_after}
use Rattle.mp_theory.proofs.FirstsLaws.{from_in-firsts_after}
use Rattle.mp_theory.specs.Filled.{filled, all_filled}
use Rattle.mp_theory.specs.Shape.{shape, shapes, table_of, tables_of}
use Rattle.mp_search.proofs.PartLaws.{first-others, first-pattern}
use Rattle.mp_ac.specs.CommPlan.{IsNumbered}

-- what holds of the first items, and of the next one
module _ {X Y : Type 0} (P : Y → Type 0) (f : X → Y) where
  all-next : (xs : List X) (n : ℕ) (x : X) → n < length xs → x ≡ slice_index_or xs n x
      → AllByRecursion P (take n (map f xs)) → P (f x) → AllByRecursion P (take (suc n) (map f xs))
  all-next [] n x h e a p = absurd (omega (arith, h))
  all-next (y ∷ xs) zero x h e a p = (subst (λ z. P (f z)) e p, tt)
  all-next (y ∷ xs) (suc n) x h e a p = (a.0, all-next xs n x (omega (arith, h)) e a.1 p)

  pub all-more : (xs : List X) (n : ℕ) (x : X) → n < length xs → x ≡ slice_index_or xs n x
      → AllByRecursion P (take n (map f xs)) → P (f x) → AllByRecursion P (take (n + 1) (map f xs))
  all-more xs n x h e a p =
      let next : suc n ≡ n + 1 = omega arith in
      subst (λ m. AllByRecursion P (take m (map f xs))) next (all-next xs n x h e a p)

-- an application of the same operation, by its arguments
pub shape-arguments : (op own : OpId) (ps : Patterns) (t : Tree) (us : List Tree) → op.0 ≡ own.0
    → IsHeadOf (shown.App own) t → us ≡ arguments t → shapes ps (trees us) ≡ shape (app_pattern op.0 ps) t
shape-arguments op own ps (symbol n) us e h k = absurd h
shape-arguments op own ps (app f ts) us e h k =
    ap (shapes ps) (ap trees k ∙ trees-tree_list ts)
    ∙ sym (ap (λ b. b && shapes ps ts) (eq-eqb op.0 f (e ∙ h)))

-- lists of different lengths
module _ {X Y : Type 0} (f : X → Pattern) (g : Y → Tree) where
  pub shapes-uneven : (xs : List X) (ys : List Y) → length xs ≢ length ys
      → shapes (patterns (map f xs)) (trees (map g ys)) ≡ false
  shapes-uneven [] [] h = absurd (h refl)
  shapes-uneven [] (y ∷ ys) h = refl
  shapes-uneven (x ∷ xs) [] h = refl
  shapes-uneven (x ∷ xs) (y ∷ ys) h =
      rw (shapes-uneven xs ys (λ e. h (ap suc e))) (by_first (shape (f x) (g y)))
    where
      by_first : (b : Bool) → b && false ≡ false
      by_first true = refl
      by_first false = refl

-- the arguments of an application that has the shape, what they fill and the tables of their nodes
module _ (f : ℕ) (ps : Patterns) (t : Tree) (us : List Tree) (e : us ≡ arguments t)
    (h : shape (app_pattern f ps) t ≡ true) where
  pub shapes-below : shapes ps (trees us) ≡ true
  shapes-below = by_term t e h
    where
      by_term : (t : Tree) → us ≡ arguments t → shape (app_pattern f ps) t ≡ true → shapes ps (trees us) ≡ true
      by_term (symbol n) k i = cc
      by_term (app g ts) k i =
          ap (shapes ps) (ap trees k ∙ trees-tree_list ts) ∙ (and_parts (nat_eq f g) (shapes ps ts) i).1

  pub filled-below : (sig : Sig) (s : Subst) → filled sig (app_pattern f ps) t s ≡ all_filled sig ps (trees us) s
  filled-below sig s = by_term t e h
    where
      by_term : (t : Tree) → us ≡ arguments t → shape (app_pattern f ps) t ≡ true
          → filled sig (app_pattern f ps) t s ≡ all_filled sig ps (trees us) s
      by_term (symbol n) k i = cc
      by_term (app g ts) k i = ap (λ vs. all_filled sig ps vs s) (sym (ap trees k ∙ trees-tree_list ts))

  pub table-below : table_of (app_pattern f ps) t
      ≡ record { terms = t ∷ []; collapsed = false } ∷ joined (tables_of ps (trees us))
  table-below = by_term t e h
    where
      by_term : (t : Tree) → us ≡ arguments t → shape (app_pattern f ps) t ≡ true → table_of (app_pattern f ps) t
          ≡ record { terms = t ∷ []; collapsed = false } ∷ joined (tables_of ps (trees us))
      by_term (symbol n) k i = cc
      by_term (app g ts) k i =
          ap (λ vs. record { terms = app g ts ∷ []; collapsed = false } ∷ joined (tables_of ps vs))
          (sym (ap trees k ∙ trees-tree_list ts))

-- an entry of the table below the root's
pub entry-below : {X : Type 0} (f : X → Entry) (T J : Table) (e : Entry) (n : ℕ) (r : Result X ℕ) → T ≡ e ∷ J → n ≢ 0
    → MatchResult r (λ x. slice_get J (n - 1) ≡ Some (f x)) (λ k. k + length J ≡ n - 1)
    → MatchResult r (λ x. slice_get T n ≡ Some (f x)) (λ k. k + length T ≡ n)
entry-below f T J e zero r k some h = absurd (some refl)
entry-below f T J e (suc n) (Ok x) k some h =
    let same : suc n - 1 ≡ n = omega arith in ap (λ us. slice_get us (suc n)) k ∙ ap (slice_get J) (sym same) ∙ h
entry-below f T J e (suc n) (Err m) k some h = omega (arith, h, ap (λ us. length us) k)

-- where there is no pattern or no tree
all_filled-no_trees : (sig : Sig) (ps : Patterns) (s : Subst) → all_filled sig ps no_trees s ≡ Some s
all_filled-no_trees sig no_patterns s = refl
all_filled-no_trees sig (more_patterns p ps) s = refl

pub tables-none : {X Y : Type 0} (f : X → Pattern) (g : Y → Tree) (xs : List X) (ys : List Y)
    → (1 ≤ length xs → 1 ≤ length ys → ⊥) → joined (tables_of (patterns (map f xs)) (trees (map g ys))) ≡ []
tables-none f g [] ys h = refl
tables-none f g (x ∷ xs) [] h = refl
tables-none f g (x ∷ xs) (y ∷ ys) h = absurd (h (omega arith) (omega arith))

pub filled-none : {X : Type 0} (sig : Sig) (g : X → Tree) (P : Patterns) (xs : List X) (s : Subst) → length xs < 1
    → all_filled sig P (trees (map g xs)) s ≡ Some s
filled-none sig g P [] s h = all_filled-no_trees sig P s
filled-none sig g P (x ∷ xs) s h = absurd (omega (arith, h))

-- the names of the variables of patterns, wherever they stand
abbrev pub names_in : Patterns → List (List ℕ)
names_in ps = map (λ (u : Use). u.name) (all_uses None ps)

name-under : (f g : Option ℕ) (p : Pattern)
    → map (λ (u : Use). u.name) (uses f p) ≡ map (λ (u : Use). u.name) (uses g p)
name-under f g (symbol_pattern n) = refl
name-under f g (app_pattern h ps) = refl
name-under f g (wild_pattern w None) = refl
name-under f g (wild_pattern w (Some x)) = refl

names-under : (f g : Option ℕ) (ps : Patterns)
    → map (λ (u : Use). u.name) (all_uses f ps) ≡ map (λ (u : Use). u.name) (all_uses g ps)
names-under f g no_patterns = refl
names-under f g (more_patterns p ps) =
    map-append (λ (u : Use). u.name) (uses f p) (all_uses f ps)
    ∙ ap₂ (λ (xs ys : List (List ℕ)). xs ++ ys) (name-under f g p) (names-under f g ps)
    ∙ sym (map-append (λ (u : Use). u.name) (uses g p) (all_uses g ps))

-- the names of a pattern are those of numbers, and so are those of its parts
pub names-children : (f : ℕ) (ps : Patterns) → ((x : List ℕ) → In x (variables (app_pattern f ps)) → IsNumbered x)
    → (x : List ℕ) → In x (names_in ps) → IsNumbered x
names-children f ps h x i = h x (in-firsts_after same_name same_name-is []
    (map (λ (u : Use). u.name) (all_uses (Some f) ps)) x
    (inr (subst (In x) (names-under None (Some f) ps) i)))

-- the first of a list of patterns, and the later ones
module _ (list : List declared.Pattern) (first : declared.Pattern) (some : 1 ≤ length list)
    (is : first ≡ slice_index_or list 0 first) where
  abbrev later : List declared.Pattern
  later = take (length list - 1) (drop 1 list)

  abbrev own : List (List ℕ)
  own = map (λ (u : Use). u.name) (uses None (pattern_tree first))

  all-is : patterns (map pattern_tree list) ≡ more_patterns (pattern_tree first) (patterns (map pattern_tree later))
  all-is = first-pattern list first some is

  pub nodes-is : list_nodes (map pattern_tree list)
      ≡ pattern_nodes (pattern_tree first) + list_nodes (map pattern_tree later)
  nodes-is = ap all_pattern_nodes all-is

  module _ (h : (x : List ℕ) → In x (names_in (patterns (map pattern_tree list))) → IsNumbered x) where
    names-of : names_in (patterns (map pattern_tree list)) ≡ own ++ names_in (patterns (map pattern_tree later))
    names-of = ap names_in all-is
        ∙ map-append (λ (u : Use). u.name) (uses None (pattern_tree first))
        (all_uses None (patterns (map pattern_tree later)))

    pub names-first : (x : List ℕ) → In x (variables (pattern_tree first)) → IsNumbered x
    names-first x i = elim (from_in-firsts_after same_name x [] own i) [
      | inl j ↦ absurd j
      | inr j ↦
          h x (subst (In x) (sym names-of) (in-left x own (names_in (patterns (map pattern_tree later))) j))
    ]

    pub names-later : (x : List ℕ) → In x (names_in (patterns (map pattern_tree later))) → IsNumbered x
    names-later x i =
        h x (subst (In x) (sym names-of) (in-right x own (names_in (patterns (map pattern_tree later))) i))

  -- with the first of a list of ranks, and the later ones
  module _ (t : plain.Table) (ranks : List Rank) (d : Rank) (any : 1 ≤ length ranks) where
    abbrev rest : List Rank
    rest = take (length ranks - 1) (drop 1 ranks)

    pub ranks-first : HasRanks t ranks → HasRank t (slice_index_or ranks 0 d) × HasRanks t rest
    ranks-first h = subst (HasRanks t) (first-others ranks d any) h

    pub shapes-first : shapes (patterns (map pattern_tree list)) (trees (terms_at t ranks)) ≡ true
        → (shape (pattern_tree first) (term_at t (slice_index_or ranks 0 d)) ≡ true)
        × (shapes (patterns (map pattern_tree later)) (trees (terms_at t rest)) ≡ true)
    shapes-first h = and_parts (shape (pattern_tree first) (term_at t (slice_index_or ranks 0 d)))
        (shapes (patterns (map pattern_tree later)) (trees (terms_at t rest)))
        (ap₂ shapes (sym all-is) (ap (λ rs. trees (terms_at t rs)) (sym (first-others ranks d any))) ∙ h)
