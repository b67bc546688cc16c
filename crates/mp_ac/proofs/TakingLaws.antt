-- What the variables of patterns take of terms, by the arguments and item by item, and takes of other terms by ranks.
use Rattle.std.proofs.Common.{◌≡◌, ◌<◌, ◌≤◌, ◌-◌, ℕ, Bool, true, false, not, ◌&&◌, List, [], ◌∷◌, ◌++◌, map, length}
use Rattle.std.proofs.Common.{take, drop, slice_index_or, refl, ap, ap₂, sym, ◌∙◌, arith}
use Rattle.std.specs.Prelude.{Option, Some, ◌||◌, nat_eq}
use Rattle.std.specs.List.{list_any}
use Rattle.std.specs.Ordering.{is_eq}
use Rattle.std.proofs.lemmas.List.Folds.{list_any-append}
use Rattle.mp_term.specs.OrderLaws.{trees_cmp-trees}
use Rattle.mp_term.specs.Tree.{Tree, symbol, app, no_trees, trees}
use Rattle.mp_term.specs.TreeLists.{trees-tree_list}
use Rattle.mp_pattern.specs.PatternTree.{Wildcard, app_pattern, wild_pattern, Patterns, no_patterns}
use Rattle.mp_pattern.specs.PatternTree.{more_patterns, patterns}
use Rattle.mp_pattern.specs.Value.{same_name}
use Rattle.mp_pattern.specs.View.{pattern_tree}
use Rattle.mp_pattern.specs.declared.pattern.Pattern as declared
use Rattle.mp_table.specs.Subterms.{arguments}
use Rattle.mp_table.specs.Table as plain
use Rattle.mp_table.specs.Table.{HasRank, IsTable, term_at, terms_at}
use Rattle.mp_table.specs.declared.rank.Rank.{Rank}
use Rattle.mp_theory.specs.Shape.{takings, all_takings}
use Rattle.mp_theory.specs.Solve.{Taken}
use Rattle.mp_search.proofs.PartLaws.{first-others, first-pattern}
use Rattle.mp_search.proofs.ReadsLaws.{same_terms-ranks}
use Rattle.mp_ac.specs.Clash.{differ}

-- where there is no tree
all_takings-no_trees : (g : ℕ) (ps : Patterns) → all_takings g ps no_trees ≡ []
all_takings-no_trees g no_patterns = refl
all_takings-no_trees g (more_patterns p ps) = refl

-- the variables of an application take what those of its arguments take
pub takings-below : (f : Option ℕ) (g : ℕ) (ps : Patterns) (t : Tree) (us : List Tree) → us ≡ arguments t
    → takings f (app_pattern g ps) t ≡ all_takings g ps (trees us)
takings-below f g ps (symbol n) us e =
    sym (ap (λ vs. all_takings g ps (trees vs)) e ∙ all_takings-no_trees g ps)
takings-below f g ps (app h ts) us e = ap (all_takings g ps) (sym (ap trees e ∙ trees-tree_list ts))

-- where there is no term
pub takings-none : {X : Type 0} (g : ℕ) (h : X → Tree) (ps : Patterns) (xs : List X) → length xs < 1
    → all_takings g ps (trees (map h xs)) ≡ []
takings-none g h ps [] e = all_takings-no_trees g ps
takings-none g h ps (x ∷ xs) e = absurd (omega (arith, e))

-- a take that passes a test, of the first pattern or of the later ones
module _ (list : List declared.Pattern) (first : declared.Pattern) (some : 1 ≤ length list)
    (is : first ≡ slice_index_or list 0 first) (t : plain.Table) (ranks : List Rank) (d : Rank)
    (any : 1 ≤ length ranks) (g : ℕ) where
  abbrev of_first : List Taken
  of_first = takings (Some g) (pattern_tree first) (term_at t (slice_index_or ranks 0 d))

  abbrev of_later : List Taken
  of_later = all_takings g (patterns (map pattern_tree (take (length list - 1) (drop 1 list))))
      (trees (terms_at t (take (length ranks - 1) (drop 1 ranks))))

  takings-first : all_takings g (patterns (map pattern_tree list)) (trees (terms_at t ranks)) ≡ of_first ++ of_later
  takings-first = ap₂ (all_takings g) (first-pattern list first some is)
      (ap (λ rs. trees (terms_at t rs)) (first-others ranks d any))

  module _ (test : Taken → Bool) (r : Bool) (e : r ≡ list_any test of_first) where
    any-either : (r || list_any test of_later)
        ≡ list_any test (all_takings g (patterns (map pattern_tree list)) (trees (terms_at t ranks)))
    any-either = ap (λ b. b || list_any test of_later) e
        ∙ sym (ap (list_any test) takings-first ∙ list_any-append test of_first of_later)

    pub any-first : r ≡ true
        → r ≡ list_any test (all_takings g (patterns (map pattern_tree list)) (trees (terms_at t ranks)))
    any-first k = k ∙ ap (λ b. b || list_any test of_later) (sym k) ∙ any-either

    pub any-later : r ≡ false → (s : Bool) → s ≡ list_any test of_later
        → s ≡ list_any test (all_takings g (patterns (map pattern_tree list)) (trees (terms_at t ranks)))
    any-later k s i = i ∙ ap (λ b. b || list_any test of_later) (sym k) ∙ any-either

-- takes of the terms of ranks
differ-ranks : (t : plain.Table) → IsTable t → (r s : Rank) → HasRank t r → HasRank t s → (a b : Taken)
    → a.terms ≡ term_at t r ∷ [] → b.terms ≡ term_at t s ∷ []
    → differ a b ≡ (same_name a.by.name b.by.name && not (nat_eq r.0 s.0))
differ-ranks t h r s k l a b i j =
    let same = same_terms-ranks t h (r ∷ []) s r (k, tt) l refl in
    rw (i, j) (ap (λ e. same_name a.by.name b.by.name && not e)
    (ap is_eq (trees_cmp-trees (term_at t r ∷ []) (term_at t s ∷ [])) ∙ sym same))

-- so it is with the take of one wildcard
pub wildcard-differs : (t : plain.Table) → IsTable t → (r s : Rank) → HasRank t r → HasRank t s → (a : Taken)
    → a.terms ≡ term_at t r ∷ [] → (f : Option ℕ) (w : Wildcard) (y : List ℕ) → same_name a.by.name y ≡ true
    → not (nat_eq r.0 s.0) ≡ list_any (differ a) (takings f (wild_pattern w (Some y)) (term_at t s))
wildcard-differs t h r s k l a i f w y e =
    let b : Taken = record { by = record { name = y; wildcard = w; under = f }; terms = term_at t s ∷ [] } in
    let one : differ a b ≡ not (nat_eq r.0 s.0) = rw (differ-ranks t h r s k l a b i refl, e) refl in
    rw one (or-nothing (not (nat_eq r.0 s.0)))
  where
    or-nothing : (b : Bool) → b ≡ (b || false)
    or-nothing true = refl
    or-nothing false = refl
