-- Patterns without a wildcard are terms: they compare as terms, and their normal forms are those of the terms.
use Rattle.std.proofs.Common.{◌≡◌, ℕ, true, false, List, [], ◌∷◌, ◌++◌, length, map, suc, refl, ap, sym, ◌∙◌, subst}
use Rattle.std.specs.Prelude.{nat_eq, if◌then◌else◌, ◌↔◌}
use Rattle.std.proofs.lemmas.List.{map-append}
use Rattle.std.proofs.Math.Bool.{and-true}
use Rattle.std.proofs.lemmas.Bool.{and_parts}
use Rattle.mp_term.specs.Tree.{Tree, symbol, app, Trees, no_trees, more_trees, tree_list, trees}
use Rattle.mp_term.specs.Order.{tree_cmp, trees_cmp}
use Rattle.mp_term.specs.Sorting.{sorted}
use Rattle.mp_term.specs.Signature.{Sig, is_assoc, is_comm, is_one}
use Rattle.mp_term.specs.Normal as term
use Rattle.mp_term.specs.Normal.{normal, normals}
use Rattle.mp_pattern.specs.PatternTree.{Pattern, symbol_pattern, app_pattern, wild_pattern, Patterns, no_patterns}
use Rattle.mp_pattern.specs.PatternTree.{more_patterns, pattern_list, patterns}
use Rattle.mp_pattern.specs.Order.{is_ground, all_ground, pattern_cmp, patterns_cmp}
use Rattle.mp_pattern.specs.Normal.{is_loose, unwrapped, parts, flattened, in_order, collapsed, normal_pattern}
use Rattle.mp_pattern.specs.Normal.{normal_patterns}
use Rattle.mp_pattern.specs.Ground.{term_pattern, term_patterns}
use Rattle.mp_pattern.proofs.SortedLaws.{sorted-map}

mutual
  is_ground-term_pattern : (t : Tree) → is_ground (term_pattern t) ≡ true
  is_ground-term_pattern (symbol n) = refl
  is_ground-term_pattern (app f ts) = all_ground-term_patterns ts

  all_ground-term_patterns : (ts : Trees) → all_ground (term_patterns ts) ≡ true
  all_ground-term_patterns no_trees = refl
  all_ground-term_patterns (more_trees t ts) = rw (is_ground-term_pattern t) (all_ground-term_patterns ts)

mutual
  term_of : (p : Pattern) → is_ground p ≡ true → (t : Tree) × (p ≡ term_pattern t)
  term_of (symbol_pattern n) g = (symbol n, refl)
  term_of (app_pattern f ps) g = let h = terms_of ps g in (app f h.0, ap (app_pattern f) h.1)
  term_of (wild_pattern w x) g = cc

  terms_of : (ps : Patterns) → all_ground ps ≡ true → (ts : Trees) × (ps ≡ term_patterns ts)
  terms_of no_patterns g = (no_trees, refl)
  terms_of (more_patterns p ps) g =
      let h = and_parts (is_ground p) (all_ground ps) g in
      let one = term_of p h.0 in
      let rest = terms_of ps h.1 in
      (more_trees one.0 rest.0, λ i. more_patterns (one.1 i) (rest.1 i))

-- a pattern has no wildcard exactly where it is that of a term
pub is_ground-iff : (p : Pattern) → (is_ground p ≡ true) ↔ ((t : Tree) × (p ≡ term_pattern t))
is_ground-iff p = (term_of p, λ h. subst (λ q. is_ground q ≡ true) (sym h.1) (is_ground-term_pattern h.0))

length-term_patterns : (ts : Trees) → length (pattern_list (term_patterns ts)) ≡ length (tree_list ts)
length-term_patterns no_trees = refl
length-term_patterns (more_trees t ts) = ap suc (length-term_patterns ts)

mutual
  pub pattern_cmp-term_pattern : (t u : Tree) → pattern_cmp (term_pattern t) (term_pattern u) ≡ tree_cmp t u
  pattern_cmp-term_pattern (symbol m) (symbol n) = refl
  pattern_cmp-term_pattern (symbol m) (app g us) = refl
  pattern_cmp-term_pattern (app f ts) (symbol n) = refl
  pattern_cmp-term_pattern (app f ts) (app g us) =
      rw (
        all_ground-term_patterns ts,
        all_ground-term_patterns us,
        length-term_patterns ts,
        length-term_patterns us,
        patterns_cmp-term_patterns ts us,
      ) refl

  patterns_cmp-term_patterns : (ts us : Trees) → patterns_cmp (term_patterns ts) (term_patterns us) ≡ trees_cmp ts us
  patterns_cmp-term_patterns no_trees no_trees = refl
  patterns_cmp-term_patterns no_trees (more_trees u us) = refl
  patterns_cmp-term_patterns (more_trees t ts) no_trees = refl
  patterns_cmp-term_patterns (more_trees t ts) (more_trees u us) =
      rw (pattern_cmp-term_pattern t u, patterns_cmp-term_patterns ts us) refl

pattern_list-term_patterns : (ts : Trees) → pattern_list (term_patterns ts) ≡ map term_pattern (tree_list ts)
pattern_list-term_patterns no_trees = refl
pattern_list-term_patterns (more_trees t ts) = ap (λ ps. term_pattern t ∷ ps) (pattern_list-term_patterns ts)

patterns-map : (ts : List Tree) → patterns (map term_pattern ts) ≡ term_patterns (trees ts)
patterns-map [] = refl
patterns-map (t ∷ ts) = ap (more_patterns (term_pattern t)) (patterns-map ts)

is_loose-term_pattern : (t : Tree) → is_loose (term_pattern t) ≡ false
is_loose-term_pattern (symbol n) = refl
is_loose-term_pattern (app f ts) = refl

unwrapped-term_pattern : (f : ℕ) (t : Tree) → unwrapped f (term_pattern t) ≡ map term_pattern (term.unwrapped f t)
unwrapped-term_pattern f (symbol n) = refl
unwrapped-term_pattern f (app g ts) =
    elim (nat_eq f g) as (λ b. (if b then pattern_list (term_patterns ts) else (term_pattern (app g ts) ∷ []))
    ≡ map term_pattern (if b then tree_list ts else (app g ts ∷ []))) [
      | true ↦ pattern_list-term_patterns ts
      | false ↦ refl
    ]

module _ (sig : Sig) where
  parts-term_pattern : (f : ℕ) (t : Tree) → parts sig f (term_pattern t) ≡ map term_pattern (term.parts sig f t)
  parts-term_pattern f t =
      elim (is_assoc sig f) as (λ b. (if b then unwrapped f (term_pattern t) else (term_pattern t ∷ []))
      ≡ map term_pattern (if b then term.unwrapped f t else (t ∷ []))) [
        | true ↦ unwrapped-term_pattern f t
        | false ↦ refl
      ]

  flattened-map : (f : ℕ) (ts : List Tree) → flattened sig f (map term_pattern ts)
      ≡ map term_pattern (term.flattened sig f ts)
  flattened-map f [] = refl
  flattened-map f (t ∷ ts) =
      (λ i. parts-term_pattern f t i ++ flattened-map f ts i)
      ∙ sym (map-append term_pattern (term.parts sig f t) (term.flattened sig f ts))

  in_order-map : (f : ℕ) (ts : List Tree) → in_order sig f (map term_pattern ts)
      ≡ map term_pattern (term.in_order sig f ts)
  in_order-map f ts =
      elim (is_comm sig f) as (λ b. (if b then sorted pattern_cmp (map term_pattern ts) else map term_pattern ts)
      ≡ map term_pattern (if b then sorted tree_cmp ts else ts)) [
        | true ↦ sorted-map term_pattern pattern_cmp tree_cmp pattern_cmp-term_pattern ts
        | false ↦ refl
      ]

  collapsed-map : (f : ℕ) (ts : List Tree) → collapsed sig f (map term_pattern ts)
      ≡ term_pattern (term.collapsed sig f ts)
  collapsed-map f [] = refl
  collapsed-map f (t ∷ []) =
      rw (is_loose-term_pattern t, and-true (is_one sig f))
      (elim (is_one sig f) as
      (λ b. (if b then term_pattern t else app_pattern f (more_patterns (term_pattern t) no_patterns))
      ≡ term_pattern (if b then t else app f (more_trees t no_trees))) [
        | true ↦ refl
        | false ↦ refl
      ])
  collapsed-map f (t ∷ u ∷ ts) = ap (app_pattern f) (patterns-map (t ∷ u ∷ ts))

  mutual
    pub normal_pattern-term_pattern : (t : Tree) → normal_pattern sig (term_pattern t) ≡ term_pattern (normal sig t)
    normal_pattern-term_pattern (symbol n) = refl
    normal_pattern-term_pattern (app f ts) =
        ap (λ l. collapsed sig f (in_order sig f (flattened sig f l))) (normal_patterns-term_patterns ts)
        ∙ ap (λ l. collapsed sig f (in_order sig f l)) (flattened-map f (normals sig ts))
        ∙ ap (collapsed sig f) (in_order-map f (term.flattened sig f (normals sig ts)))
        ∙ collapsed-map f (term.in_order sig f (term.flattened sig f (normals sig ts)))

    normal_patterns-term_patterns : (ts : Trees)
        → normal_patterns sig (term_patterns ts) ≡ map term_pattern (normals sig ts)
    normal_patterns-term_patterns no_trees = refl
    normal_patterns-term_patterns (more_trees t ts) =
        λ i. normal_pattern-term_pattern t i ∷ normal_patterns-term_patterns ts i
