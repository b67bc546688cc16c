-- Where no operation has an equation, each term and each pattern is its own normal form.
use Rattle.std.proofs.Common.{◌≡◌, ℕ, false, List, [], ◌∷◌, ◌++◌, refl, sym, ap, ◌∙◌}
use Rattle.std.specs.Prelude.{flat_map}
use Rattle.std.proofs.lemmas.Bool.{or_parts}
use Rattle.mp_term.specs.Signature.{Sig, is_assoc, is_comm}
use Rattle.mp_term.specs.Tree.{Tree, symbol, app, Trees, no_trees, more_trees, tree_list}
use Rattle.mp_term.specs.TreeLists.{trees-tree_list}
use Rattle.mp_term.specs.Normal.{parts, flattened, in_order, collapsed, normal, normals}
use Rattle.mp_pattern.specs.PatternTree.{Pattern, symbol_pattern, app_pattern, wild_pattern, Patterns, no_patterns}
use Rattle.mp_pattern.specs.PatternTree.{more_patterns, pattern_list}
use Rattle.mp_pattern.specs.PatternLists.{patterns-pattern_list}
use Rattle.mp_pattern.specs.Normal.{normal_pattern, normal_patterns}
use Rattle.mp_build.specs.Equations.{has_equation}
use Rattle.mp_build.proofs.Plain.{normal_pattern-plain}

module _ (sig : Sig) (free : (f : ℕ) → has_equation sig f ≡ false) where
  flattened-free : (f : ℕ) (ts : List Tree) → flattened sig f ts ≡ ts
  flattened-free f [] = refl
  flattened-free f (t ∷ ts) =
      let none = or_parts (is_assoc sig f) _ (free f) in
      let alone : parts sig f t ≡ t ∷ [] = rw none.0 refl in
      ap (λ us. us ++ flat_map (parts sig f) ts) alone ∙ ap (λ us. t ∷ us) (flattened-free f ts)

  in_order-free : (f : ℕ) (ts : List Tree) → in_order sig f ts ≡ ts
  in_order-free f ts =
      let none = or_parts (is_comm sig f) _ (or_parts (is_assoc sig f) _ (free f)).1 in
      rw none.0 refl

  collapsed-free : (f : ℕ) (ts : Trees) → collapsed sig f (tree_list ts) ≡ app f ts
  collapsed-free f no_trees = refl
  collapsed-free f (more_trees t no_trees) =
      let none = or_parts (is_comm sig f) _ (or_parts (is_assoc sig f) _ (free f)).1 in
      rw none.1 refl
  collapsed-free f (more_trees t (more_trees u ts)) =
      ap (λ us. app f (more_trees t (more_trees u us))) (trees-tree_list ts)

  mutual
    pub normal-free : (t : Tree) → normal sig t ≡ t
    normal-free (symbol n) = refl
    normal-free (app f ts) =
        ap (λ us. collapsed sig f (in_order sig f (flattened sig f us))) (normals-free ts)
        ∙ ap (λ us. collapsed sig f (in_order sig f us)) (flattened-free f (tree_list ts))
        ∙ ap (collapsed sig f) (in_order-free f (tree_list ts)) ∙ collapsed-free f ts

    normals-free : (ts : Trees) → normals sig ts ≡ tree_list ts
    normals-free no_trees = refl
    normals-free (more_trees t ts) = ap (λ u. u ∷ normals sig ts) (normal-free t) ∙ ap (λ us. t ∷ us) (normals-free ts)

  mutual
    pub normal_pattern-free : (p : Pattern) → normal_pattern sig p ≡ p
    normal_pattern-free (symbol_pattern n) = refl
    normal_pattern-free (app_pattern f ps) = rw (sym (patterns-pattern_list ps))
        (normal_pattern-plain sig f (pattern_list ps) (free f)
        (rw (patterns-pattern_list ps) (normal_patterns-free ps)))
    normal_pattern-free (wild_pattern w x) = refl

    normal_patterns-free : (ps : Patterns) → normal_patterns sig ps ≡ pattern_list ps
    normal_patterns-free no_patterns = refl
    normal_patterns-free (more_patterns p ps) =
        ap (λ q. q ∷ normal_patterns sig ps) (normal_pattern-free p) ∙ ap (λ qs. p ∷ qs) (normal_patterns-free ps)

-- a term, or a pattern, that is its own normal form, and what it is equal to
pub normal-kept : (sig : Sig) (t u : Tree) → normal sig t ≡ t → t ≡ u → t ≡ normal sig u
normal-kept sig t u own same = sym own ∙ ap (normal sig) same

pub normal_pattern-kept : (sig : Sig) (p q : Pattern) → normal_pattern sig p ≡ p → p ≡ q → p ≡ normal_pattern sig q
normal_pattern-kept sig p q own same = sym own ∙ ap (normal_pattern sig) same
