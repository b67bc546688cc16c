-- Where a term occurs.
use Rattle.std.proofs.Common.{◌≡◌, ◌<◌, ◌≤◌, Bool, true, false, ◌&&◌, ◌||◌, not, List}
use Rattle.std.proofs.Common.{[], ◌∷◌, refl, ap, sym, ◌∙◌}
use Rattle.std.proofs.Common.{arith, inl, inr}
use Rattle.std.specs.Prelude.{◌⊎◌}
use Rattle.std.specs.List.{list_all}
use Rattle.mp_term.specs.Tree.{Tree, symbol, app, Trees, no_trees, more_trees, trees}
use Rattle.mp_term.specs.TreeLists.{trees-tree_list}
use Rattle.mp_term.specs.Size.{node_count, node_counts}
use Rattle.mp_pattern.specs.Holds.{same_term, occurs, occurs_in}
use Rattle.mp_table.specs.Subterms.{arguments}
use Rattle.mp_cond.proofs.TermTests.{same_term-itself, equal-from_same_term}

pub occurs-itself : (t : Tree) → occurs t t ≡ true
occurs-itself (symbol n) = same_term-itself (symbol n)
occurs-itself (app f ts) = ap (λ b. b || occurs_in (app f ts) ts) (same_term-itself (app f ts))

or-cases : (a b : Bool) → a || b ≡ true → (a ≡ true) ⊎ (b ≡ true)
or-cases true b h = inl refl
or-cases false b h = inr h

mutual
  -- a term in which another one occurs is that one, or has more nodes
  occurs-larger : (t u : Tree) → occurs t u ≡ true → (t ≡ u) ⊎ (node_count t < node_count u)
  occurs-larger t (symbol n) h = inl (equal-from_same_term t (symbol n) h)
  occurs-larger t (app f us) h =
      elim (or-cases (same_term t (app f us)) (occurs_in t us) h) [
        | inl e ↦ inl (equal-from_same_term t (app f us) e)
        | inr e ↦ (let few = occurs_in-larger t us e in inr (omega (arith, few)))
      ]

  occurs_in-larger : (t : Tree) (us : Trees) → occurs_in t us ≡ true → node_count t ≤ node_counts us
  occurs_in-larger t no_trees h = cc
  occurs_in-larger t (more_trees u us) h =
      elim (or-cases (occurs t u) (occurs_in t us) h) [
        | inl e ↦ elim (occurs-larger t u e) [
          | inl same ↦ omega (arith, ap node_count same)
          | inr more ↦ omega (arith, more)
        ]
        | inr e ↦ (let few = occurs_in-larger t us e in omega (arith, few))
      ]

-- it doesn't occur in another term with no more nodes
pub occurs-small : (t u : Tree) → (t ≡ u → ⊥) → node_count u ≤ node_count t → occurs t u ≡ false
occurs-small t u other few =
    elim (occurs t u) as (λ b. occurs t u ≡ b → b ≡ false) [
      | true ↦ λ e. elim (occurs-larger t u e) [
        | inl same ↦ absurd (other same)
        | inr more ↦ absurd (omega (arith, more, few))
      ]
      | false ↦ λ e. refl
    ] refl

-- in another term it occurs below
pub occurs-below : (t u : Tree) → same_term t u ≡ false → occurs t u ≡ occurs_in t (trees (arguments u))
occurs-below t (symbol n) h = h
occurs-below t (app f us) h =
    ap (λ b. b || occurs_in t us) h ∙ ap (occurs_in t) (sym (trees-tree_list us))

-- it occurs in none of the terms
pub list_all-occurs : (t : Tree) (us : List Tree) → list_all (λ u. not (occurs t u)) us ≡ not (occurs_in t (trees us))
list_all-occurs t [] = refl
list_all-occurs t (u ∷ us) =
    ap (λ b. not (occurs t u) && b) (list_all-occurs t us)
    ∙ neither (occurs t u) (occurs_in t (trees us))
  where
    neither : (a b : Bool) → not a && not b ≡ not (a || b)
    neither true b = refl
    neither false b = refl
