-- Normalising raises neither the number of nodes nor the depth, and a normal form is its own normal form.
use Rattle.std.proofs.Common.{◌≡◌, ℕ, ◌+◌, ◌≤◌, max, true, false, List, [], ◌∷◌, ◌++◌, refl, ap, arith}
use Rattle.std.specs.Prelude.{nat_eq, if◌then◌else◌}
use Rattle.mp_term.specs.Tree.{Tree, symbol, app, Trees, no_trees, more_trees, tree_list, trees}
use Rattle.mp_term.specs.TreeLists.{trees-tree_list}
use Rattle.mp_term.specs.Size.{node_count, all_nodes, depth, greatest_depth}
use Rattle.mp_term.specs.Order.{tree_cmp}
use Rattle.mp_term.specs.Sorting.{sorted}
use Rattle.mp_term.specs.Signature.{Sig, is_assoc, is_comm, is_one}
use Rattle.mp_term.specs.Normal.{unwrapped, parts, flattened, in_order, collapsed, normal, normals}
use Rattle.mp_term.proofs.SortedMeasures.{measure-sorted, IsJoin, sums, maxima, joined_all, joined-append}
use Rattle.mp_term.proofs.SortedMeasures.{joined-sorted}
use Rattle.mp_term.proofs.NormalTestLaws.{passes-normal, normal-passes}

pub all_nodes-append : (ts us : List Tree) → all_nodes (ts ++ us) ≡ all_nodes ts + all_nodes us
all_nodes-append [] us = omega arith
all_nodes-append (t ∷ ts) us = omega (arith, all_nodes-append ts us)

pub greatest_depth-append : (ts us : List Tree)
    → greatest_depth (trees (ts ++ us)) ≡ max (greatest_depth (trees ts)) (greatest_depth (trees us))
greatest_depth-append [] us = omega arith
greatest_depth-append (t ∷ ts) us = omega (arith, greatest_depth-append ts us)

pub all_nodes-sorted : (ts : List Tree) → all_nodes (sorted tree_cmp ts) ≡ all_nodes ts
all_nodes-sorted = measure-sorted (λ t n. node_count t + n) (λ t u n. omega arith) all_nodes (λ t ts. refl) tree_cmp

-- m of an application is one more than the numbers of its arguments, joined
abbrev IsMeasure : (ℕ → ℕ → ℕ) → (Tree → ℕ) → Type 0
IsMeasure join m = (f : ℕ) (ts : List Tree) → m (app f (trees ts)) ≡ joined_all join m ts + 1

module _ (sig : Sig) (join : ℕ → ℕ → ℕ) (j : IsJoin join) (m : Tree → ℕ) (measure : IsMeasure join m) where
  abbrev all : List Tree → ℕ
  all = joined_all join m

  all-unwrapped : (f : ℕ) (t : Tree) → all (unwrapped f t) ≤ m t
  all-unwrapped f (symbol n) = omega (arith, j.alone (m (symbol n)))
  all-unwrapped f (app g ts) =
      let own : m (app g ts) ≡ all (tree_list ts) + 1 = rw trees-tree_list at (measure g (tree_list ts)) in
      elim (nat_eq f g) as (λ b. all (if b then tree_list ts else (app g ts ∷ [])) ≤ m (app g ts)) [
        | true ↦ omega (arith, own)
        | false ↦ omega (arith, j.alone (m (app g ts)))
      ]

  all-parts : (f : ℕ) (t : Tree) → all (parts sig f t) ≤ m t
  all-parts f t = elim (is_assoc sig f) as (λ b. all (if b then unwrapped f t else (t ∷ [])) ≤ m t)
      [ true ↦ all-unwrapped f t | false ↦ omega (arith, j.alone (m t)) ]

  all-flattened : (f : ℕ) (ts : List Tree) → all (flattened sig f ts) ≤ all ts
  all-flattened f [] = omega arith
  all-flattened f (t ∷ ts) =
      omega (
        arith,
        joined-append join m j (parts sig f t) (flattened sig f ts),
        j.rises _ _ _ _ (all-parts f t) (all-flattened f ts),
      )

  all-in_order : (f : ℕ) (ts : List Tree) → all (in_order sig f ts) ≡ all ts
  all-in_order f ts = elim (is_comm sig f) as (λ b. all (if b then sorted tree_cmp ts else ts) ≡ all ts)
      [ true ↦ joined-sorted join m j tree_cmp ts | false ↦ refl ]

  m-collapsed : (f : ℕ) (ts : List Tree) → m (collapsed sig f ts) ≤ all ts + 1
  m-collapsed f [] = omega (arith, measure f [])
  m-collapsed f (t ∷ []) =
      elim (is_one sig f) as (λ b. m (if b then t else app f (more_trees t no_trees)) ≤ all (t ∷ []) + 1) [
        | true ↦ omega (arith, j.alone (m t))
        | false ↦ omega (arith, measure f (t ∷ []))
      ]
  m-collapsed f (t ∷ u ∷ ts) = omega (arith, measure f (t ∷ u ∷ ts))

  mutual
    m-normal : (t : Tree) → m (normal sig t) ≤ m t
    m-normal (symbol n) = omega arith
    m-normal (app f ts) =
        let l = flattened sig f (normals sig ts) in
        let own : m (app f ts) ≡ all (tree_list ts) + 1 = rw trees-tree_list at (measure f (tree_list ts)) in
        omega (
          arith,
          own,
          m-collapsed f (in_order sig f l),
          all-in_order f l,
          all-flattened f (normals sig ts),
          all-normals ts,
        )

    all-normals : (ts : Trees) → all (normals sig ts) ≤ all (tree_list ts)
    all-normals no_trees = omega arith
    all-normals (more_trees t ts) = j.rises _ _ _ _ (m-normal t) (all-normals ts)

all_nodes-is : (ts : List Tree) → all_nodes ts ≡ joined_all ◌+◌ node_count ts
all_nodes-is [] = refl
all_nodes-is (t ∷ ts) = ap (λ n. node_count t + n) (all_nodes-is ts)

greatest_depth-is : (ts : List Tree) → greatest_depth (trees ts) ≡ joined_all max depth ts
greatest_depth-is [] = refl
greatest_depth-is (t ∷ ts) = ap (max (depth t)) (greatest_depth-is ts)

pub node_count-normal : (sig : Sig) (t : Tree) → node_count (normal sig t) ≤ node_count t
node_count-normal sig = m-normal sig ◌+◌ sums node_count (λ f ts. ap (λ n. n + 1) (all_nodes-is ts))

pub depth-normal : (sig : Sig) (t : Tree) → depth (normal sig t) ≤ depth t
depth-normal sig = m-normal sig max maxima depth (λ f ts. ap (λ n. n + 1) (greatest_depth-is ts))

pub normal-normal : (sig : Sig) (t : Tree) → normal sig (normal sig t) ≡ normal sig t
normal-normal sig t = normal-passes sig (normal sig t) (passes-normal sig t)
