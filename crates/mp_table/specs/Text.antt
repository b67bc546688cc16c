-- The text of some trees: their subterms in preorder.
use Rattle.std.specs.Prelude.{◌≡◌, ◌+◌, ◌^◌, ◌≤◌, ℕ, List, map}
use Rattle.std.specs.List.{All}
use Rattle.mp_term.specs.Tree.{Tree}
use Rattle.mp_term.specs.View.{tree}
use Rattle.mp_term.specs.Size.{node_count}
use Rattle.mp_table.specs.Preorder.{all_preorder}
use Rattle.mp_table.specs.declared.node.Node.{Node}

-- the subterms
abbrev pub shown : List Node → List Tree
shown = map (λ n. tree n.term.now)

-- their counts of nodes
abbrev pub counts : List Node → List ℕ
counts = map (λ n. n.nodes)

-- their ranks
abbrev pub ranks : List Node → List ℕ
ranks = map (λ n. n.rank)

-- no rank is told
abbrev pub AreUnranked : List Node → Type 0
AreUnranked ns = All (λ r. 2 ^ 32 ≤ r + 1) (ranks ns)

-- the subterms of some trees in preorder, and their counts of nodes
pub record IsText (text : List Node) : Type 0 where
  pub roots : List Tree
  pub terms : shown text ≡ all_preorder roots
  pub nodes : counts text ≡ map node_count (shown text)
