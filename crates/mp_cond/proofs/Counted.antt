-- The nodes of the terms of an operand that is ready.
use Rattle.std.proofs.Common.{◌≡◌, ◌+◌, ◌-◌, ◌^◌, ◌<◌, min, List, [], ◌∷◌, refl, ◌∙◌, ap, arith}
use Rattle.std.specs.Prelude.{Option, Some, None, IsSomeAnd, sum_by}
use Rattle.std.proofs.lemmas.List.Sums.{sum_by-cons}
use Rattle.mp_term.specs.Tree.{Tree}
use Rattle.mp_term.specs.Size.{node_count, all_nodes}
use Rattle.mp_pattern.specs.CondTree.{Operand}
use Rattle.mp_pattern.specs.Value.{Value, Subst}
use Rattle.mp_pattern.specs.Holds.{value_at, listed, list_of}
use Rattle.mp_cond.specs.Ready.{IsCountable, IsOperandReady}

-- the sum over a list
pub sum_by-node_count : (ts : List Tree) → sum_by node_count ts ≡ all_nodes ts
sum_by-node_count [] = refl
sum_by-node_count (t ∷ ts) = sum_by-cons node_count t ts ∙ ap (λ n. node_count t + n) (sum_by-node_count ts)

all_nodes-listed : (v : Option Value) → IsSomeAnd v IsCountable → all_nodes (listed v) < 2 ^ 64
all_nodes-listed None h = absurd h
all_nodes-listed (Some v) h = h

-- the count is exact
pub min-all_nodes : (s : Subst) (a : Operand) → IsOperandReady s a
    → min (all_nodes (list_of s a)) (2 ^ 64 - 1) ≡ sum_by node_count (list_of s a)
min-all_nodes s a h = omega (arith, all_nodes-listed (value_at s a) h, sum_by-node_count (list_of s a))
