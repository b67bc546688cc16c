-- What callers see of a graph.
use Rattle.std.specs.Prelude.{ℕ, List, Vec, map}
use Rattle.std.specs.Global.{Global}

-- the capacity of each class, and the classes that each left item may take
pub record Bipartite : Type 0 where
  pub capacities : List ℕ
  pub left : List (List ℕ)

-- the lists in a list of vectors
abbrev pub lists : List (Vec ℕ Global) → List (List ℕ)
lists = map (λ v. v.items)
