-- How many tokens a walk reads, as a measure of what is still to come.
use Rattle.std.specs.Prelude.{ℕ, ◌+◌, List, [], ◌∷◌, map}
use Rattle.mp_walk.specs.Forests.{node, Forest, none, beside}

-- the sum of the numbers
abbrev pub total : List ℕ → ℕ
total [] = 0
total (n ∷ ns) = n + total ns

-- each token that is tried counts one, and each of its steps counts one and what is below it
module _ {S K O : Type 0} (steps : S → K → List (List O × S)) where
  abbrev pub visits : Forest K → S → ℕ
  visits none s = 0
  visits (beside (node k ns below) fs) s = 1 + (total (map (λ r. 1 + visits below r.1) (steps s k)) + visits fs s)
