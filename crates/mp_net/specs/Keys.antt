-- The order of marks.
use Rattle.std.specs.Prelude.{ℕ, List, [], ◌∷◌}
use Rattle.mp_net.specs.Net.{Mark, named, entered, anything}

-- a mark as numbers: by these, marks are compared
abbrev pub mark_key : Mark → List ℕ
mark_key (named n) = 0 ∷ n
mark_key (entered f k) = 1 ∷ f ∷ k ∷ []
mark_key anything = 2 ∷ []
