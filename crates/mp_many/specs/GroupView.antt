-- What the groups are read as.
use Rattle.std.specs.Prelude.{◌≡◌, ℕ, List, [], ◌∷◌}
use Rattle.mp_many.specs.declared.group.Group.{Group}
use Rattle.mp_many.specs.Digest.{token_digest}
use Rattle.mp_many.specs.Groups as groups
use Rattle.mp_many.specs.TokenView.{read_token}

-- all numbers where they are kept, and the first ones alone where they aren't
abbrev pub numbers_among : List ℕ → List ℕ → List ℕ
numbers_among first [] = first
numbers_among first (n ∷ ns) = n ∷ ns

-- the numbers of a group
abbrev pub numbers_of : Group → List ℕ
numbers_of g = numbers_among g.first.now g.all.items

-- a group
abbrev pub group_of : Group → groups.Group
group_of g = (read_token g.token, numbers_of g)

-- its digest is that of its token
abbrev pub IsDigested : Group → Type 0
IsDigested g = g.digest ≡ token_digest (read_token g.token)
