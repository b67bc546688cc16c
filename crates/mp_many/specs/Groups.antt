-- Groups of numbered lists by their first tokens.
use Rattle.std.specs.Prelude.{ℕ, zero, suc, List, [], ◌∷◌, ◌++◌, map, drop, slice_index_or}
use Rattle.std.specs.Prelude.{if◌then◌else◌}
use Rattle.mp_pattern.specs.NetTokens.{NetToken, same_token}
use Rattle.mp_many.specs.Prefixes.{heads}
use Rattle.mp_many.specs.Laid.{Numbered, bare, left_after}

-- a token with the numbers of the lists that begin with it
abbrev pub Group : Type 0
Group = NetToken × List ℕ

-- the groups, with numbers added to the group of their token, which is a new one where there is none
abbrev pub entered : List Group → NetToken → List ℕ → List Group
entered [] k ns = (k, ns) ∷ []
entered (g ∷ gs) k ns = if same_token g.0 k then (g.0, g.1 ++ ns) ∷ gs else g ∷ entered gs k ns

-- the groups of lists, in order of the first list of each
abbrev pub grouped : List Numbered → List Group
grouped ls = map (λ k. (k, map (λ l. l.0) (left_after k ls))) (heads (bare ls))

-- what is left of the lists of the numbers from a place on
abbrev pub left_at : List (List NetToken) → ℕ → List ℕ → List Numbered
left_at lists place ns = map (λ n. (n, drop place (slice_index_or lists n []))) ns

-- the numbers from n on, so many
abbrev pub count_from : ℕ → ℕ → List ℕ
count_from n zero = []
count_from n (suc k) = n ∷ count_from (suc n) k
