-- What values by ranks are read as.
use Rattle.std.specs.Prelude.{ℕ, List, [], ◌∷◌, map}
use Rattle.std.specs.List.{AllByRecursion}
use Rattle.mp_pattern.specs.Lists.{Pair}
use Rattle.mp_pattern.specs.Value.{Binding}
use Rattle.mp_table.specs.Table.{Table}
use Rattle.mp_table.specs.declared.rank.Rank.{Rank}
use Rattle.mp_subst.specs.Bound.{Bound, bound_from, bound_of, value_in, IsBoundIn}
use Rattle.mp_walk.specs.Ranked.{Ranked}
use Rattle.mp_walk.specs.declared.ranked.Kept.{Kept}
use Rattle.mp_walk.specs.declared.ranked.Ranks.{Ranks}
use Rattle.mp_walk.specs.declared.ranked.Ranks.TheVariants.{One, Many}
use Rattle.mp_walk.specs.declared.ranked.RankedBinding.{RankedBinding}

-- the ranks of a value
abbrev pub listed : Ranks → List Rank
listed (One r) = r ∷ []
listed (Many rs) = rs.items

-- the value of a variable by ranks
abbrev pub kept_bound : Kept → Bound
kept_bound k = bound_from k.form k.wrap (listed k.ranks)

-- the variable
abbrev pub kept_name : Kept → List ℕ
kept_name k = k.name.now

-- the variable with the value that this stands for in the table
abbrev pub kept_binding : Table → Kept → Binding
kept_binding t k = record { name = k.name.now; value = value_in t (kept_bound k) }

-- the same of one that is shown
abbrev pub shown_binding : RankedBinding → Binding
shown_binding b = record { name = b.name.now; value = value_in b.table.now (bound_of b.bound) }

-- the number of a rule with the substitution of values in the table
abbrev pub ranked_pair : ℕ → Table → List Kept → Pair
ranked_pair n t ks = (n, map (kept_binding t) ks)

-- and with the table
abbrev pub ranked : ℕ → Table → List Kept → Ranked
ranked n t ks = record { table = t; pair = ranked_pair n t ks }

-- the values are ones of the table
abbrev pub AreKept : Table → List Kept → Type 0
AreKept t = AllByRecursion (λ k. IsBoundIn t (kept_bound k))
