-- Where a search stands at its last item, as it is seen at once.
use Rattle.std.specs.Prelude.{◌≡◌, ◌+◌, ℕ, List, Option, take}
use Rattle.std.specs.List.{AllByRecursion}
use Rattle.mp_pattern.specs.PatternTree.{Wildcard, Pattern, app_pattern, wild_pattern, no_patterns, more_patterns}
use Rattle.mp_pattern.specs.Plan.{Plan}
use Rattle.mp_ac.specs.declared.pick.Pick.{Pick}

-- the child takes the last of the terms that it may take
abbrev pub IsLast : Pick → Type 0
IsLast k = k.at + 1 ≡ k.end

-- the pattern is an application to one wildcard
pub record IsOfWildcard (p : Pattern) : Type 0 where
  pub op : ℕ
  pub wildcard : Wildcard
  pub name : Option (List ℕ)
  pub is : p ≡ app_pattern op (more_patterns (wild_pattern wildcard name) no_patterns)

-- so many children that take one term each take the last, and one wildcard takes what is left
pub record IsSpent (plan : Plan) (count : ℕ) (ks : List Pick) : Type 0 where
  pub lasts : AllByRecursion IsLast (take count ks)
  pub rest : IsOfWildcard plan.pattern
