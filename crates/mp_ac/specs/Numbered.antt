-- The trail that is read by numbers: each variable is named by its number.
use Rattle.std.specs.Prelude.{◌≡◌, ◌≤◌, ◌+◌, ℕ, List, [], length, Option, Some, None, if◌then◌else◌, nat_lt}
use Rattle.mp_pattern.specs.declared.limits.TheConstants.{MAX_VARIABLES}
use Rattle.mp_pattern.specs.NetTokens.{numbered}
use Rattle.mp_pattern.specs.Value.{Subst}
use Rattle.mp_table.specs.Table.{Table}
use Rattle.mp_subst.specs.Trail.{Trail, TrailEntry, GoesWith, cut}
use Rattle.mp_search.specs.Reading.{subst_from}

-- the name of a variable by its number, which is within the limit
abbrev pub name_of : ℕ → Option (List ℕ)
name_of n = if nat_lt n MAX_VARIABLES then Some (numbered n) else None

-- the substitution of a trail's entries, where each variable is named by its number
abbrev pub numbered_subst : Table → List TrailEntry → Subst
numbered_subst t es = subst_from t name_of [] es

-- the trail goes with the table, and is for as many variables as there may be
pub record IsTrailOf (t : Table) (u : Trail) : Type 0 where
  pub goes : GoesWith t u
  pub vars : u.vars ≡ MAX_VARIABLES

-- the new trail lies over the old one, and has taken at most so much of its room
pub record LiesOver (t : Table) (cost : ℕ) (old new : Trail) : Type 0 where
  pub cut : cut (length old.stack) new ≡ old
  pub trail : IsTrailOf t new
  pub spare : old.spare ≤ new.spare + cost
