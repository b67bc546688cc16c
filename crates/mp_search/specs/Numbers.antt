-- The numbers that the variables of a plan have in a trail.
use Rattle.std.specs.Prelude.{◌≡◌, ℕ, List, Option, Some, None}
use Rattle.mp_term.specs.Listing.{In}
use Rattle.mp_pattern.specs.PatternTree.{Pattern, wild_pattern}
use Rattle.mp_search.specs.declared.query.Query.{Query}
use Rattle.mp_search.specs.Reading.{name_at}

-- v is the number of the variable x, and no other number is
pub record IsNumberOf (q : Query) (x : List ℕ) (v : ℕ) : Type 0 where
  pub listed : In v q.vars.now
  pub name : name_at q v ≡ Some x
  pub only : (u : ℕ) → name_at q u ≡ Some x → u ≡ v

-- the number is that of the variable of the node, if it has one
abbrev pub IsNumberAt : Query → Pattern → Option ℕ → Type 0
IsNumberAt q (wild_pattern w (Some x)) (Some v) = IsNumberOf q x v
IsNumberAt q (wild_pattern w (Some x)) None = ⊥
IsNumberAt q p o = o ≡ None
