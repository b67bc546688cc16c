-- Patterns without optional wildcards.
use Rattle.std.specs.Prelude.{⊤}
use Rattle.mp_pattern.specs.PatternTree.{Wildcard, optional, Pattern}
use Rattle.mp_pattern.specs.EachWildcard.{EachWildcard}

-- it is no optional wildcard
abbrev pub IsNotOptional : Wildcard → Type 0
IsNotOptional (optional d) = ⊥
IsNotOptional _ = ⊤

-- no wildcard of the pattern is optional
abbrev pub HasNoOptional : Pattern → Type 0
HasNoOptional = EachWildcard IsNotOptional
