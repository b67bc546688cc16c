-- Rules that ask for few places.
use Rattle.std.specs.Prelude.{ℕ, ◌<◌, List, length}
use Rattle.std.specs.List.{AllByRecursion}
use Rattle.mp_net.specs.Net.{Mark, Open, arity}
use Rattle.mp_net.specs.declared.limits.TheConstants.{MAX_STATES}

-- fewer marks than so many, each with fewer than `MAX_STATES` arguments
abbrev pub IsShort : ℕ → List Mark → Type 0
IsShort n m = (length m < n) × AllByRecursion (λ g. arity g < MAX_STATES) m

-- each rule asks so
abbrev pub AreShort : ℕ → List Open → Type 0
AreShort n os = AllByRecursion (λ o. IsShort n o.rest) os
