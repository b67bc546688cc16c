-- How large the defaults of a pattern may be.
use Rattle.std.specs.Prelude.{◌≤◌, ⊤}
use Rattle.mp_term.specs.Size.{node_count}
use Rattle.mp_pattern.specs.declared.limits.TheConstants.{MAX_DEFAULT_NODES}
use Rattle.mp_pattern.specs.PatternTree.{Wildcard, optional, Pattern}
use Rattle.mp_pattern.specs.EachWildcard.{EachWildcard}

-- the default of an optional wildcard has at most MAX_DEFAULT_NODES nodes
abbrev pub DefaultIsSmall : Wildcard → Type 0
DefaultIsSmall (optional t) = node_count t ≤ MAX_DEFAULT_NODES
DefaultIsSmall _ = ⊤

-- the defaults of a pattern have at most MAX_DEFAULT_NODES nodes each
abbrev pub DefaultsAreSmall : Pattern → Type 0
DefaultsAreSmall = EachWildcard DefaultIsSmall
