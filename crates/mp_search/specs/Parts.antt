-- Where patterns stand among the nodes of a plan.
use Rattle.std.specs.Prelude.{◌≡◌, ⊤, ℕ, List, length, take, drop}
use Rattle.mp_pattern.specs.PatternTree.{Pattern, optional, symbol_pattern, wild_pattern}
use Rattle.mp_pattern.specs.Subpatterns.{subpatterns}
use Rattle.mp_search.specs.declared.query.Query.{Query}

-- the patterns are those of the plan's nodes from k on
abbrev pub StandsAt : Query → ℕ → List Pattern → Type 0
StandsAt q k ps = ps ≡ take (length ps) (drop k (subpatterns q.plan.now.pattern))

-- the pattern is a symbol, or a wildcard that isn't optional
abbrev pub IsLeaf : Pattern → Type 0
IsLeaf (symbol_pattern n) = ⊤
IsLeaf (wild_pattern (optional d) x) = ⊥
IsLeaf (wild_pattern w x) = ⊤
IsLeaf p = ⊥

-- the pattern is a wildcard that isn't optional
abbrev pub IsWild : Pattern → Type 0
IsWild (wild_pattern (optional d) x) = ⊥
IsWild (wild_pattern w x) = ⊤
IsWild p = ⊥
