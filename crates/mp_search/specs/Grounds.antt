-- The ranks of what is known of a pattern's nodes before any search: its symbols and its defaults.
use Rattle.std.specs.Prelude.{◌≡◌, ⊤, List, [], ◌∷◌, Option, Some, None}
use Rattle.mp_term.specs.Tree.{Tree, symbol}
use Rattle.mp_pattern.specs.PatternTree.{optional, Pattern, symbol_pattern, wild_pattern}
use Rattle.mp_table.specs.Table.{Table, rank_of}
use Rattle.mp_search.specs.declared.grounds.Ground.{Ground}
use Rattle.mp_search.specs.declared.grounds.Ground.TheVariants.{Open, Absent, At}

-- the term that a node takes, or that its variable has where it is left out, if it is known before any search
abbrev pub ground_of : Pattern → Option Tree
ground_of (symbol_pattern n) = Some (symbol n)
ground_of (wild_pattern (optional d) x) = Some d
ground_of p = None

-- the rank of the term, or that the table doesn't hold it
abbrev pub IsGround : Table → Option Tree → Ground → Type 0
IsGround t None Open = ⊤
IsGround t None _ = ⊥
IsGround t (Some u) Open = ⊥
IsGround t (Some u) Absent = rank_of t u ≡ None
IsGround t (Some u) (At r) = rank_of t u ≡ Some r.0

-- so it is with each of the nodes
abbrev pub AreGrounds : Table → List Pattern → List Ground → Type 0
AreGrounds t [] [] = ⊤
AreGrounds t (p ∷ ps) (g ∷ gs) = IsGround t (ground_of p) g × AreGrounds t ps gs
AreGrounds t _ _ = ⊥

-- what is known of a node
abbrev pub ground_in : Table → Pattern → Ground
ground_in t p = elim (ground_of p) [
  | None ↦ Open
  | Some u ↦ elim (rank_of t u) [ None ↦ Absent | Some r ↦ At (record { 0 = r }) ]
]
