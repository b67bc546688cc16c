-- The tree that a pattern is read as.
use Rattle.mp_pattern.specs.PatternTree as plain
use Rattle.mp_pattern.specs.PatternTree.{patterns, symbol_pattern, app_pattern, wild_pattern}
use Rattle.mp_pattern.specs.declared.pattern.Shape.{Shape}
use Rattle.mp_pattern.specs.declared.pattern.Shape.TheVariants.{Dot, Kind, Plus, Star, Opt, Counted}
use Rattle.mp_pattern.specs.declared.pattern.Pattern.{Pattern}
use Rattle.mp_pattern.specs.declared.pattern.Pattern.TheVariants.{Sym, App, Wild}
use Rattle.mp_term.specs.View.{tree}

-- a wildcard with the number of its kind, the tree of its default or its count
abbrev pub wildcard : Shape → plain.Wildcard
wildcard Dot = plain.dot
wildcard (Kind k) = plain.kind k.0
wildcard Plus = plain.plus
wildcard Star = plain.star
wildcard (Opt t) = plain.optional (tree t)
wildcard (Counted n fixed) = plain.counted n fixed

-- a pattern with the numbers of its operations and the trees of its parts
abbrev pub pattern_tree : Pattern → plain.Pattern
pattern_tree (Sym n) = symbol_pattern n
pattern_tree (App f ps) = app_pattern f.0 (patterns ps)
pattern_tree (Wild w x) = wild_pattern (wildcard w) x
