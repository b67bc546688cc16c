-- `patterns` and `pattern_list` undo each other.
use Rattle.std.proofs.Common.{◌≡◌, List, [], ◌∷◌, refl, ap}
use Rattle.mp_pattern.specs.PatternTree.{Pattern, Patterns, no_patterns, more_patterns, pattern_list, patterns}

pub pattern_list-patterns : (ps : List Pattern) → pattern_list (patterns ps) ≡ ps
pattern_list-patterns [] = refl
pattern_list-patterns (p ∷ ps) = ap (λ qs. p ∷ qs) (pattern_list-patterns ps)

pub patterns-pattern_list : (ps : Patterns) → patterns (pattern_list ps) ≡ ps
patterns-pattern_list no_patterns = refl
patterns-pattern_list (more_patterns p ps) = ap (more_patterns p) (patterns-pattern_list ps)
