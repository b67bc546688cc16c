-- The constants of rules: the terms that their patterns and conditions bring to a match beside the subject.
use Rattle.std.specs.Prelude.{List, [], ◌∷◌, ◌++◌, flat_map, Contains, Option, Some, None}
use Rattle.mp_term.specs.Tree.{Tree, symbol}
use Rattle.mp_pattern.specs.PatternTree.{Wildcard, optional, Pattern, symbol_pattern, app_pattern, wild_pattern}
use Rattle.mp_pattern.specs.PatternTree.{Patterns, no_patterns, more_patterns}
use Rattle.mp_pattern.specs.CondTree.{Operand, var, ground, Cond}
use Rattle.mp_pattern.specs.Operands.{operands}
use Rattle.mp_pattern.specs.Admission.{Rule}

-- the default of an optional wildcard
abbrev pub default_of : Wildcard → List Tree
default_of (optional t) = t ∷ []
default_of _ = []

abbrev mutual
  -- the symbols and the defaults of a pattern, in preorder
  pub pattern_constants : Pattern → List Tree
  pattern_constants (symbol_pattern n) = symbol n ∷ []
  pattern_constants (app_pattern f ps) = all_pattern_constants ps
  pattern_constants (wild_pattern w x) = default_of w

  -- those of all patterns of a list
  pub all_pattern_constants : Patterns → List Tree
  all_pattern_constants no_patterns = []
  all_pattern_constants (more_patterns p ps) = pattern_constants p ++ all_pattern_constants ps

-- the term of a ground operand
abbrev pub ground_term : Operand → List Tree
ground_term (var x) = []
ground_term (ground t) = t ∷ []

-- the ground operands of a condition, where there is one
abbrev pub condition_constants : Option Cond → List Tree
condition_constants None = []
condition_constants (Some c) = flat_map ground_term (operands c)

-- the symbols and the defaults of a rule's pattern and the ground operands of its condition, each as often as it stands
-- there
abbrev pub rule_constants : Rule → List Tree
rule_constants r = pattern_constants r.pattern ++ condition_constants r.condition

-- the term is one of those of the rules
abbrev pub IsConstantOf : List Rule → Tree → Type 0
IsConstantOf rs = Contains (flat_map rule_constants rs)
