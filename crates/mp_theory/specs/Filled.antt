-- What the variables of a syntactic pattern take of a tree, bound one after the other.
use Rattle.std.specs.Prelude.{ℕ, List, Option, Some, None, option_and_then, if◌then◌else◌}
use Rattle.mp_term.specs.Signature.{Sig}
use Rattle.mp_term.specs.Tree.{Tree, symbol, app, Trees, no_trees, more_trees}
use Rattle.mp_pattern.specs.PatternTree.{Pattern, symbol_pattern, app_pattern, wild_pattern, Patterns, no_patterns}
use Rattle.mp_pattern.specs.PatternTree.{more_patterns}
use Rattle.mp_pattern.specs.Value.{one, Subst}
use Rattle.mp_theory.specs.Shape.{suits}
use Rattle.mp_theory.specs.Solve.{bind}

-- the substitution with the variable, if there is one, bound to the tree too
abbrev pub bound : Option (List ℕ) → Tree → Subst → Option Subst
bound None t s = Some s
bound (Some x) t s = bind s x (one t)

module _ (sig : Sig) where
  abbrev mutual
    -- the substitution with what the pattern's variables take of the tree, where the kinds are met and there is one
    pub filled : Pattern → Tree → Subst → Option Subst
    filled (symbol_pattern n) t s = Some s
    filled (app_pattern f ps) (symbol n) s = Some s
    filled (app_pattern f ps) (app g ts) s = all_filled ps ts s
    filled (wild_pattern w x) t s = if suits sig w t then bound x t s else None

    -- the same for patterns on trees, one after the other
    pub all_filled : Patterns → Trees → Subst → Option Subst
    all_filled no_patterns ts s = Some s
    all_filled (more_patterns p ps) no_trees s = Some s
    all_filled (more_patterns p ps) (more_trees t ts) s = option_and_then (all_filled ps ts) (filled p t s)
