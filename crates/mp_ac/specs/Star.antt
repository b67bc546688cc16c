-- One star wildcard that takes all that is left.
use Rattle.std.specs.Prelude.{◌≡◌, ℕ, List, [], ◌∷◌, Option, Some}
use Rattle.mp_term.specs.Tree.{Tree}
use Rattle.mp_pattern.specs.NetTokens.{numbered}
use Rattle.mp_pattern.specs.PatternTree.{star, Pattern, app_pattern, wild_pattern, no_patterns, more_patterns}
use Rattle.mp_pattern.specs.Value.{bag, Subst}
use Rattle.mp_theory.specs.Solve.{bind}

-- the pattern is an application to one star wildcard
pub record IsOfStar (p : Pattern) : Type 0 where
  pub op : ℕ
  pub name : Option (List ℕ)
  pub is : p ≡ app_pattern op (more_patterns (wild_pattern star name) no_patterns)

-- the substitution with the variable of the first number, if there is one, bound to the multiset of the terms too
abbrev pub bag_bound : List ℕ → List Tree → Subst → Option Subst
bag_bound [] ts s = Some s
bag_bound (v ∷ vs) ts s = bind s (numbered v) (bag ts)
