-- Children that are marked, and the terms that some of them may take alone.
use Rattle.std.specs.Prelude.{◌≡◌, ◌<◌, ℕ, Bool, true, false, ◌&&◌, ◌||◌, List, ◌∷◌, Option}
use Rattle.mp_term.specs.Tree.{Tree}
use Rattle.mp_term.specs.Signature.{Sig}
use Rattle.mp_pattern.specs.PatternTree.{Patterns, more_patterns}
use Rattle.mp_pattern.specs.Value.{Subst}
use Rattle.mp_theory.specs.MayMatch.{takes_one, may_match}
use Rattle.mp_theory.specs.Supply.{passing, marked}

-- each marked child takes exactly one term
abbrev pub each_takes_one : Sig → Option ℕ → List Bool → Patterns → Bool
each_takes_one sig f (true ∷ ms) (more_patterns p ps) = takes_one sig f p && each_takes_one sig f ms ps
each_takes_one sig f (false ∷ ms) (more_patterns p ps) = each_takes_one sig f ms ps
each_takes_one sig f _ _ = true

-- some marked child may match the term
abbrev pub some_may_match : Sig → Subst → Option ℕ → List Bool → Patterns → Tree → Bool
some_may_match sig s f (true ∷ ms) (more_patterns p ps) t = may_match sig s f p t || some_may_match sig s f ms ps t
some_may_match sig s f (false ∷ ms) (more_patterns p ps) t = some_may_match sig s f ms ps t
some_may_match sig s f _ _ t = false

-- the marked children take a term each, and fewer are left that any of them may match
pub record AreLacking (sig : Sig) (s : Subst) (f : Option ℕ) (ms : List Bool) (ps : Patterns) (left : List Tree)
    : Type 0 where
  pub ones : each_takes_one sig f ms ps ≡ true
  pub few : passing (some_may_match sig s f ms ps) left < marked ms ps
