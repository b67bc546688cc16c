-- Children that compete for the same terms.
use Rattle.std.specs.Prelude.{◌≡◌, ⊤, ℕ, ◌+◌, Bool, true, false, List, ◌∷◌, Option, length, filter}
use Rattle.mp_term.specs.Tree.{Tree}
use Rattle.mp_term.specs.Signature.{Sig}
use Rattle.mp_pattern.specs.PatternTree.{Patterns, more_patterns}
use Rattle.mp_pattern.specs.Value.{Subst}
use Rattle.mp_theory.specs.MayMatch.{takes_one, may_match}

-- how many terms of a list pass a test
abbrev pub passing : (Tree → Bool) → List Tree → ℕ
passing test ts = length (filter test ts)

-- how many of the children are marked
abbrev pub marked : List Bool → Patterns → ℕ
marked (true ∷ ms) (more_patterns p ps) = 1 + marked ms ps
marked (false ∷ ms) (more_patterns p ps) = marked ms ps
marked _ _ = 0

-- each marked child takes exactly one term, one that passes the test
abbrev pub Covers : Sig → Subst → (Tree → Bool) → Option ℕ → List Bool → Patterns → Type 0
Covers sig s test f (true ∷ ms) (more_patterns p ps) = (takes_one sig f p ≡ true)
    × ((t : Tree) → may_match sig s f p t ≡ true → test t ≡ true) × Covers sig s test f ms ps
Covers sig s test f (false ∷ ms) (more_patterns p ps) = Covers sig s test f ms ps
Covers sig s test f _ _ = ⊤
