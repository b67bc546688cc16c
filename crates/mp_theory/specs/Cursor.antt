-- The search as a stack of generators: the solutions still to come.
use Rattle.std.specs.Prelude.{ℕ, List, [], ◌∷◌, ◌++◌, flat_map}
use Rattle.mp_term.specs.Signature.{Sig}
use Rattle.mp_pattern.specs.Value.{Subst}
use Rattle.mp_pattern.specs.Fits.{Entry}
use Rattle.mp_theory.specs.Solve.{solve}
use Rattle.mp_theory.specs.Frames.{Next}
use Rattle.mp_theory.specs.Machine.{onward, said}
use Rattle.mp_theory.specs.Trail.{listed_by, solutions}

-- an open node: its place, the trail there, the choices not yet tried, and how many entries come after its own
pub record Level : Type 0 where
  pub place : Next
  pub trail : Subst
  pub untried : List Entry
  pub after : ℕ

module _ (sig : Sig) where
  -- the solutions that go on with the entry
  abbrev pub branch : ℕ → Next → Subst → Entry → List Subst
  branch k n s e = listed_by (λ r. solutions sig k (onward n e) r) (solve sig s (said n e))

  -- the last level's first
  abbrev pub to_come : List Level → List Subst
  to_come [] = []
  to_come (l ∷ ls) = flat_map (branch l.after l.place l.trail) l.untried ++ to_come ls
