-- How many terms tokens take at most of the operation that is open.
use Rattle.std.specs.Prelude.{◌≡◌, ◌≤◌, ◌<◌, ◌+◌, ℕ, List, [], ◌∷◌, length, Option}
use Rattle.mp_term.specs.Listing.{In}
use Rattle.mp_term.specs.Signature.{Sig}
use Rattle.mp_pattern.specs.Fits.{Table}
use Rattle.mp_pattern.specs.NetTokens.{NetToken}
use Rattle.mp_pattern.specs.Value.{Subst}
use Rattle.mp_walk.specs.Course.{after_step, walk_from}
use Rattle.mp_walk.specs.Instrs.{Instr}
use Rattle.mp_walk.specs.TokenMachine.{Open, State}
use Rattle.mp_walk.specs.Ways.{Step, way_steps}

-- each step of a token leaves the operation open, with at most so many terms less
abbrev pub TakesAtMost : Sig → Option ℕ → NetToken → ℕ → Type 0
TakesAtMost sig u k n =
    (f : Open) (fs : List Open) (s : Subst) (way : ℕ) (r : Step) → f.under ≡ u → In r (way_steps sig f fs s k way)
    → (g : Open) × (r.1.open_ones ≡ g ∷ fs) × (g.under ≡ u) × (length f.left ≤ n + length g.left)

module _ (sig : Sig) (code : List Instr) where
  -- nothing comes from a target on where more than so many terms are left to the operation that is open
  abbrev pub TakeAtMost : Option ℕ → Option ℕ → ℕ → Type 0
  TakeAtMost u target n =
      (s : State) (f : Open) (fs : List Open) (before : Table) → s.open_ones ≡ f ∷ fs → f.under ≡ u
      → n < length f.left → walk_from sig code target s before ≡ []

  -- nothing comes of a step of an instruction
  abbrev pub IsIdle : Instr → Step → Type 0
  IsIdle i r = (n : ℕ) (before : Table) → after_step sig code n i before r ≡ []
