-- What is asked of a table of instructions that is walked. A tree of prefixes of the tokens of sound rules is such a
-- table, and so is a table whose paths were checked one by one.
use Rattle.std.specs.Prelude.{◌≡◌, ◌≢◌, ◌<◌, ◌≤◌, ℕ, zero, suc, true, List, [], ◌∷◌, ◌++◌, length, flat_map, Some, None}
use Rattle.std.specs.Prelude.{IsSome}
use Rattle.std.specs.List.{AllByRecursion}
use Rattle.mp_term.specs.Listing.{In}
use Rattle.mp_term.specs.Signature.{Sig}
use Rattle.mp_pattern.specs.NetTokens.{NetToken, tokens_of, numbered}
use Rattle.mp_pattern.specs.PatternTree.{Pattern}
use Rattle.mp_pattern.specs.PlanFault.{plan_fault}
use Rattle.mp_pattern.specs.Sound.{DefaultsAreNormal, holds_ops}
use Rattle.mp_pattern.specs.Variables.{variables}
use Rattle.mp_ac.specs.CommItems.{NoneTwice}
use Rattle.mp_walk.specs.Instrs.{Instr, instr_at, targets}

-- tokens one after the other
abbrev pub Path : Type 0
Path = List NetToken

-- v0, v1 and so on
abbrev pub numbered_names : ℕ → List (List ℕ)
numbered_names zero = []
numbered_names (suc n) = numbered_names n ++ numbered n ∷ []

-- the path stands for the pattern: it is the pattern's tokens, and the variables are v0, v1 and so on
pub record StandsFor (sig : Sig) (path : Path) (p : Pattern) : Type 0 where
  pub tokens : tokens_of sig p ≡ path
  pub names : variables p ≡ numbered_names (length (variables p))

-- the path stands for a pattern that has a plan, so that it is within the limits, and whose operations are held and
-- whose defaults are normal
pub record IsWhole (sig : Sig) (path : Path) : Type 0 where
  pub pattern : Pattern
  pub stands : StandsFor sig path pattern
  pub planned : plan_fault pattern ≡ None
  pub held : holds_ops sig pattern ≡ true
  pub defaults : DefaultsAreNormal sig pattern

-- each instruction has a path, which ends with its own token: before that nothing stands in the path of the first
-- instruction, what leads down stands in that of its target, and what leads over leaves its place to its target
pub record ArePaths (code : List Instr) (before : ℕ → Path) : Type 0 where
  pub first : before 1 ≡ []
  pub down : (n t : ℕ) (i : Instr) → instr_at code n ≡ Some i → i.down ≡ Some t → before t ≡ before n ++ i.token ∷ []
  pub over : (n t : ℕ) (i : Instr) → instr_at code n ≡ Some i → i.over ≡ Some t → before t ≡ before n

-- the table may be walked: each target is an instruction behind its own, no instruction is the target of two, each
-- instruction accepts or leads down, and the path of each that accepts is whole
pub record IsWalkable (sig : Sig) (code : List Instr) : Type 0 where
  pub before : ℕ → Path
  pub paths : ArePaths code before
  pub forward : (n t : ℕ) (i : Instr) → instr_at code n ≡ Some i → In t (targets i) → (n < t) × (t ≤ length code)
  pub once : NoneTwice (flat_map targets code)
  pub leads : AllByRecursion (λ i. i.accepts ≡ [] → IsSome i.down) code
  pub whole : (n : ℕ) (i : Instr) → instr_at code n ≡ Some i → i.accepts ≢ [] → IsWhole sig (before n ++ i.token ∷ [])
