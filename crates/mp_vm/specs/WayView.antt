-- What the ways to the instructions of a program are: one number stands for a whole path.
use Rattle.std.specs.Prelude.{◌≡◌, ◌≤◌, ◌<◌, ℕ, zero, suc, List, [], ◌∷◌, length, reverse, slice_get, Some}
use Rattle.std.specs.Prelude.{None}
use Rattle.mp_term.specs.Signature.{Sig}
use Rattle.mp_pattern.specs.NetTokens.{NetToken}
use Rattle.mp_walk.specs.Instrs.{Instr, instr_at}
use Rattle.mp_program.specs.Leads.{Lead, befores}
use Rattle.mp_vm.specs.Known.{IsGoodPath}
use Rattle.mp_vm.specs.declared.ways.Way.{Way}
use Rattle.mp_vm.specs.declared.ways.Way.TheVariants.{Unknown, One, Several}

-- the way to the instruction of the number
abbrev pub way_at : List Way → ℕ → Way
way_at ws zero = Unknown
way_at ws (suc k) = elim (slice_get ws k) [ None ↦ Unknown | Some w ↦ w ]

-- one way more
abbrev pub way_more : ℕ → Way → Way
way_more above Unknown = One above
way_more above (One a) = Several
way_more above Several = Several

-- the tokens of an instruction and of those above it, the last one first; 0 is above all
abbrev pub AreAbove : List Instr → List Way → ℕ → List NetToken → Type 0
AreAbove code ws n [] = n ≡ 0
AreAbove code ws n (k ∷ ks) = (a : ℕ) × (i : Instr) × (instr_at code n ≡ Some i) × (k ≡ i.token)
    × (way_at ws n ≡ One a) × (a < n) × AreAbove code ws a ks

module _ (sig : Sig) (most : ℕ) (code : List Instr) (ls : List Lead) (done : ℕ) (ws : List Way) where
  -- one way leads to the instruction, from below the instruction of the number above, which isn't beyond those that are
  -- checked
  pub record IsLedFrom (n above : ℕ) : Type 0 where
    pub tokens : List NetToken
    pub checked : above ≤ done
    pub are : AreAbove code ws above tokens
    pub only : befores ls n ≡ reverse tokens ∷ []
    pub good : IsGoodPath sig most (reverse tokens)

  -- this is known of the ways to the instruction
  abbrev pub IsWayTo : ℕ → Way → Type 0
  IsWayTo n Unknown = befores ls n ≡ []
  IsWayTo n (One above) = IsLedFrom n above
  IsWayTo n Several = 2 ≤ length (befores ls n)

  -- so of those to all instructions, where so many are checked
  pub record AreWays : Type 0 where
    pub count : length ws ≡ length code
    pub ways : (n : ℕ) → 1 ≤ n → n ≤ length code → IsWayTo n (way_at ws n)
