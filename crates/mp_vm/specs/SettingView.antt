-- What the instructions of a program are checked against, and how far the check has come.
use Rattle.std.specs.Prelude.{◌≡◌, ◌<◌, ◌-◌, ◌+◌, ◌^◌, ℕ, suc, List, ◌++◌, map, length, drop, reverse}
use Rattle.mp_pattern.specs.CondTree.{Cond}
use Rattle.mp_pattern.specs.NetTokens.{NetToken}
use Rattle.mp_walk.specs.Instrs.{Instr, targets}
use Rattle.mp_walk.specs.InstrView.{plain_instr}
use Rattle.mp_program.specs.declared.fault.ProgramError.{ProgramError}
use Rattle.mp_program.specs.FormFaults.{target_faults, path_faults, way_faults, code_faults}
use Rattle.mp_program.specs.Leads.{Lead, befores}
use Rattle.mp_program.specs.Program.{ProgramRule}
use Rattle.mp_walk.specs.Walkable.{Path}
use Rattle.mp_vm.specs.RuleNeeds.{needs_view, needs_of}
use Rattle.mp_vm.specs.Known.{IsGoodPath, IsGathered}
use Rattle.mp_vm.specs.WayView.{AreAbove, AreWays}
use Rattle.mp_vm.specs.declared.above.Above.{Above}
use Rattle.mp_vm.specs.declared.code.Setting.{Setting}
use Rattle.mp_vm.specs.declared.ways.Way.{Way}

-- the setting is that of these tests and rules
pub record IsSetting (tests : List Cond) (rules : List ProgramRule) (s : Setting) : Type 0 where
  pub needs : map needs_view s.needs.items ≡ map (needs_of tests) rules
  pub most : s.most < 2 ^ 64 - 1

module _ (tests : List Cond) (rules : List ProgramRule) (s : Setting) where
  abbrev pub setting_code : List Instr
  setting_code = map plain_instr s.code.now

  -- the faults of an instruction with this path
  abbrev pub faults_of_path : ℕ → Path → Instr → List ProgramError
  faults_of_path line ks i =
      path_faults s.sig.now s.most tests rules (suc (length setting_code)) line ks i

  -- the faults of the instruction of number n, to which ls lead
  abbrev pub faults_of_instr : ℕ → ℕ → List Lead → Instr → List ProgramError
  faults_of_instr line n ls i = target_faults (suc (length setting_code)) line n (targets i)
      ++ way_faults s.sig.now s.most tests rules (suc (length setting_code)) line (befores ls n) i

  -- the faults of the instructions behind the first ones, where `begin` stands on this line
  abbrev pub faults_behind : ℕ → ℕ → List Lead → List ProgramError
  faults_behind line done ls = code_faults s.sig.now s.most tests rules (suc (length setting_code))
      (suc (line + done)) (suc done) ls (drop done setting_code)

  -- these ways are known where so many are checked
  abbrev pub HasWays : List Lead → ℕ → List Way → Type 0
  HasWays ls done ws = AreWays s.sig.now s.most setting_code ls done ws

-- all is known of the tokens of an instruction and of those above it, where they are a good path
abbrev pub HasGathered : Setting → List Way → ℕ → Above → Type 0
HasGathered s ws n a = (ks : List NetToken) → AreAbove (map plain_instr s.code.now) ws n ks
    → IsGoodPath s.sig.now s.most (reverse ks) → IsGathered s.sig.now s.most a (reverse ks)
