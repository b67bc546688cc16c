-- What is known along the path to an instruction.
use Rattle.std.specs.Prelude.{◌<◌, ℕ, List, [], ◌∷◌, reverse}
use Rattle.mp_vm.specs.Known.{IsBack}
use Rattle.mp_vm.specs.SettingView.{HasGathered}
use Rattle.mp_vm.specs.declared.above.Above.{Above}
use Rattle.mp_vm.specs.declared.code.Setting.{Setting}
use Rattle.mp_vm.specs.declared.trail.Step.{Step}
use Rattle.mp_vm.specs.declared.trail.Trail.{Trail}
use Rattle.mp_vm.specs.declared.ways.Way.{Way}

-- all is known of the tokens of the instruction of the number and of those above it, and still when the steps are taken
-- back, the first one first
abbrev pub HasSteps : Setting → List Way → ℕ → List Step → Above → Type 0
HasSteps s ws n [] a = HasGathered s ws n a
HasSteps s ws n (t ∷ ts) a = HasGathered s ws n a × (t.above < n)
    × ((z : Above) → IsBack t.before a z → HasSteps s ws t.above ts z)

-- so along a trail
abbrev pub HasTrail : Setting → List Way → Trail → Type 0
HasTrail s ws t = HasSteps s ws t.at (reverse t.steps.items) t.known
