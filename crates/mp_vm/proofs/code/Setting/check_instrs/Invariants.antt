use Rattle.std.proofs.Common.{◌≡◌, List}
use Rattle.mp_pattern.specs.CondTree.{Cond}
use Rattle.mp_program.specs.Leads.{Lead}
use Rattle.mp_program.specs.Program.{ProgramRule}
use Rattle.mp_vm.specs.SettingView.{IsSetting, HasWays, faults_behind}
use Rattle.mp_vm.specs.TrailView.{HasTrail}
use Rattle.mp_vm.proofs.code.Setting.check_instrs.Given as goal

abbrev pub invariant-loop-instr : goal.invariant-loop-instr
invariant-loop-instr l = record {
  number : l.number ≡ l.instr-index;
  passed : (tests : List Cond) (rules : List ProgramRule) (ls : List Lead) → IsSetting tests rules l.self
      → HasWays tests rules l.self ls 0 l.fn.progress.ways.ways.items
      → HasTrail l.self l.fn.progress.ways.ways.items l.fn.progress.trail
      → (ms : List Lead) × HasWays tests rules l.self ms l.instr-index l.progress.ways.ways.items
      × HasTrail l.self l.progress.ways.ways.items l.progress.trail
      × (faults_behind tests rules l.self l.line l.instr-index ms ≡ faults_behind tests rules l.self l.line 0 ls);
}
