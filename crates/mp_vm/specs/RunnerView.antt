-- What contracts see of a prepared program, and what holds of it.
use Rattle.std.specs.Prelude.{◌≡◌}
use Rattle.mp_walk.specs.Code.{IsCode}
use Rattle.mp_walk.specs.CodeConstants.{AreCodeConstants}
use Rattle.mp_program.specs.ProgramView.{program_view}
use Rattle.mp_vm.specs.Runnable.{IsRunnable}
use Rattle.mp_vm.specs.Runner.{Prepared}
use Rattle.mp_vm.specs.declared.runner.Runner.TheInside.{Inside}

-- the signature and the program
abbrev pub runner_view : Inside → Prepared
runner_view r = record { sig = r.sig.now; program = program_view r.program.now }

-- the program may be run, its instructions are ready to be walked, and its constants to be put into a table
pub record IsRunner (r : Inside) : Type 0 where
  pub runnable : IsRunnable r.sig.now (program_view r.program.now)
  pub instrs : r.code.instrs ≡ r.program.now.code
  pub code : IsCode r.sig.now r.code
  pub constants : AreCodeConstants r.sig.now r.program.now.code r.constants
