-- What reading a program answers.
use Rattle.std.specs.Prelude.{◌≡◌, ◌≢◌, ◌++◌, ⊤, [], Some, Result, Ok, Err}
use Rattle.mp_term.specs.Signature.{Sig}
use Rattle.mp_program.specs.declared.fault.ProgramError.{ProgramError}
use Rattle.mp_program.specs.declared.fault.ProgramError.TheVariants.{Memory}
use Rattle.mp_program.specs.declared.program.Program as code
use Rattle.mp_program.specs.Program.{Program}
use Rattle.mp_program.specs.ProgramView.{program_view}
use Rattle.mp_program.specs.Form.{Form}
use Rattle.mp_program.specs.FormFaults.{faults_of_begin, faults_of_code}
use Rattle.mp_program.specs.ProgramOf.{program_of}
use Rattle.mp_program.specs.Reading.{first_fault}

-- a program of which the fact holds, or memory ran out
abbrev pub IsProgramOrMemory : Result code.Program ProgramError → (Program → Type 0) → Type 0
IsProgramOrMemory (Ok p) P = P (program_view p)
IsProgramOrMemory (Err Memory) P = ⊤
IsProgramOrMemory (Err e) P = ⊥

-- a fault of which the fact holds, or memory ran out
abbrev pub IsFaultOrMemory : Result code.Program ProgramError → (ProgramError → Type 0) → Type 0
IsFaultOrMemory (Ok p) P = ⊥
IsFaultOrMemory (Err Memory) P = ⊤
IsFaultOrMemory (Err e) P = P e

-- the program of the form, where nothing is wrong with its instructions, or the first of their faults
abbrev pub IsMade : Sig → Form → Result code.Program ProgramError → Type 0
IsMade sig f (Ok p) = (faults_of_begin sig f ++ faults_of_code sig f ≡ []) × (program_view p ≡ program_of sig f)
IsMade sig f (Err e) = e ≢ Memory → first_fault (faults_of_begin sig f ++ faults_of_code sig f) ≡ Some e
