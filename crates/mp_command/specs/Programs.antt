-- The programs and program files that actions are given, as the definitions of the outcome have them.
use Rattle.std.specs.Prelude.{◌≡◌, ⊤, Option, option_map, Result, Ok, Err}
use Rattle.std.specs.Borrow.{Bor}
use Rattle.mp_io.specs.Devices.{Text}
use Rattle.mp_program.specs.declared.program.Program as code
use Rattle.mp_program.specs.Program.{Program}
use Rattle.mp_program.specs.ProgramView.{program_view}
use Rattle.mp_program.specs.Reading.{IsProgramFaultOf, IsProgramOf}
use Rattle.mp_program.specs.declared.fault.ProgramError.{ProgramError}
use Rattle.mp_term.specs.Signature.{Sig}
use Rattle.mp_text.specs.File.{FileTree}
use Rattle.mp_text.specs.Reading.{IsFileOf}
use Rattle.mp_command.specs.Outcome.{Named}
use Rattle.mp_command.specs.declared.programs.ProgramText.{ProgramText}
use Rattle.mp_command.specs.declared.ending.Told.TheVariants as told
use Rattle.mp_command.specs.declared.ending.Ending.{Ending}
use Rattle.mp_command.specs.declared.ending.Ending.TheVariants as ending

-- some bytes are the file
abbrev pub IsRead : FileTree → Type 0
IsRead file = (bytes : Text) × IsFileOf bytes file

-- the program behind a reference, where one is given
abbrev pub given : Option (Bor code.Program) → Option Program
given = option_map (λ p. program_view p.now)

-- a program file
abbrev pub named_text : ProgramText → Named
named_text text = record { name = text.name.now; bytes = text.bytes.now }

-- a program file, where one is given
abbrev pub named : Option ProgramText → Option Named
named = option_map named_text

-- this program and no other is what the bytes are, and they have no fault
pub record IsOnlyProgram (sig : Sig) (bytes : Text) (p : Program) : Type 0 where
  pub is : IsProgramOf sig bytes p
  pub only : (q : Program) → IsProgramOf sig bytes q → q ≡ p
  pub faultless : (f : ProgramError) → IsProgramFaultOf sig bytes f → ⊥

-- this fault and no other is that of the bytes, and they are no program
pub record IsOnlyFault (sig : Sig) (bytes : Text) (f : ProgramError) : Type 0 where
  pub is : IsProgramFaultOf sig bytes f
  pub only : (g : ProgramError) → IsProgramFaultOf sig bytes g → g ≡ f
  pub none : (p : Program) → IsProgramOf sig bytes p → ⊥

-- a program file is read as its program, or ends with its fault, or for want of memory
abbrev pub IsReadAs : Sig → Named → Result code.Program Ending → Type 0
IsReadAs sig named (Ok p) = IsOnlyProgram sig named.bytes (program_view p)
IsReadAs sig named (Err (ending.Told (told.BadProgram name f))) =
    (name.now ≡ named.name) × IsOnlyFault sig named.bytes f
IsReadAs sig named (Err ending.Memory) = ⊤
IsReadAs sig named (Err _) = ⊥
