-- What the lines of bytes are read as.
use Rattle.std.specs.Prelude.{◌≡◌, ◌≢◌, ◌++◌, ℕ, true, codes, decimal, Result, Ok, Err}
use Rattle.mp_io.specs.Devices.{Text}
use Rattle.mp_term.specs.Signature.{Sig}
use Rattle.mp_program.specs.declared.fault.ProgramError.{ProgramError}
use Rattle.mp_program.specs.declared.fault.ProgramError.TheVariants.{WrongVersion, BadLine}
use Rattle.mp_program.specs.declared.format.Format.{Format}
use Rattle.mp_program.specs.Form.{format_number, Form}
use Rattle.mp_program.specs.Reading.{IsFormOf, is_numeral, IsProgramFaultOf}
use Rattle.mp_vm.specs.declared.draft.Draft.{Draft}
use Rattle.mp_vm.specs.declared.stage.Stage.TheVariants.{Stop}
use Rattle.mp_vm.specs.DraftView.{IsDraftOf}

-- the line of the format
abbrev pub first_line : Format → Text
first_line f = codes "matchpy program " ++ decimal (format_number f)

-- the line names another format than 1 and 2
pub record NamesOther (line : Text) : Type 0 where
  pub number : Text
  pub text : line ≡ codes "matchpy program " ++ number
  pub numeral : is_numeral number ≡ true
  pub not_one : number ≢ codes "1"
  pub not_two : number ≢ codes "2"

-- it names none
abbrev pub NamesNone : Text → Type 0
NamesNone line = (number : Text) → line ≡ codes "matchpy program " ++ number → is_numeral number ≡ true → ⊥

-- the format that a first line names, or the fault of the line
abbrev pub IsNamed : Text → Result Format ProgramError → Type 0
IsNamed line (Ok f) = line ≡ first_line f
IsNamed line (Err WrongVersion) = NamesOther line
IsNamed line (Err (BadLine n)) = (n ≡ 1) × NamesNone line
IsNamed line (Err _) = ⊥

-- the bytes are a form, and the draft is that of it and of each other form that they are
pub record IsDraftOfBytes (sig : Sig) (most : ℕ) (bytes : Text) (d : Draft) : Type 0 where
  pub form : Form
  pub is_form : IsFormOf sig bytes form
  pub each : (f : Form) → IsFormOf sig bytes f → IsDraftOf most d (record { stage = Stop; form = f })

-- the bytes are no form, and this is their fault
pub record IsFormFault (sig : Sig) (bytes : Text) (e : ProgramError) : Type 0 where
  pub fault : IsProgramFaultOf sig bytes e
  pub formless : (f : Form) → IsFormOf sig bytes f → ⊥
