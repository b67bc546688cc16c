-- Which bytes are which program, and which fault others have.
use Rattle.std.specs.Prelude.{◌≡◌, ◌≢◌, ◌≤◌, ◌<◌, ℕ, suc, Bool, true, false, ◌&&◌, ◌||◌, not, List, [], ◌∷◌, ◌++◌}
use Rattle.std.specs.Prelude.{length, take, Option, Some, None, nat_eq, codes}
use Rattle.std.specs.Char.{is_ascii_digit}
use Rattle.std.specs.List.{list_all}
use Rattle.mp_io.specs.Devices.{Text}
use Rattle.mp_term.specs.Signature.{Sig}
use Rattle.mp_program.specs.declared.fault.ProgramError.{ProgramError}
use Rattle.mp_program.specs.declared.fault.ProgramError.TheVariants.{WrongVersion, BadLine}
use Rattle.mp_program.specs.Program.{Program}
use Rattle.mp_program.specs.Form.{Form}
use Rattle.mp_program.specs.FormText.{lines_of, lines_text, form_lines}
use Rattle.mp_program.specs.RightForm.{IsRightForm}
use Rattle.mp_program.specs.ProgramOf.{program_of}
use Rattle.mp_program.specs.FormFaults.{form_faults}

-- ---- the form of the lines

-- the bytes are right lines, of which the last ends with a line feed too
pub record IsFormOf (sig : Sig) (bytes : Text) (f : Form) : Type 0 where
  pub right : IsRightForm sig f
  pub lines : lines_of bytes ≡ form_lines sig f
  pub ended : lines_text (lines_of bytes) ≡ bytes

-- the lines are the first ones of right lines
pub record Begins (sig : Sig) (lines : List Text) : Type 0 where
  pub form : Form
  pub rest : List Text
  pub right : IsRightForm sig form
  pub split : form_lines sig form ≡ lines ++ rest

-- right lines begin with the lines before line n, and none begin with line n too: it isn't one that may stand there, or
-- it isn't there or has no end
pub record IsBadLine (sig : Sig) (bytes : Text) (n : ℕ) : Type 0 where
  pub before : ℕ
  pub number : n ≡ suc before
  pub within : before ≤ length (lines_of bytes)
  pub begins : Begins sig (take before (lines_of bytes))
  pub stops : before < length (lines_of bytes) → Begins sig (take (suc before) (lines_of bytes)) → ⊥
  pub formless : (f : Form) → IsFormOf sig bytes f → ⊥

-- the word is a number in decimal, however great: digits, of which the first is 0 in `0` alone
abbrev pub is_numeral : Text → Bool
is_numeral [] = false
is_numeral (c ∷ cs) = list_all is_ascii_digit (c ∷ cs) && (not (nat_eq c 48) || nat_eq (length cs) 0)

-- the first line names another format than 1 and 2
pub record IsOtherVersion (bytes : Text) : Type 0 where
  pub number : Text
  pub rest : List Text
  pub first : lines_of bytes ≡ (codes "matchpy program " ++ number) ∷ rest
  pub numeral : is_numeral number ≡ true
  pub not_one : number ≢ codes "1"
  pub not_two : number ≢ codes "2"

-- ---- programs and faults

-- the bytes are this program: right lines in which nothing is wrong, which stand for it
pub record IsProgramOf (sig : Sig) (bytes : Text) (p : Program) : Type 0 where
  pub form : Form
  pub is_form : IsFormOf sig bytes form
  pub faultless : form_faults sig form ≡ []
  pub program : p ≡ program_of sig form

-- the first of the faults
abbrev pub first_fault : List ProgramError → Option ProgramError
first_fault [] = None
first_fault (f ∷ fs) = Some f

-- the fault of the bytes: the format, or else the first line that isn't right, or else the first fault of right lines
pub data IsProgramFaultOf (sig : Sig) (bytes : Text) (f : ProgramError) : Type 0 where
  version : IsOtherVersion bytes → f ≡ WrongVersion → IsProgramFaultOf sig bytes f
  line : (n : ℕ) → (IsOtherVersion bytes → ⊥) → IsBadLine sig bytes n → f ≡ BadLine n → IsProgramFaultOf sig bytes f
  content : (form : Form) → IsFormOf sig bytes form → first_fault (form_faults sig form) ≡ Some f
      → IsProgramFaultOf sig bytes f

-- a program is valid over a signature: some bytes are it
abbrev pub IsValid : Sig → Program → Type 0
IsValid sig p = (bytes : Text) × IsProgramOf sig bytes p
