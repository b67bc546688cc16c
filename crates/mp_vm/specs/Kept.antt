-- What is kept of a state of reading: of the variables of a rule line, so many.
use Rattle.std.specs.Prelude.{◌≡◌, ℕ, List, map}
use Rattle.mp_io.specs.Devices.{Text}
use Rattle.mp_term.specs.Signature.{Sig}
use Rattle.mp_program.specs.Form.{Form}
use Rattle.mp_line.specs.Lines.{Line, rule_line}
use Rattle.mp_line.specs.LineTexts.{kept_line}
use Rattle.mp_vm.specs.Machine.{State, IsStateOf, IsNextText}

-- of a line
abbrev pub kept : ℕ → Line → Line
kept most (rule_line r) = rule_line (kept_line most r)
kept most l = l

-- of a form
abbrev pub kept_form : ℕ → Form → Form
kept_form most f = record f { rules = map (kept_line most) f.rules }

-- of a state
abbrev pub kept_state : ℕ → State → State
kept_state most s = record { stage = s.stage; form = kept_form most s.form }

-- the lines lead to the state, and to none of which something else is kept
pub record IsOnlyState (sig : Sig) (most : ℕ) (read : List Text) (s : State) : Type 0 where
  pub is : IsStateOf sig read s
  pub only : (z : State) → IsStateOf sig read z → kept_state most z ≡ kept_state most s

-- the text is that of the line, and of none of which something else is kept
pub record IsOnlyNext (sig : Sig) (most : ℕ) (f : Form) (text : Text) (l : Line) : Type 0 where
  pub is : IsNextText sig f text l
  pub only : (m : Line) → IsNextText sig f text m → kept most m ≡ kept most l
