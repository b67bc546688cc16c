-- What an edit statement comes to where its edits were made.
use Rattle.std.proofs.Common.{◌≡◌, List, [], ◌∷◌, ap₂}
use Rattle.std.specs.Prelude.{Option, None}
use Rattle.mp_io.specs.Devices.{Text}
use Rattle.mp_term.specs.Tree.{Tree}
use Rattle.mp_term.specs.Signature.{Sig}
use Rattle.mp_term.specs.declared.edit_fault.EditFault.{EditFault}
use Rattle.mp_command.specs.Outcome.{Outcome, edited_before, edited_line, written_before}

-- its line is written
pub edited_before-made : (sig : Sig) (name : Text) (fault : Option EditFault) (ts : List Tree) (t : Tree)
    (rest : Outcome) → fault ≡ None → ts ≡ t ∷ []
    → edited_before sig name fault ts rest ≡ written_before (edited_line sig name t) rest
edited_before-made sig name fault ts t rest none one = ap₂ (λ f us. edited_before sig name f us rest) none one
