-- Programs that are given.
use Rattle.std.proofs.Common.{◌≡◌, length, subst, suc, sym}
use Rattle.std.specs.Borrow.{Bor}
use Rattle.std.specs.Prelude.{IfSome, Option, Some}
use Rattle.mp_term.specs.Signature.{Sig}
use Rattle.mp_program.specs.Program.{Program}
use Rattle.mp_program.specs.ProgramView.{program_view}
use Rattle.mp_program.specs.Reading.{IsValid}
use Rattle.mp_program.specs.RightForm.{IsShort}
use Rattle.mp_program.specs.declared.program.Program as code
use Rattle.mp_command.specs.Programs.{given}

-- a valid program has numbers of 32 bits for its instructions
pub valid-short : (sig : Sig) (p : Program) → IsValid sig p → IsShort (suc (length p.code))
valid-short sig p valid =
    subst (λ (q : Program). IsShort (suc (length q.code))) (sym valid.1.program) valid.1.is_form.right.few_instrs

-- the program that is given is valid
pub given-valid : (sig : Sig) (program : Option (Bor code.Program)) (p : Bor code.Program) → program ≡ Some p
    → IfSome (given program) (IsValid sig) → IsValid sig (program_view p.now)
given-valid sig program p is valid = subst (λ o. IfSome (given o) (IsValid sig)) is valid
