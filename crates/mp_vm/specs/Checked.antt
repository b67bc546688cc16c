-- What a check of the lines of a program text answers.
use Rattle.std.specs.Prelude.{◌≡◌, ◌≢◌, ℕ, zero, suc, List, [], ◌∷◌, ◌++◌, Some, Result, Ok, Err}
use Rattle.mp_program.specs.declared.fault.ProgramError.{ProgramError}
use Rattle.mp_program.specs.declared.fault.ProgramError.TheVariants.{Memory}
use Rattle.mp_program.specs.Reading.{first_fault}

-- a check that looks for the faults: it passes where there are none; an error is the first one, or want of memory
abbrev pub Checks : {T : Type 0} → List ProgramError → Result T ProgramError → Type 0
Checks faults (Ok t) = faults ≡ []
Checks faults (Err f) = f ≢ Memory → first_fault faults ≡ Some f

-- the numbers below n, ascending
abbrev pub numbers_below : ℕ → List ℕ
numbers_below zero = []
numbers_below (suc n) = numbers_below n ++ n ∷ []
