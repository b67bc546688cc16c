-- What a call that checks and builds answers: the first fault, or a value of faultless statements.
use Rattle.std.specs.Prelude.{◌≡◌, List, [], ◌∷◌, Option, Some, None, Result, Ok, Err}
use Rattle.mp_build.specs.declared.fault.TextFault.{TextFault}
use Rattle.mp_build.specs.declared.fault.TextError.{TextError}
use Rattle.mp_build.specs.declared.fault.TextError.TheVariants.{Text, Memory}

-- the first of the faults
abbrev pub first : List TextFault → Option TextFault
first [] = None
first (f ∷ fs) = Some f

-- the error is the first of the faults, or memory ran out
abbrev pub Fails : TextError → List TextFault → Type 0
Fails (Text f) fs = first fs ≡ Some f
Fails Memory fs = Unit {0}

-- there is no fault, and the value is as is said; or the error is the first fault, or memory ran out
abbrev pub Gives : {T : Type 0} → Result T TextError → List TextFault → (T → Type 0) → Type 0
Gives (Ok v) fs P = (fs ≡ []) × P v
Gives (Err e) fs P = Fails e fs

-- a fact of the fault of a text
abbrev pub IfText : {T : Type 0} → Result T TextError → (TextFault → Type 0) → Type 0
IfText (Ok v) P = Unit {0}
IfText (Err (Text t)) P = P t
IfText (Err Memory) P = Unit {0}

-- a fault of which the fact holds, or memory ran out
abbrev pub IsFaultOrMemory : {T : Type 0} → Result T TextError → (TextFault → Type 0) → Type 0
IsFaultOrMemory (Ok v) P = ⊥
IsFaultOrMemory (Err (Text t)) P = P t
IsFaultOrMemory (Err Memory) P = Unit {0}
