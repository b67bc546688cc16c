-- The first fault of a list of faults that is put together.
use Rattle.std.proofs.Common.{◌≡◌, Bool, true, List, [], ◌∷◌, ◌++◌, Result, Some, refl, ap, sym, subst}
use Rattle.mp_parser.specs.declared.place.Place.{Place}
use Rattle.mp_build.specs.declared.fault.TextKind.{TextKind}
use Rattle.mp_build.specs.declared.fault.TextFault.{TextFault}
use Rattle.mp_build.specs.declared.fault.TextError.{TextError}
use Rattle.mp_build.specs.declared.fault.TextError.TheVariants.{Text, Memory}
use Rattle.mp_build.specs.Answers.{first, Fails, Gives}
use Rattle.mp_build.specs.Checks.{fault_at, fault_if}

-- the first fault of the front is the first of all
first-append : (fs gs : List TextFault) (f : TextFault) → first fs ≡ Some f → first (fs ++ gs) ≡ Some f
first-append [] gs f h = cc
first-append (g ∷ fs) gs f h = h

-- the error is the first fault of the front
pub fails-front : (e : TextError) (fs gs : List TextFault) → Fails e fs → Fails e (fs ++ gs)
fails-front (Text f) fs gs h = first-append fs gs f h
fails-front Memory fs gs h = tt

-- the same faults
pub fails-along : (e : TextError) (fs gs : List TextFault) → fs ≡ gs → Fails e fs → Fails e gs
fails-along e fs gs p h = subst (Fails e) p h

-- a front without faults goes away
pub none-append : (fs gs : List TextFault) → fs ≡ [] → fs ++ gs ≡ gs
none-append fs gs p = ap (λ l. l ++ gs) p

-- the error is the first fault behind a front without faults
pub fails-behind : (e : TextError) (fs gs : List TextFault) → fs ≡ [] → Fails e gs → Fails e (fs ++ gs)
fails-behind e fs gs p h = subst (Fails e) (sym (none-append fs gs p)) h

-- the error is the fault of a test that holds
pub fails-fault_if : (e : TextError) (test : Bool) (kind : TextKind) (place : Place) → e ≡ Text (fault_at kind place)
    → test ≡ true → Fails e (fault_if test kind place)
fails-fault_if e test kind place h holds = rw (h, holds) refl

-- what is given behind a front without faults
pub gives-behind : {T : Type 0} (r : Result T TextError) (fs gs : List TextFault) (P : T → Type 0) → fs ≡ []
    → Gives r gs P → Gives r (fs ++ gs) P
gives-behind r fs gs P p g = subst (λ l. Gives r l P) (sym (none-append fs gs p)) g
