-- Lists without faults, and what tests that give no fault say.
use Rattle.std.proofs.Common.{◌≡◌, Bool, true, false, List, [], ◌∷◌, ◌++◌, ap, refl, ◌∙◌}
use Rattle.mp_parser.specs.declared.place.Place.{Place}
use Rattle.mp_build.specs.declared.fault.TextKind.{TextKind}
use Rattle.mp_build.specs.Checks.{fault_if}

-- two lists without items are one without items
pub nil-both : {X : Type 0} (a b : List X) → a ≡ [] → b ≡ [] → a ++ b ≡ []
nil-both a b h k = ap (λ l. l ++ b) h ∙ k

-- a list with an item behind others has items
pub some-behind : {X : Type 0} (a : List X) (x : X) → a ++ x ∷ [] ≡ [] → ⊥
some-behind [] x h = cc
some-behind (y ∷ a) x h = cc

-- a test that gives no fault doesn't hold
pub nil-fault_if : (test : Bool) (kind : TextKind) (place : Place) → fault_if test kind place ≡ [] → test ≡ false
nil-fault_if true kind place h = cc
nil-fault_if false kind place h = refl

-- a test that doesn't hold gives no fault
pub none-fault_if : (test : Bool) (kind : TextKind) (place : Place) → test ≡ false → fault_if test kind place ≡ []
none-fault_if true kind place h = cc
none-fault_if false kind place h = refl
