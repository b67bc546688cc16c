-- Of which signatures and rules a program can be printed.
use Rattle.std.specs.Prelude.{◌≡◌, true, List}
use Rattle.std.specs.List.{AllByRecursion}
use Rattle.mp_term.specs.Names.{is_name}
use Rattle.mp_term.specs.Signature.{Sig}
use Rattle.mp_pattern.specs.Admission.{Rule}
use Rattle.mp_round_trip.specs.OpenBrackets.{IsShallowIf}
use Rattle.mp_round_trip.specs.Readable.{IsSpelledSignature}

-- the names and the signs of the signature are such, so are the members of its kinds, and the conditions of the rules
-- aren't too deep, as in every file that is read
pub record ArePrintable (sig : Sig) (rules : List Rule) : Type 0 where
  pub spelled : IsSpelledSignature sig
  pub members : AllByRecursion (λ k. AllByRecursion (λ m. is_name m ≡ true) k.members) sig.kinds
  pub shallow : AllByRecursion (λ r. IsShallowIf r.condition) rules
