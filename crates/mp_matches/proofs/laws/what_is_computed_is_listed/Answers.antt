use Rattle.std.proofs.Common.{refl}
use Rattle.mp_matches.specs.Computed.{listed}
use Rattle.mp_matches.proofs.ListedLaws.{IsListed-exact}
use Rattle.mp_matches.proofs.laws.what_is_computed_is_listed.Goals as goal

pub returns : goal.returns
returns c = λ file resume limit sound. (IsListed-exact file sound resume limit (listed file resume limit)).1 refl
