use Rattle.std.proofs.Common.{sym, ◌∙◌}
use Rattle.mp_matches.proofs.ListedLaws.{IsListed-exact}
use Rattle.mp_matches.proofs.laws.what_is_listed_is_unique.Goals as goal

pub returns : goal.returns
returns c = λ file resume limit l k sound h i.
    (IsListed-exact file sound resume limit l).0 h ∙ sym ((IsListed-exact file sound resume limit k).0 i)
