use Rattle.mp_matches.proofs.PairsListedLaws.{IsAllListed-same}
use Rattle.mp_matches.proofs.laws.what_is_listed_of_all_lists_is_unique.Goals as goal

pub returns : goal.returns
returns c = IsAllListed-same
