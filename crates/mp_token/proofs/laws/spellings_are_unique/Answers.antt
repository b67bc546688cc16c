use Rattle.mp_token.proofs.SpellingLaws.{spelling_unique}
use Rattle.mp_token.proofs.laws.spellings_are_unique.Goals as goal

pub returns : goal.returns
returns c = spelling_unique
