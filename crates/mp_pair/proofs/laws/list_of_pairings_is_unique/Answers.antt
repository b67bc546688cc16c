use Rattle.std.proofs.lemmas.Cmp.{nat_list_cmp_total}
use Rattle.mp_term.proofs.ListingLaws.{unique_listing}
use Rattle.mp_choice.proofs.Lexicographic.{lex}
use Rattle.mp_pair.specs.Pairings.{IsPairing}
use Rattle.mp_pair.proofs.laws.list_of_pairings_is_unique.Goals as goal

pub returns : goal.returns
returns c = λ cs left xs ys. unique_listing lex nat_list_cmp_total (IsPairing cs left) xs ys
