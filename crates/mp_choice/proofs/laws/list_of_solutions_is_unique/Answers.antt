use Rattle.std.proofs.lemmas.Cmp.{nat_list_cmp_total}
use Rattle.mp_term.proofs.ListingLaws.{unique_listing}
use Rattle.mp_choice.specs.Equations.{IsSolution}
use Rattle.mp_choice.proofs.Lexicographic.{lex}
use Rattle.mp_choice.proofs.laws.list_of_solutions_is_unique.Goals as goal

pub returns : goal.returns
returns c = λ cs total xs ys. unique_listing lex nat_list_cmp_total (IsSolution cs total) xs ys
