use Rattle.mp_theory.proofs.SecondSearch.{second-search, item_list-least}
use Rattle.mp_theory.proofs.laws.a_second_search_finds_the_items_of_a_substitution.Goals as goal

pub returns-clause-found : goal.returns-clause-found
returns-clause-found c = λ sig p t s T normal f. second-search sig p t normal s T f

pub returns-clause-least : goal.returns-clause-least
returns-clause-least c = item_list-least
