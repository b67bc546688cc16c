use Rattle.mp_cond.proofs.CompleteLaws.{settled-complete}
use Rattle.mp_cond.proofs.laws.conditions_are_settled_by_complete_trails.Goals as goal

pub returns : goal.returns
returns c t p trail cond firsts complete over = settled-complete t p trail firsts complete cond over
