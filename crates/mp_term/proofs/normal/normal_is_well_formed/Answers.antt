use Rattle.mp_term.proofs.WellFormedNormal.{wf-normal}
use Rattle.mp_term.proofs.normal.normal_is_well_formed.Goals as goal

pub returns : goal.returns
returns c = λ sig t o h. wf-normal sig o t h
