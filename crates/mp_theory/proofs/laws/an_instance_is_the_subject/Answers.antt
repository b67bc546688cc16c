use Rattle.mp_theory.proofs.Instances.{fits-applied}
use Rattle.mp_theory.proofs.laws.an_instance_is_the_subject.Goals as goal

pub returns : goal.returns
returns c = λ sig p t s T named plain normal h. fits-applied sig p t s T named plain normal h
