use Rattle.mp_pattern.proofs.NameLaws.{same_name-itself}
use Rattle.mp_net.proofs.visit.asking.Goals as goal

pub returns-in-Sym-clause-itself : goal.returns-in-Sym-clause-itself
returns-in-Sym-clause-itself c = same_name-itself c.in-Sym.name.now
