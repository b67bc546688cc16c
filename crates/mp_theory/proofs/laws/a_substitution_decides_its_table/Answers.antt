use Rattle.mp_theory.proofs.OneTable.{fits-same}
use Rattle.mp_theory.proofs.laws.a_substitution_decides_its_table.Goals as goal

pub returns : goal.returns
returns c = fits-same
