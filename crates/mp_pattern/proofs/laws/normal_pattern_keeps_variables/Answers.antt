use Rattle.mp_pattern.proofs.VariableLaws.{IsPermutation-names, IsPermutation-variables}
use Rattle.mp_pattern.proofs.laws.normal_pattern_keeps_variables.Goals as goal

pub returns : goal.returns
returns c = record { names = IsPermutation-names; variables = IsPermutation-variables }
