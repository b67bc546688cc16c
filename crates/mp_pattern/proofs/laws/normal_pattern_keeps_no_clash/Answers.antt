use Rattle.mp_pattern.proofs.ClashLaws.{first_clash-normal_pattern}
use Rattle.mp_pattern.proofs.laws.normal_pattern_keeps_no_clash.Goals as goal

pub returns : goal.returns
returns c = first_clash-normal_pattern
