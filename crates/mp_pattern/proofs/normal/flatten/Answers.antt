use Rattle.std.proofs.Common.{rules}
use Rattle.mp_pattern.proofs.NormalLaws.{flattened-plain}
use Rattle.mp_pattern.proofs.normal.flatten.Goals as goal

pub returns-then-not-is_assoc : goal.returns-then-not-is_assoc
returns-then-not-is_assoc c = search (rules, flattened-plain)
