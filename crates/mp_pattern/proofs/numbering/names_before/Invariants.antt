use Rattle.std.proofs.Common.{◌≡◌, ◌+◌, drop}
use Rattle.mp_pattern.specs.NetTokens.{number_in}
use Rattle.mp_pattern.proofs.numbering.names_before.Given as goal

abbrev pub invariant-loop-index : goal.invariant-loop-index
invariant-loop-index l = l.index + number_in (drop l.index l.names) l.name ≡ number_in l.names l.name
