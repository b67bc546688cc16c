use Rattle.std.proofs.Common.{◌≡◌, ◌+◌, drop}
use Rattle.mp_pattern.specs.NetTokens.{number_in}
use Rattle.mp_program.proofs.renamed.names_before.Given as goal

-- the name is none of those before
abbrev pub invariant-loop-index : goal.invariant-loop-index
invariant-loop-index l = l.index + number_in (drop l.index l.names) l.name ≡ number_in l.names l.name
