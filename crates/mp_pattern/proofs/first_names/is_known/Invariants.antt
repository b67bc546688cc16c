use Rattle.std.proofs.Common.{◌≡◌, drop}
use Rattle.mp_pattern.specs.Firsts.{is_known}
use Rattle.mp_pattern.specs.Value.{same_name}
use Rattle.mp_pattern.proofs.first_names.is_known.Given as goal

-- the name is none of those so far
abbrev pub invariant-loop-index : goal.invariant-loop-index
invariant-loop-index l = is_known same_name (drop l.index l.known) l.name ≡ is_known same_name l.known l.name
