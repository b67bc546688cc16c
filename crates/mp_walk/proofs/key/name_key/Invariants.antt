use Rattle.std.proofs.Common.{◌≡◌, drop}
use Rattle.mp_walk.specs.Keys.{key_from, name_key}
use Rattle.mp_walk.proofs.key.name_key.Given as goal

-- the key so far, with the bytes that are left, is that of the name
abbrev pub invariant-loop-byte : goal.invariant-loop-byte
invariant-loop-byte l = key_from l.key (drop l.byte-index l.name) ≡ name_key l.name
