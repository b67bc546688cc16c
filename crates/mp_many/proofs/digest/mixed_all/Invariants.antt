use Rattle.std.proofs.Common.{◌≡◌, drop}
use Rattle.mp_many.specs.Digest.{mixed_all}
use Rattle.mp_many.proofs.digest.mixed_all.Given as goal

abbrev pub invariant-loop-byte : goal.invariant-loop-byte
invariant-loop-byte l = mixed_all l.digest (drop l.byte-index l.bytes) ≡ mixed_all l.seed l.bytes
