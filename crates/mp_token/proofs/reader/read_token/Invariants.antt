use Rattle.std.proofs.Common.{◌≡◌, take, Some}
use Rattle.mp_token.specs.Machine.{start, state_of, run}
use Rattle.mp_token.proofs.reader.read_token.Given as goal

-- the bytes so far lead to the state of the reader
abbrev pub invariant-loop-index : goal.invariant-loop-index
invariant-loop-index l = run start (take l.index l.bytes) ≡ Some (state_of l.reader)
