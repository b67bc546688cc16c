use Rattle.std.proofs.Common.{◌≡◌, map, take}
use Rattle.mp_walk.specs.InstrView.{plain_instr}
use Rattle.mp_walk.specs.Keys.{instr_key}
use Rattle.mp_walk.proofs.key.keys_of.Given as goal

-- the instructions so far have their keys
abbrev pub invariant-loop-instr : goal.invariant-loop-instr
invariant-loop-instr l = l.keys.items ≡ map instr_key (map plain_instr (take l.instr-index l.instrs))
