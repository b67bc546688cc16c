use Rattle.std.proofs.Common.{◌≡◌, ◌++◌, List, map}
use Rattle.mp_pattern.specs.NetTokens.{NetToken}
use Rattle.mp_walk.specs.InstrView.{plain_instr}
use Rattle.mp_vm.specs.Known.{tokens_in}
use Rattle.mp_vm.specs.WayView.{AreAbove}
use Rattle.mp_vm.proofs.ways.Ways.add_above.Given as goal

abbrev pub invariant-loop-number : goal.invariant-loop-number
invariant-loop-number l = (ks : List NetToken) → AreAbove (map plain_instr l.code) l.self.ways.items l.fn.above ks
    → (js : List NetToken) × AreAbove (map plain_instr l.code) l.self.ways.items l.number js
    × (tokens_in l.tokens.items ++ js ≡ tokens_in l.fn.tokens.items ++ ks)

abbrev pub decreases-loop-number : goal.decreases-loop-number
decreases-loop-number l = l.number
