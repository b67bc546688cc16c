use Rattle.std.proofs.Common.{drop, map, take}
use Rattle.std.specs.List.{AllByRecursion}
use Rattle.mp_walk.specs.Code.{ArePlanned}
use Rattle.mp_walk.specs.InstrView.{plain_instr}
use Rattle.mp_walk.specs.SoundTokens.{IsSoundToken}
use Rattle.mp_walk.proofs.code.plans_of.Given as goal

-- the instructions so far have their plans
abbrev pub invariant-loop-instr : goal.invariant-loop-instr
invariant-loop-instr l = record {
  sound : AllByRecursion (λ i. IsSoundToken l.sig i.token) (map plain_instr (drop l.instr-index l.instrs));
  planned : ArePlanned l.sig (map plain_instr (take l.instr-index l.instrs)) l.plans;
}
