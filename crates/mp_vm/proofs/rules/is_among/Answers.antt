use Rattle.std.proofs.Common.{sym, ◌∙◌, arith}
use Rattle.mp_vm.proofs.NameChecks.{item-there, known-here, known-behind}
use Rattle.mp_vm.proofs.rules.is_among.Goals.{in-Some+else-eq, in_default}
use Rattle.mp_vm.proofs.rules.is_among.Goals as goal

pub returns-then-eq : goal.returns-then-eq
returns-then-eq c =
    sym (sym c.loop-index.invariant
    ∙ known-here c.args.names.now c.loop-index.index c.in-Some.other.now c.in-Some.ensures c.args.name.now
    (sym c.if-eq.ensures))

pub loop-index-preserved : goal.loop-index-preserved
loop-index-preserved c = elim c.match-get.branch [
  | in-Some+else-eq w ↦ known-behind c.args.names.now c.loop-index.index w.in-Some.other.now w.in-Some.ensures
      c.args.name.now (sym w.if-eq.ensures)
      ∙ c.loop-index.invariant
  | in_default w ↦ absurd (item-there c.args.names.now c.loop-index.index
      (omega (arith, c.loop-index-test.true, c.len-index-end.ensures)) w.in_default.ensures)
]
