use Rattle.std.proofs.Common.{sym, ◌∙◌, arith}
use Rattle.mp_vm.proofs.NameChecks.{item-there, distinct-again, distinct-behind}
use Rattle.mp_vm.proofs.rules.are_distinct.Goals.{in-Some+else-is_among, in_default}
use Rattle.mp_vm.proofs.rules.are_distinct.Goals as goal

pub returns-then-is_among : goal.returns-then-is_among
returns-then-is_among c =
    sym (sym c.loop-index.invariant
    ∙ distinct-again c.args.names.now c.loop-index.index c.in-Some.name.now c.in-Some.ensures
    (sym c.is_among.ensures ∙ c.if-is_among.true))

pub loop-index-preserved : goal.loop-index-preserved
loop-index-preserved c = elim c.match-get.branch [
  | in-Some+else-is_among w ↦ distinct-behind c.args.names.now c.loop-index.index w.in-Some.name.now w.in-Some.ensures
      (sym w.is_among.ensures ∙ w.if-is_among.false)
      ∙ c.loop-index.invariant
  | in_default w ↦ absurd (item-there c.args.names.now c.loop-index.index
      (omega (arith, c.loop-index-test.true, c.len-index-end.ensures)) w.in_default.ensures)
]
