use Rattle.std.specs.Prelude.{[], ◌∷◌}
use Rattle.mp_pattern.specs.CondView.{operand}
use Rattle.mp_line.proofs.NamedLaws.{OnOk-also, names-more}
use Rattle.mp_line.proofs.test.add_operands.Goals as goal

pub returns : goal.returns
returns c =
    OnOk-also c.add_operand-2.result _ _
    (names-more _ _ _ (operand c.args.left.now ∷ []) (operand c.args.right.now ∷ []) c.in_ok-add_operand.ensures)
    c.add_operand-2.ensures
