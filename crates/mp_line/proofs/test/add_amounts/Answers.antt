use Rattle.mp_pattern.specs.CondView.{amount}
use Rattle.mp_pattern.specs.Operands.{amount_operands}
use Rattle.mp_line.proofs.NamedLaws.{OnOk-also, names-more}
use Rattle.mp_line.proofs.test.add_amounts.Goals as goal

pub returns : goal.returns
returns c =
    OnOk-also c.add_amount-2.result _ _
    (names-more _ _ _ (amount_operands (amount c.args.left.now)) (amount_operands (amount c.args.right.now))
    c.in_ok-add_amount.ensures) c.add_amount-2.ensures
