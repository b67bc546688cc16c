use Rattle.std.proofs.Common.{sym, ap, ◌∙◌}
use Rattle.mp_pattern.specs.CondTree.{count, size}
use Rattle.mp_pattern.specs.CondView.{amount}
use Rattle.mp_program.specs.ProgramOf.{renamed_amount}
use Rattle.mp_program.proofs.renamed.renamed_amount.Goals as goal

pub returns-in_ok-renamed_operand-in-Count : goal.returns-in_ok-renamed_operand-in-Count
returns-in_ok-renamed_operand-in-Count c = ap count c.in_ok-renamed_operand-in-Count.ensures
    ∙ sym (ap (λ s. renamed_amount c.args.names.now (amount s)) c.in-Count.is)

pub returns-in_ok-renamed_operand-in-Size : goal.returns-in_ok-renamed_operand-in-Size
returns-in_ok-renamed_operand-in-Size c = ap size c.in_ok-renamed_operand-in-Size.ensures
    ∙ sym (ap (λ s. renamed_amount c.args.names.now (amount s)) c.in-Size.is)
