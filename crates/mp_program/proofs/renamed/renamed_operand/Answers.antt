use Rattle.std.proofs.Common.{sym, ap, ◌∙◌}
use Rattle.mp_pattern.specs.CondTree.{var, ground}
use Rattle.mp_pattern.specs.CondView.{operand}
use Rattle.mp_program.specs.ProgramOf.{renamed_operand}
use Rattle.mp_program.proofs.renamed.renamed_operand.Goals as goal

pub returns-in_ok-renamed_variable-in-Var : goal.returns-in_ok-renamed_variable-in-Var
returns-in_ok-renamed_variable-in-Var c = ap var c.in_ok-renamed_variable-in-Var.ensures
    ∙ sym (ap (λ s. renamed_operand c.args.names.now (operand s)) c.in-Var.is)

pub returns-in_ok-copy_term-in-Ground : goal.returns-in_ok-copy_term-in-Ground
returns-in_ok-copy_term-in-Ground c = ap ground c.in_ok-copy_term-in-Ground.ensures
    ∙ sym (ap (λ s. renamed_operand c.args.names.now (operand s)) c.in-Ground.is)
