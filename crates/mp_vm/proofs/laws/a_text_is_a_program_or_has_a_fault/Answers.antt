use Rattle.mp_vm.proofs.TextDecisions.{program-or-fault}
use Rattle.mp_vm.proofs.laws.a_text_is_a_program_or_has_a_fault.Goals as goal

pub returns : goal.returns
returns c = λ sig bytes held. program-or-fault sig held bytes
