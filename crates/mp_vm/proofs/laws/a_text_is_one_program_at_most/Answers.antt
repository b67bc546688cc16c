use Rattle.mp_vm.proofs.OneForm.{form-one, program-one, program-faultless, fault-one}
use Rattle.mp_vm.proofs.laws.a_text_is_one_program_at_most.Goals as goal

pub returns : goal.returns
returns c = record {
  form = λ sig bytes f g held. form-one sig held bytes f g;
  program = λ sig bytes p q held. program-one sig held bytes p q;
  faultless = λ sig bytes p e held. program-faultless sig held bytes p e;
  fault = λ sig bytes e f held. fault-one sig held bytes e f;
}
