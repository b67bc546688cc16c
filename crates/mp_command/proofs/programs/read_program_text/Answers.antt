use Rattle.std.proofs.Common.{refl, sym}
use Rattle.mp_command.proofs.Acted.{only-fault}
use Rattle.mp_command.proofs.programs.read_program_text.Goals as goal

pub returns-in-Ok : goal.returns-in-Ok
returns-in-Ok c = record {
  is = c.in-Ok.ensures.found;
  only = λ q h. sym (c.in-Ok.ensures.only q h);
  faultless = λ f h. c.in-Ok.ensures.only_fault f h;
}

pub returns-in_default : goal.returns-in_default
returns-in_default c = (
  refl,
  only-fault c.args.sig.now c.args.text.bytes.now c.in-Err.fault c.in-Err.ensures.fault c.in-Err.ensures.only
      c.in-Err.ensures.only_fault c.in_default.not-Memory,
)
