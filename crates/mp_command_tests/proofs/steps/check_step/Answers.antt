use Rattle.mp_command_tests.proofs.steps.check_step.Goals as goal

pub step-requires-clause-term : goal.step-requires-clause-term
step-requires-clause-term g c =
    let subject = c.requires.subject in
    record {
      normal = subject.term.normal;
      formed = subject.term.formed;
      few_nodes = subject.term.few_nodes;
      shallow = subject.shallow;
    }
