use Rattle.std.proofs.Common.{subst, sym}
use Rattle.mp_vm.specs.ProgramList.{IsProgramTable}
use Rattle.mp_vm.proofs.runner.run_program.Goals as goal

pub pairs-requires : goal.pairs-requires
pairs-requires c =
    subst (λ s. IsProgramTable s c.in_ok-runner.runner.program c.args.table.now) (sym c.in_ok-runner.ensures.sig)
    (subst (λ p. IsProgramTable c.args.sig.now p c.args.table.now) (sym c.in_ok-runner.ensures.program)
    c.requires.table)
