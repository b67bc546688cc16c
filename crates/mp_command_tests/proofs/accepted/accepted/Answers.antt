use Rattle.std.proofs.Common.{subst, sym}
use Rattle.mp_term.specs.Normal.{IsNormal}
use Rattle.mp_term.specs.View.{tree}
use Rattle.mp_program.specs.ProgramView.{program_view}
use Rattle.mp_vm.specs.ProgramList.{IsProgramTable}
use Rattle.mp_command_tests.proofs.accepted.accepted.Goals as goal

pub table-requires-clause-normal : goal.table-requires-clause-normal
table-requires-clause-normal c =
    subst (λ sig. IsNormal sig (tree c.args.subject.now.term)) (sym c.in_ok-runner.ensures.sig)
    c.requires.sound.term.normal

pub table-requires-clause-few : goal.table-requires-clause-few
table-requires-clause-few c = c.requires.sound.term.few_nodes

pub run_program-requires-clause-table : goal.run_program-requires-clause-table
run_program-requires-clause-table c =
    let runner = c.in_ok-runner.runner in
    let table = c.in_ok-table.table in
    subst (λ sig. IsProgramTable sig (program_view c.args.program.now) table) c.in_ok-runner.ensures.sig
    (subst (λ p. IsProgramTable runner.sig p table) c.in_ok-runner.ensures.program c.in_ok-table.ensures.table)
