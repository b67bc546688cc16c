use Rattle.std.proofs.Common.{subst}
use Rattle.std.specs.Prelude.{IfOk}
use Rattle.mp_term.specs.View.{tree}
use Rattle.mp_walk.proofs.ConstantLaws.{code_tables-built, subjects-built}
use Rattle.mp_vm.specs.ProgramList.{IsProgramTable}
use Rattle.mp_vm.proofs.runner.Runner.table.Goals as goal

pub returns-clause-table : goal.returns-clause-table
returns-clause-table c =
    let r = c.self.inside in
    subst (λ v. IfOk c.build.result (IsProgramTable v.sig v.program)) c.self.view_is
    (code_tables-built c.build.result (tree c.args.subject.now) r.constants c.build.ensures.table r.sig.now
    r.program.now.code c.self.invariant.constants c.build.ensures.normal c.requires.few)

pub returns-clause-subject : goal.returns-clause-subject
returns-clause-subject c =
    subjects-built c.build.result (tree c.args.subject.now) c.self.inside.constants c.build.ensures.table
