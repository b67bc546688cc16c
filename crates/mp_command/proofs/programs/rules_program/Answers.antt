use Rattle.std.proofs.Common.{◌≡◌, subst}
use Rattle.std.specs.Prelude.{IfOk}
use Rattle.mp_program.specs.ProgramView.{program_view}
use Rattle.mp_gen.specs.Generated.{generated}
use Rattle.mp_command.proofs.programs.rules_program.Goals as goal

pub returns-clause-program : goal.returns-clause-program
returns-clause-program c =
    let many = c.in_ok-many.many in
    let r = c.generate.result in
    subst (λ sig. IfOk r (λ p. program_view p ≡ generated sig c.args.rules.now)) c.in_ok-many.ensures.sig
    (subst (λ rules. IfOk r (λ p. program_view p ≡ generated many.sig rules)) c.in_ok-many.ensures.rules
    c.generate.ensures.program)
