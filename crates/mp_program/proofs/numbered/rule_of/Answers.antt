use Rattle.std.proofs.Common.{ℕ, Option, ap}
use Rattle.mp_program.specs.Program.{ProgramRule}
use Rattle.mp_program.proofs.numbered.rule_of.Goals as goal

pub returns-clause-rule : goal.returns-clause-rule
returns-clause-rule c =
    let with_test : Option ℕ → ProgramRule = λ t. record {
      name = c.args.line.name;
      vars = c.args.line.vars;
      test = t;
    } in
    ap with_test c.in_ok-test.ensures.number

pub returns-clause-tests : goal.returns-clause-tests
returns-clause-tests c = c.in_ok-test.ensures.tests

pub returns-clause-texts : goal.returns-clause-texts
returns-clause-texts c = c.in_ok-test.ensures.texts
