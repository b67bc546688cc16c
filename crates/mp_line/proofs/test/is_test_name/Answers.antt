use Rattle.std.proofs.Common.{arith}
use Rattle.mp_pattern.specs.declared.limits.TheConstants.{MAX_VARIABLES}
use Rattle.mp_line.proofs.TestLaws.{known-number, known-none}
use Rattle.mp_line.proofs.test.is_test_name.Goals as goal

pub returns-in-Some : goal.returns-in-Some
returns-in-Some c = known-number MAX_VARIABLES c.in-Some.number c.args.name.now (omega arith) c.in-Some.ensures.is

pub returns-in-None : goal.returns-in-None
returns-in-None c = known-none MAX_VARIABLES c.args.name.now (omega arith) c.in-None.ensures
