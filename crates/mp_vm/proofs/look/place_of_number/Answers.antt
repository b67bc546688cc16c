use Rattle.std.proofs.Common.{sym, arith}
use Rattle.mp_vm.proofs.PlaceLaws.{place_of-number, place_of-beyond}
use Rattle.mp_vm.proofs.look.place_of_number.Goals as goal

pub returns-then-number-lt-MAX_VARIABLES-clause-place : goal.returns-then-number-lt-MAX_VARIABLES-clause-place
returns-then-number-lt-MAX_VARIABLES-clause-place c = sym (place_of-number c.args.number (omega arith))

pub returns-else-number-lt-MAX_VARIABLES-clause-place : goal.returns-else-number-lt-MAX_VARIABLES-clause-place
returns-else-number-lt-MAX_VARIABLES-clause-place c = sym (place_of-beyond c.args.number (omega arith) (omega arith))
