use Rattle.std.proofs.Common.{◌≡◌, ◌+◌, ◌≤◌, drop, min}
use Rattle.mp_build.specs.Names.{number_of, number_after}
use Rattle.mp_build.proofs.checks.number_of.Given as goal

abbrev pub invariant-loop-digit : goal.invariant-loop-digit
invariant-loop-digit l = record {
  small : l.number ≤ l.limit + 1;
  rest : min (number_after l.number (drop l.digit-index l.digits)) (l.limit + 1)
      ≡ min (number_of l.digits) (l.limit + 1);
}
