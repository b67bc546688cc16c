use Rattle.std.proofs.Common.{◌≡◌}
use Rattle.std.specs.Prelude.{replicate}
use Rattle.mp_rewrite.specs.Marks.{unknown}
use Rattle.mp_rewrite.proofs.known.KnownArgs.nothing.Given as goal

abbrev pub invariant-loop : goal.invariant-loop
invariant-loop l = l.all ≡ replicate l.counter unknown
