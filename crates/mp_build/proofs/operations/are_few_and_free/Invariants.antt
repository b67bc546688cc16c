use Rattle.std.proofs.Common.{◌≡◌, ℕ, ◌<◌, false}
use Rattle.mp_build.specs.Equations.{has_equation}
use Rattle.mp_build.proofs.operations.are_few_and_free.Given as goal

-- none of the operations so far has an equation
abbrev pub invariant-loop-number : goal.invariant-loop-number
invariant-loop-number l = (f : ℕ) → f < l.number → has_equation l.sig f ≡ false
