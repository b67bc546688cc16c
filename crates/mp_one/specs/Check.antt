-- The check of a take table from a place on.
use Rattle.std.specs.Prelude.{Bool, ◌&&◌, is_some}
use Rattle.mp_term.specs.Signature.{Sig}
use Rattle.mp_pattern.specs.Value.{Subst}
use Rattle.mp_pattern.specs.Fits.{Table}
use Rattle.mp_theory.specs.Frames.{Next}
use Rattle.mp_theory.specs.Machine.{takes}
use Rattle.mp_theory.specs.Solve.{solve}
use Rattle.mp_theory.specs.Trail.{has_shape}

-- the rest of a table has the shape of what comes, and its takes are solved over the substitution so far
abbrev pub goes_on : Sig → Next → Subst → Table → Bool
goes_on sig n s T = has_shape sig n T && is_some (solve sig s (takes n T))
