use Rattle.std.proofs.Common.{◌≡◌, drop, map}
use Rattle.mp_parser.specs.View.{flag_of}
use Rattle.mp_build.specs.Flags.{sign_spot}
use Rattle.mp_build.proofs.flags.sign_spot.Given as goal

abbrev pub invariant-loop-flag : goal.invariant-loop-flag
invariant-loop-flag l = sign_spot (map flag_of (drop l.flag-index l.flags)) ≡ sign_spot (map flag_of l.flags)
