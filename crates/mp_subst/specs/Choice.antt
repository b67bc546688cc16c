-- Which of two values is the common one.
use Rattle.std.specs.Prelude.{Option, Some, None}
use Rattle.mp_pattern.specs.Value as plain
use Rattle.mp_subst.specs.declared.merging.Choice.{Choice}
use Rattle.mp_subst.specs.declared.merging.Choice.TheVariants.{Old, New, Neither}

-- the value that is named, or none
abbrev pub chosen : plain.Value → plain.Value → Choice → Option plain.Value
chosen v w Old = Some v
chosen v w New = Some w
chosen v w Neither = None
