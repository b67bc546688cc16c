-- The shelf of real files, as its fields have it.
use Rattle.std.specs.Prelude.{Bool, true, false}
use Rattle.mp_io.specs.declared.real.Started.{Started}
use Rattle.mp_io.specs.declared.real.Started.TheVariants.{Nothing, Named, Standard}

-- a file or standard input is open
abbrev pub is_open : {F I : Type 0} → Started F I → Bool
is_open Nothing = false
is_open (Named file) = true
is_open (Standard input) = true
