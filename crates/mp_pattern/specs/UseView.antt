-- The record that an occurrence of a variable is read as.
use Rattle.std.specs.Prelude.{option_map}
use Rattle.mp_pattern.specs.declared.outline.Occurrence.{Occurrence}
use Rattle.mp_pattern.specs.Variables.{Use}
use Rattle.mp_pattern.specs.View.{wildcard}

-- an occurrence with its wildcard and the number of the operation above
abbrev pub occurrence : Occurrence → Use
occurrence u = record { name = u.name.now; wildcard = wildcard u.shape.now; under = option_map (λ f. f.0) u.under }
