-- The words of devices, computed.
use Rattle.std.proofs.Common.{◌≡◌, refl, None, Some, [], ◌∷◌, ◌-◌, ◌^◌}
use Rattle.std.specs.Prelude.{codes}
use Rattle.mp_io.specs.Devices.{Files, held, saturating_add}

abbrev files : Files
files = (codes "t", codes "older") ∷ (codes "u", []) ∷ (codes "t", codes "abc") ∷ []

the_later_file_of_a_name_counts : held files (codes "t") ≡ Some (codes "abc")
the_later_file_of_a_name_counts = refl

an_empty_file_is_held : held files (codes "u") ≡ Some []
an_empty_file_is_held = refl

another_name_is_not_held : held files (codes "tt") ≡ None
another_name_is_not_held = refl

a_count_stops_at_its_greatest_number : saturating_add (2 ^ 64 - 1) 1 ≡ 2 ^ 64 - 1
a_count_stops_at_its_greatest_number = refl
