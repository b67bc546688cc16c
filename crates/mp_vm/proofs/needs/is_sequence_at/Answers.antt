use Rattle.std.proofs.Common.{length, false, refl, ap, sym, ◌∙◌}
use Rattle.std.specs.Prelude.{option_map}
use Rattle.std.specs.Option.{option_map_or}
use Rattle.std.proofs.lemmas.Option.{slice_get-map, slice_get_read, slice_get_past}
use Rattle.mp_pattern.specs.PatternTree.{is_sequence}
use Rattle.mp_vm.specs.Looks.{look_wildcard}
use Rattle.mp_vm.proofs.needs.is_sequence_at.Goals as goal

pub returns-in-Some : goal.returns-in-Some
returns-in-Some c =
    let looks = c.args.looks.now in
    let at = slice_get_read looks (length looks) c.args.place c.in-Some.look.now refl c.in-Some.ensures.lookup.3.0
    c.in-Some.ensures.lookup.1 in
    c.is_sequence.ensures
    ∙ sym (ap (λ o. option_map_or is_sequence o false)
    (slice_get-map look_wildcard looks c.args.place ∙ ap (option_map look_wildcard) at))

pub returns-in-None : goal.returns-in-None
returns-in-None c =
    let looks = c.args.looks.now in
    let at = slice_get_past looks c.args.place c.in-None.ensures.lookup.3 in
    sym (ap (λ o. option_map_or is_sequence o false)
    (slice_get-map look_wildcard looks c.args.place ∙ ap (option_map look_wildcard) at))
