use Rattle.std.proofs.Common.{map, length, false, refl, ap, sym, ◌∙◌}
use Rattle.std.specs.Prelude.{option_map}
use Rattle.std.specs.Option.{option_map_or}
use Rattle.std.proofs.lemmas.Option.{slice_get-map, slice_get_read, slice_get_past}
use Rattle.mp_vm.specs.Looks.{look_wildcard}
use Rattle.mp_vm.specs.RuleNeeds.{needs_view, meets_needs}
use Rattle.mp_vm.proofs.needs.is_rule_met.Goals as goal

pub returns-in-Some : goal.returns-in-Some
returns-in-Some c =
    let needs = c.args.needs.now in
    let at = slice_get_read needs (length needs) c.args.rule c.in-Some.own.now refl c.in-Some.ensures.lookup.3.0
    c.in-Some.ensures.lookup.1 in
    c.is_met.ensures
    ∙ sym (ap (λ o. option_map_or (meets_needs (map look_wildcard c.args.looks.now)) o false)
    (slice_get-map needs_view needs c.args.rule ∙ ap (option_map needs_view) at))

pub returns-in-None : goal.returns-in-None
returns-in-None c =
    let needs = c.args.needs.now in
    let at = slice_get_past needs c.args.rule c.in-None.ensures.lookup.3 in
    sym (ap (λ o. option_map_or (meets_needs (map look_wildcard c.args.looks.now)) o false)
    (slice_get-map needs_view needs c.args.rule ∙ ap (option_map needs_view) at))
