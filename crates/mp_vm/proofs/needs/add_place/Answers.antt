use Rattle.std.proofs.Common.{◌∷◌, ◌++◌, [], ap, sym, ◌∙◌}
use Rattle.std.specs.Prelude.{nat_eq, if◌then◌else◌}
use Rattle.std.specs.List.{list_any}
use Rattle.mp_vm.proofs.NeedLaws.{known-any}
use Rattle.mp_vm.proofs.needs.add_place.Goals as goal

pub returns-in_ok-push : goal.returns-in_ok-push
returns-in_ok-push c =
    let places = c.args.places.now.items in
    let known = known-any places c.args.place
    ∙ sym (c.contains.ensures.value ∙ ap (list_any (λ y. nat_eq y c.args.place)) c.deref.ensures.value) in
    c.in_ok-push.ensures.items
    ∙ sym (ap (λ b. if b then places else places ++ c.args.place ∷ []) (known ∙ c.if-not-contains.true))

pub returns-else-not-contains : goal.returns-else-not-contains
returns-else-not-contains c =
    let places = c.args.places.now.items in
    let known = known-any places c.args.place
    ∙ sym (c.contains.ensures.value ∙ ap (list_any (λ y. nat_eq y c.args.place)) c.deref.ensures.value) in
    sym (ap (λ b. if b then places else places ++ c.args.place ∷ []) (known ∙ c.if-not-contains.false))
