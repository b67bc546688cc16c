use Rattle.std.proofs.Common.{◌≡◌, false, map, sym, ap, refl, ◌∙◌}
use Rattle.std.specs.Prelude.{not, bytes_eq}
use Rattle.std.specs.List.{list_any}
use Rattle.std.proofs.lemmas.Bool.{not-true}
use Rattle.mp_term.proofs.SignatureLaws.{map-insert_key, list_any-map}
use Rattle.mp_vm.proofs.rules.add_name.Goals as goal

pub returns-clause-new : goal.returns-clause-new
returns-clause-new c = c.in_ok-insert.ensures.added
    ∙ ap not (sym (list_any-map (bytes_eq c.args.name.now) (λ k. k.now) c.args.names.now.keys))

pub returns-clause-names : goal.returns-clause-names
returns-clause-names c = λ new.
    let n = c.args.name.now in
    let keys = c.args.names.now.keys in
    let absent : list_any (bytes_eq n) (map (λ k. k.now) keys) ≡ false =
    list_any-map (bytes_eq n) (λ k. k.now) keys ∙ not-true _ (sym c.in_ok-insert.ensures.added ∙ new) in
    map-insert_key (λ k. k.now) keys c.insert.new.self.keys c.args.name n refl absent c.in_ok-insert.ensures.keys
