use Rattle.std.proofs.Common.{◌∙◌, ap, sym, arith, false}
use Rattle.std.specs.Prelude.{bytes_eq, option_map}
use Rattle.std.specs.Option.{option_map_or}
use Rattle.std.specs.List.{list_any}
use Rattle.mp_term.proofs.SignatureLaws.{in_kind-members}
use Rattle.mp_term.proofs.signature.Signature.kind_has.Goals as goal

pub returns-in-None : goal.returns-in-None
returns-in-None c =
    let n = c.args.symbol.now in
    sym (in_kind-members c.args.self.now c.args.id.0 n (omega arith)
    ∙ ap (λ o. option_map_or (list_any (bytes_eq n)) o false)
    (c.kind.ensures.members ∙ ap (option_map (λ k. k.now.members)) c.in-None.is))

pub returns-in-Some : goal.returns-in-Some
returns-in-Some c =
    let n = c.args.symbol.now in
    c.contains.ensures
    ∙ sym (in_kind-members c.args.self.now c.args.id.0 n (omega arith)
    ∙ ap (λ o. option_map_or (list_any (bytes_eq n)) o false)
    (c.kind.ensures.members ∙ ap (option_map (λ k. k.now.members)) c.in-Some.is))
