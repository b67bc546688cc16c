use Rattle.std.proofs.Common.{◌∙◌, ap, sym}
use Rattle.std.specs.Prelude.{position, bytes_eq}
use Rattle.mp_term.specs.Signature.{Sig, has_name}
use Rattle.mp_term.proofs.SignatureLaws.{position-map}
use Rattle.mp_term.proofs.signature.Signature.find_op.Goals as goal

pub returns-in-None : goal.returns-in-None
returns-in-None c =
    let n = c.args.name.now in
    sym c.in-None.is ∙ c.index_of.ensures.index ∙ ap (position (bytes_eq n)) c.self.invariant.1
    ∙ position-map (bytes_eq n) (λ d. d.name) c.self.inside.ops.items
    ∙ ap (λ (s : Sig). position (has_name n) s.ops) c.self.view_is

pub returns-in-Some : goal.returns-in-Some
returns-in-Some c =
    let n = c.args.name.now in
    sym c.in-Some.is ∙ c.index_of.ensures.index ∙ ap (position (bytes_eq n)) c.self.invariant.1
    ∙ position-map (bytes_eq n) (λ d. d.name) c.self.inside.ops.items
    ∙ ap (λ (s : Sig). position (has_name n) s.ops) c.self.view_is
