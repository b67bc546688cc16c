use Rattle.std.proofs.Common.{◌∙◌, ap, sym}
use Rattle.std.specs.Prelude.{position, bytes_eq}
use Rattle.mp_term.specs.Signature.{Sig, kind_names}
use Rattle.mp_term.proofs.signature.Signature.find_kind.Goals as goal

pub returns-in-None : goal.returns-in-None
returns-in-None c =
    let n = c.args.name.now in
    sym c.in-None.is ∙ c.index_of.ensures.index ∙ ap (position (bytes_eq n)) c.self.invariant.2
    ∙ ap (λ (s : Sig). position (bytes_eq n) (kind_names s)) c.self.view_is

pub returns-in-Some : goal.returns-in-Some
returns-in-Some c =
    let n = c.args.name.now in
    sym c.in-Some.is ∙ c.index_of.ensures.index ∙ ap (position (bytes_eq n)) c.self.invariant.2
    ∙ ap (λ (s : Sig). position (bytes_eq n) (kind_names s)) c.self.view_is
