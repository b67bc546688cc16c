use Rattle.std.proofs.Common.{◌∙◌, [], ◌∷◌, ◌++◌, ap}
use Rattle.mp_many.specs.KeptTokens.{kept_tokens}
use Rattle.mp_many.specs.TokenView.{read_token}
use Rattle.mp_many.proofs.KeptLaws.{kept-next}
use Rattle.mp_many.proofs.tokens.Tokens.push.Goals as goal

pub returns : goal.returns
returns c =
    let old = c.self.inside.held.items in
    let new = c.keep.new.held.items in
    let more = c.keep.ensures.more in
    let t = read_token c.args.token in
    ap (kept_tokens new) c.in_ok-push.ensures.items
    ∙ kept-next old new more.0 c.self.inside.kept.items more.1 c.self.invariant c.in_ok-kept.kept t
    c.in_ok-kept.ensures.read
    ∙ ap (λ ts. ts ++ t ∷ []) c.self.view_is
