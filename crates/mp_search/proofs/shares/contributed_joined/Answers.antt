use Rattle.std.proofs.Common.{[], length, ap, sym, ◌∙◌}
use Rattle.std.specs.Option.{unwrap_or}
use Rattle.mp_search.specs.Frames.{above}
use Rattle.mp_search.proofs.Contributions.{contribution-joined}
use Rattle.mp_search.proofs.shares.contributed_joined.Goals as goal

pub returns-then-is_opened : goal.returns-then-is_opened
returns-then-is_opened c ts e = c.if_several.ensures ts e
    ∙ ap (λ o. length (unwrap_or o [])) (sym (contribution-joined c.args.query.now.sig.now (above c.args.under)
    c.args.op.0 ts (sym c.is_opened.ensures ∙ c.if-is_opened.true)))
