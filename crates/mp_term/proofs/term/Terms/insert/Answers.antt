use Rattle.std.proofs.Common.{◌∙◌, ap, map}
use Rattle.std.specs.List.{insert}
use Rattle.mp_term.specs.View.{tree}
use Rattle.mp_term.proofs.ListLaws.{map-insert}
use Rattle.mp_term.proofs.term.Terms.insert.Goals as goal

pub returns-clause-ok : goal.returns-clause-ok
returns-clause-ok c =
    ap (map tree) c.in_ok-insert.ensures.items ∙ map-insert tree c.args.index c.self.inside.items.items c.args.term
    ∙ ap (λ ts. insert ts c.args.index (tree c.args.term)) c.self.view_is
