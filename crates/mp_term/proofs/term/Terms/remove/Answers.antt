use Rattle.std.proofs.Common.{◌∙◌, ap, map}
use Rattle.std.specs.List.{remove}
use Rattle.mp_term.specs.View.{tree}
use Rattle.mp_term.proofs.ListLaws.{map-remove}
use Rattle.mp_term.proofs.term.Terms.remove.Goals as goal

pub returns-clause-rest : goal.returns-clause-rest
returns-clause-rest c =
    ap (map tree) c.remove.ensures.items ∙ map-remove tree c.args.index c.self.inside.items.items
    ∙ ap (λ ts. remove ts c.args.index) c.self.view_is
