use Rattle.std.proofs.Common.{◌∙◌, ap, map}
use Rattle.std.specs.Prelude.{slice_set}
use Rattle.std.proofs.lemmas.List.{map-set}
use Rattle.mp_term.specs.View.{tree}
use Rattle.mp_term.proofs.term.Terms.replace.Goals as goal

pub returns-clause-left : goal.returns-clause-left
returns-clause-left c =
    rw (← c.self.view_is)
    (map-set tree c.self.inside.items.items c.args.index c.replace.new.dest
    ∙ ap (λ k. slice_set (map tree c.self.inside.items.items) c.args.index (tree k)) c.replace.ensures.after)
