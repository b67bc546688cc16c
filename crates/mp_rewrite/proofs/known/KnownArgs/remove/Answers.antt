use Rattle.std.proofs.Common.{◌∙◌, ap, map}
use Rattle.mp_rewrite.specs.MarkView.{mark_of}
use Rattle.mp_rewrite.proofs.Places.{map-remove}
use Rattle.mp_rewrite.proofs.known.KnownArgs.remove.Goals as goal

pub returns-clause-rest : goal.returns-clause-rest
returns-clause-rest c =
    rw (← c.self.view_is)
    (ap (map mark_of) c.remove.ensures.items ∙ map-remove mark_of c.self.inside.items.items c.args.index)
