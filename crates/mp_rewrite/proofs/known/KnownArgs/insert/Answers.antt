use Rattle.std.proofs.Common.{◌∙◌, ap, map}
use Rattle.mp_rewrite.specs.MarkView.{mark_of}
use Rattle.mp_term.proofs.ListLaws.{map-insert}
use Rattle.mp_rewrite.proofs.known.KnownArgs.insert.Goals as goal

pub returns : goal.returns
returns c =
    rw (← c.self.view_is)
    (ap (map mark_of) c.in_ok-insert.ensures.items
    ∙ map-insert mark_of c.args.index c.self.inside.items.items c.args.known)
