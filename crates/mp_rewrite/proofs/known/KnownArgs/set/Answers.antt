use Rattle.std.proofs.lemmas.List.{map-set}
use Rattle.mp_rewrite.specs.MarkView.{mark_of}
use Rattle.mp_rewrite.proofs.known.KnownArgs.set.Goals as goal

pub returns : goal.returns
returns c =
    rw (← c.self.view_is) (map-set mark_of c.self.inside.items.items c.args.index c.args.known)
