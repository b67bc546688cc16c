use Rattle.std.proofs.Common.{◌∙◌, ap, map}
use Rattle.std.specs.Prelude.{slice_set}
use Rattle.std.proofs.lemmas.List.{map-set}
use Rattle.mp_rewrite.specs.MarkView.{mark_of}
use Rattle.mp_rewrite.proofs.known.KnownArgs.take.Goals as goal

pub returns-clause-left : goal.returns-clause-left
returns-clause-left c =
    rw (← c.self.view_is)
    (map-set mark_of c.self.inside.items.items c.args.index c.replace.new.dest
    ∙ ap (λ k. slice_set (map mark_of c.self.inside.items.items) c.args.index (mark_of k)) c.replace.ensures.after)
