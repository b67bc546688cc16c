use Rattle.std.proofs.Common.{◌∙◌, ◌++◌, ◌∷◌, [], ap, sym, add-one}
use Rattle.std.specs.Prelude.{replicate}
use Rattle.mp_rewrite.specs.Marks.{unknown}
use Rattle.mp_rewrite.proofs.Places.{replicate-push}
use Rattle.mp_rewrite.proofs.known.KnownArgs.nothing.Goals as goal

pub loop-preserved : goal.loop-preserved
loop-preserved c =
    c.in_ok-push.ensures ∙ ap (λ ms. ms ++ unknown ∷ []) c.loop.invariant ∙ replicate-push c.loop.counter unknown
    ∙ ap (λ n. replicate n unknown) (sym (add-one c.loop.counter))
