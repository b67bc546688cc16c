use Rattle.std.proofs.Common.{◌∙◌, ◌++◌, ◌∷◌, [], ap, sym, add-one, append_assoc}
use Rattle.std.specs.Prelude.{replicate}
use Rattle.mp_term.specs.Tree.{symbol}
use Rattle.mp_rewrite.proofs.Places.{replicate-push}
use Rattle.mp_rewrite.proofs.run.with_symbols.Goals as goal

pub loop-preserved : goal.loop-preserved
loop-preserved c =
    let x = symbol c.args.name.now in
    let k = c.loop.counter in
    c.in_ok-push.ensures.ok ∙ ap (λ n. c.loop.all ++ symbol n ∷ []) c.in_ok-copy.ensures
    ∙ ap (λ ts. ts ++ x ∷ []) c.loop.invariant ∙ append_assoc c.args.terms (replicate k x) (x ∷ [])
    ∙ ap (λ ts. c.args.terms ++ ts) (replicate-push k x ∙ ap (λ n. replicate n x) (sym (add-one k)))
