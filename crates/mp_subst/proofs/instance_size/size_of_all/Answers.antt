use Rattle.std.proofs.Common.{◌∙◌, ap, sym, map, drop, ◌+◌, [], ◌∷◌, ◌++◌, append_assoc, arith}
use Rattle.mp_term.specs.View.{tree}
use Rattle.mp_term.proofs.ListLaws.{drop-item}
use Rattle.mp_subst.proofs.instance_size.size_of_all.Goals as goal

pub loop-term-preserved : goal.loop-term-preserved
loop-term-preserved c =
    let i = c.loop-term.term-index in
    let terms = c.args.terms.now in
    let front = c.loop-term.invariant.0 in
    let t = tree c.term-item.result in
    let rest = map tree (drop (i + 1) terms) in (
      front ++ t ∷ [],
      c.beside-all.ensures front (t ∷ []) c.loop-term.invariant.1 c.of_term.ensures,
      append_assoc front (t ∷ []) rest
          ∙ ap (λ us. front ++ map tree us) (sym (drop-item terms i c.term-item.result (omega arith) c.term-item.is))
          ∙ c.loop-term.invariant.2,
    )
