use Rattle.std.proofs.Common.{◌∙◌, ◌+◌, ap, sym, drop}
use Rattle.std.specs.Prelude.{option_map, option_and_then}
use Rattle.mp_term.specs.View.{tree}
use Rattle.mp_term.specs.Positions.{subterm}
use Rattle.mp_term.proofs.PositionLaws.{subterm-symbol, subterm-app}
use Rattle.mp_term.proofs.term.at.Goals as goal

pub returns-in-Sym : goal.returns-in-Sym
returns-in-Sym c =
    sym (subterm-symbol c.in-Sym.field-0 c.args.position.now c.loop-index.index-index c.loop-index-test.true)
    ∙ ap (λ t. subterm (tree t) (drop c.loop-index.index-index c.args.position.now)) (sym c.in-Sym.is)
    ∙ c.loop-index.invariant

pub returns-in-None : goal.returns-in-None
returns-in-None c =
    let rest = drop (c.loop-index.index-index + 1) c.args.position.now in
    ap (option_and_then (λ t. subterm t rest)) (sym (c.get.ensures ∙ ap (option_map (λ t. tree t.now)) c.in-None.is))
    ∙ sym (subterm-app c.in-App.field-0.0 c.in-App.args c.args.position.now c.loop-index.index-index
    c.loop-index-test.true)
    ∙ ap (λ t. subterm (tree t) (drop c.loop-index.index-index c.args.position.now)) (sym c.in-App.is)
    ∙ c.loop-index.invariant

pub loop-index-preserved : goal.loop-index-preserved
loop-index-preserved c =
    let rest = drop (c.loop-index.index-index + 1) c.args.position.now in
    ap (option_and_then (λ t. subterm t rest)) (sym (c.get.ensures ∙ ap (option_map (λ t. tree t.now)) c.in-Some.is))
    ∙ sym (subterm-app c.in-App.field-0.0 c.in-App.args c.args.position.now c.loop-index.index-index
    c.loop-index-test.true)
    ∙ ap (λ t. subterm (tree t) (drop c.loop-index.index-index c.args.position.now)) (sym c.in-App.is)
    ∙ c.loop-index.invariant
