use Rattle.std.proofs.Common.{◌∙◌, [], sym}
use Rattle.std.proofs.lemmas.List.{get_or-map}
use Rattle.mp_term.specs.OrderLaws.{tree_same}
use Rattle.mp_term.specs.Tree.{symbol}
use Rattle.mp_term.specs.View.{tree}
use Rattle.mp_term.proofs.TestLaws.{equal-from}
use Rattle.mp_table.proofs.pieces.has_term.Goals as goal

pub returns-then-place-pieces-clause-term : goal.returns-then-place-pieces-clause-term
returns-then-place-pieces-clause-term c = λ e.
    get_or-map (λ p. tree p.term.now) c.args.pieces.now c.args.place _ (symbol []) c.if-place-pieces.true
    ∙ tree_same _ _ (sym c.compare.ensures ∙ equal-from _ (sym c.is_eq.ensures ∙ e))
