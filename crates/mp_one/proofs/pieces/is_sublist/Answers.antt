use Rattle.std.proofs.Common.{◌∙◌}
use Rattle.mp_term.specs.View.{tree}
use Rattle.mp_term.specs.Order.{tree_cmp}
use Rattle.mp_one.proofs.PieceSteps.{is_sublist-end}
use Rattle.mp_one.proofs.pieces.is_sublist.Goals as goal

pub returns : goal.returns
returns c = is_sublist-end tree_cmp (λ t. tree t.now) c.loop-term.found c.args.terms.now c.loop-term.term-index
    c.args.list.now c.loop-term.invariant.within c.loop-term-test.false ∙ c.loop-term.invariant.rest
