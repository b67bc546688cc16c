use Rattle.std.proofs.Common.{sym, ◌∙◌, drop}
use Rattle.mp_term.specs.View.{tree}
use Rattle.mp_term.specs.Order.{tree_cmp}
use Rattle.mp_one.specs.Lists.{trees_of}
use Rattle.mp_one.proofs.PieceSteps.{without-end}
use Rattle.mp_one.proofs.pieces.without.Goals as goal

pub returns : goal.returns
returns c =
    sym (without-end tree_cmp (λ t. tree t.now) (trees_of c.loop-term.rest.items)
    (trees_of (drop c.loop-term.taken c.args.terms.now)) c.loop-term.term-index c.args.list.now c.loop-term-test.false)
    ∙ c.loop-term.invariant.rest
