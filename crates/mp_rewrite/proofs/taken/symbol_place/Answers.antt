use Rattle.std.proofs.Common.{ap, sym, map, arith}
use Rattle.mp_term.specs.Order.{tree_cmp}
use Rattle.mp_term.specs.OrderLaws.{tree_same}
use Rattle.mp_term.specs.Tree.{symbol}
use Rattle.mp_term.specs.View.{tree}
use Rattle.mp_term.proofs.ListLaws.{drop-item}
use Rattle.mp_term.proofs.Sorting.{tally}
use Rattle.mp_rewrite.proofs.CancellationSteps.{hit-apart}
use Rattle.mp_rewrite.proofs.taken.symbol_place.Goals as goal

pub loop-index-preserved : goal.loop-index-preserved
loop-index-preserved c =
    let xs = c.args.args.now in
    let i = c.loop-index.index in
    let a = c.index-args-index.result in
    let x = symbol c.args.name.now in
    let split = drop-item xs i a c.loop-index-test.true c.index-args-index.is in
    omega (
      arith,
      ap (λ ys. tally tree_cmp x (map tree ys)) split,
      hit-apart x (tree a)
          (λ e. c.is_symbol.ensures.other c.if-is_symbol.false (sym (tree_same x (tree a) e))),
      c.loop-index.invariant,
    )
