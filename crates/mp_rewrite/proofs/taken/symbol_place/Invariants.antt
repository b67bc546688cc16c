use Rattle.std.proofs.Common.{◌≡◌, drop, map}
use Rattle.mp_term.specs.Order.{tree_cmp}
use Rattle.mp_term.specs.Tree.{symbol}
use Rattle.mp_term.specs.View.{tree}
use Rattle.mp_term.proofs.Sorting.{tally}
use Rattle.mp_rewrite.proofs.taken.symbol_place.Given as goal

-- none so far is the symbol
abbrev pub invariant-loop-index : goal.invariant-loop-index
invariant-loop-index l = tally tree_cmp (symbol l.name) (map tree (drop l.index l.args))
    ≡ tally tree_cmp (symbol l.name) (map tree l.args)
