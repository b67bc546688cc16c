use Rattle.std.proofs.Common.{[]}
use Rattle.mp_term.specs.Order.{tree_cmp}
use Rattle.mp_term.specs.OrderLaws.{tree_cmp_total, tree_same}
use Rattle.mp_term.specs.Tree.{symbol}
use Rattle.mp_term.specs.View.{tree}
use Rattle.mp_table.proofs.Ascending.{found}
use Rattle.mp_table.proofs.pieces.rank_of.Goals as goal

pub returns-in-Ok-clause-term : goal.returns-in-Ok-clause-term
returns-in-Ok-clause-term c =
    let answer = found tree_cmp tree_cmp_total (λ p. tree p.term.now) tree_same
    c.args.pieces.now (tree c.args.term.now) c.binary_search.result c.requires.ascending c.requires.there
    c.binary_search.ensures.position in
    (rw c.in-Ok.is at answer) (symbol []) c.in-Ok.ensures.bound

pub returns-in-Err-clause-within : goal.returns-in-Err-clause-within
returns-in-Err-clause-within c =
    let answer = found tree_cmp tree_cmp_total (λ p. tree p.term.now) tree_same
    c.args.pieces.now (tree c.args.term.now) c.binary_search.result c.requires.ascending c.requires.there
    c.binary_search.ensures.position in
    absurd (rw c.in-Err.is at answer)

pub returns-in-Err-clause-term : goal.returns-in-Err-clause-term
returns-in-Err-clause-term c =
    let answer = found tree_cmp tree_cmp_total (λ p. tree p.term.now) tree_same
    c.args.pieces.now (tree c.args.term.now) c.binary_search.result c.requires.ascending c.requires.there
    c.binary_search.ensures.position in
    absurd (rw c.in-Err.is at answer)
