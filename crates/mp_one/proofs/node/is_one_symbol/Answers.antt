use Rattle.std.proofs.Common.{arith}
use Rattle.mp_term.specs.Tree.{symbol}
use Rattle.mp_term.specs.View.{tree}
use Rattle.mp_search.proofs.ReadsLaws.{same_terms-other}
use Rattle.mp_one.proofs.node.is_one_symbol.Goals as goal

pub returns-in_default-2 : goal.returns-in_default-2
returns-in_default-2 c = same_terms-other (λ t. tree t.now) c.args.terms.now (symbol c.args.name.now)
    (λ e. omega (arith, c.in_default.len_at_least))
