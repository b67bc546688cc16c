use Rattle.std.proofs.Common.{◌≡◌, sym, subst}
use Rattle.mp_term.specs.Order.{tree_cmp}
use Rattle.mp_term.specs.Sorting.{sorted}
use Rattle.mp_ac.specs.Args as plain
use Rattle.mp_ac.proofs.BeginSearch.{ranks-ascend}
use Rattle.mp_ac.proofs.node.Node.new.Goals as goal

pub returns-clause-node : goal.returns-clause-node
returns-clause-node c = record {
  node = c.requires.node;
  ranks = c.args_of.ensures.ranks;
  ascending = ranks-ascend c.args.table.now c.len.ensures.valid (plain.args_of c.args_of.result) c.args_of.ensures.ranks
      (subst (λ ts. sorted tree_cmp ts ≡ ts) (sym c.args_of.ensures.terms) c.requires.order);
  terms = c.args_of.ensures.terms;
}
