use Rattle.std.proofs.Common.{ap, arith}
use Rattle.mp_term.specs.Size.{all_nodes}
use Rattle.mp_term.specs.View.{tree}
use Rattle.mp_rewrite.proofs.CancellationSteps.{nodes-remove}
use Rattle.mp_rewrite.proofs.cancelled.take_out.Goals as goal

pub returns-clause-nodes : goal.returns-clause-nodes
returns-clause-nodes c = λ rest e.
    omega (
      arith,
      e,
      c.requires.few,
      c.node_count.ensures,
      c.saturating_sub.ensures,
      nodes-remove c.args.all.terms c.args.place (tree c.remove-old.result) c.remove-old.ensures.term,
      ap all_nodes c.remove-old.ensures.rest,
    )
