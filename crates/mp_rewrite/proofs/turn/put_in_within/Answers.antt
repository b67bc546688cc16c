use Rattle.std.proofs.Common.{[], refl, arith}
use Rattle.mp_term.specs.View.{tree}
use Rattle.mp_term.specs.Replaced.{replaced}
use Rattle.mp_rewrite.specs.Turn.{IsPutIn}
use Rattle.mp_rewrite.specs.Within.{IsWhole}
use Rattle.mp_rewrite.proofs.StepsInPlace.{of-err}
use Rattle.mp_rewrite.proofs.turn.put_in_within.Goals as goal
use Rattle.mp_rewrite.proofs.turn.put_in_within.Goals.{After-nodes_within}

-- the term is the whole
whole : (c : After-nodes_within)
    → IsWhole (tree c.args.into.term) [] c.args.position.now 0 (tree c.args.into.term) c.args.into.nodes
whole c = record {
  above = refl;
  there = refl;
  counted = c.requires.nodes;
  few = c.requires.few;
  shallow = c.requires.shallow;
}

pub returns-in_err-nodes-clause-put : goal.returns-in_err-nodes-clause-put
returns-in_err-nodes-clause-put c =
    let t = tree c.args.into.term in
    of-err (IsPutIn c.args.sig.now (replaced c.args.position.now (tree c.args.new) t)) _ _ c.from_residual.ensures.1
    (c.in_err-nodes.ensures t [] (whole (goal.at.returns-in_err-nodes-clause-put c).After-nodes_within))

pub returns-clause-put : goal.returns-clause-put
returns-clause-put c = (
  (c.in_ok-nodes.ensures (tree c.args.into.term) [] (whole (goal.at.returns-clause-put c).After-nodes_within)).0,
  c.in_ok-put_in.ensures.term,
)

pub returns-clause-nodes : goal.returns-clause-nodes
returns-clause-nodes c =
    let counted = c.in_ok-nodes.ensures (tree c.args.into.term) []
    (whole (goal.at.returns-clause-nodes c).After-nodes_within) in
    omega (arith, c.in_ok-put_in.ensures.nodes 0 (omega (arith, counted.1)))
