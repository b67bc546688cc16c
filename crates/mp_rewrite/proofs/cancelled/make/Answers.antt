use Rattle.std.proofs.Common.{◌∙◌, ap}
use Rattle.mp_term.specs.Size.{node_count}
use Rattle.mp_term.specs.View.{tree}
use Rattle.mp_rewrite.proofs.CancellationTurns.{within-terms, left-ascends, made-none, made-some}
use Rattle.mp_rewrite.proofs.cancelled.make.Goals as goal

pub leave-left-requires-clause-within : goal.leave-left-requires-clause-within
leave-left-requires-clause-within c =
    within-terms c.args.sig.now c.requires.cancelled.0 (tree c.args.here.term) c.args.cancelled.now
    c.requires.cancelled.1
    c.in-App.op.0 c.in-App.terms (ap tree c.in-App.is)

pub returns-in-None-clause-term : goal.returns-in-None-clause-term
returns-in-None-clause-term c = λ ts e.
    made-none c.args.sig.now c.requires.cancelled.0 (tree c.args.here.term) c.args.cancelled.now c.requires.cancelled.1
    c.in-App.op.0 c.in-App.terms c.leave-left.result.terms (tree c.whole.result.term) c.requires.normal
    (ap tree c.in-App.is) c.leave-left.ensures.terms c.in-None.is c.whole.ensures.term ts e

pub returns-in-None-clause-nodes : goal.returns-in-None-clause-nodes
returns-in-None-clause-nodes c = λ e.
    c.whole.ensures.nodes (c.leave-left.ensures.nodes 1 (e ∙ ap (λ t. node_count (tree t)) c.in-App.is))

pub put-requires-clause-ascending : goal.put-requires-clause-ascending
put-requires-clause-ascending c =
    left-ascends c.args.sig.now c.requires.cancelled.0 (tree c.args.here.term) c.args.cancelled.now
    c.requires.cancelled.1
    c.in-App.op.0 c.in-App.terms c.leave-left.result.terms c.requires.normal (ap tree c.in-App.is)
    c.leave-left.ensures.terms

pub returns-clause-term : goal.returns-clause-term
returns-clause-term c = λ ts e.
    made-some c.args.sig.now c.requires.cancelled.0 (tree c.args.here.term) c.args.cancelled.now c.requires.cancelled.1
    c.in-App.op.0 c.in-App.terms c.leave-left.result.terms c.in_ok-all-in-Some.all.terms
    (tree c.whole-in-Some.result.term) c.in-Some.name (ap tree c.in-App.is) c.leave-left.ensures.terms c.in-Some.is
    c.in_ok-all-in-Some.ensures.terms c.whole-in-Some.ensures.term ts e

pub returns-clause-nodes : goal.returns-clause-nodes
returns-clause-nodes c = λ e.
    c.whole-in-Some.ensures.nodes (c.in_ok-all-in-Some.ensures.nodes 1
    (c.leave-left.ensures.nodes 1 (e ∙ ap (λ t. node_count (tree t)) c.in-App.is)))
