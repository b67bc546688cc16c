use Rattle.std.proofs.Common.{ap}
use Rattle.mp_term.specs.View.{tree}
use Rattle.mp_rewrite.proofs.PutBack.{opened}
use Rattle.mp_rewrite.proofs.in_place.open.Goals as goal

pub returns-clause-terms : goal.returns-clause-terms
returns-clause-terms c =
    opened c.args.sig.now c.args.op.0 (tree c.args.argument.term) _ c.in-App.terms (ap tree c.in-App.is)
    c.requires.opens
