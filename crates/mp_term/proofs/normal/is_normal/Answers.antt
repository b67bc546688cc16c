use Rattle.mp_term.specs.View.{tree}
use Rattle.mp_term.proofs.NormalTestLaws.{passes_iff}
use Rattle.mp_term.proofs.normal.is_normal.Goals as goal

pub returns : goal.returns
returns c = rw c.passes.ensures (passes_iff c.args.sig.now (tree c.args.term.now))
