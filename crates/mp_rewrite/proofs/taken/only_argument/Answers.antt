use Rattle.std.proofs.Common.{ap, arith}
use Rattle.mp_term.specs.View.{tree}
use Rattle.mp_rewrite.proofs.CancellationSteps.{not-only-length, only-is}
use Rattle.mp_rewrite.proofs.taken.only_argument.Goals as goal

pub returns-then-len-ne1 : goal.returns-then-len-ne1
returns-then-len-ne1 c = not-only-length c.args.op.0 c.in-App.own.0 (tree c.args.term.now) c.in-App.args
    (ap tree c.in-App.is) (λ q. omega (arith, c.if-len-ne1.true, c.len.ensures, q))

pub returns : goal.returns
returns c = only-is c.args.op.0 c.in-App.own.0 (tree c.args.term.now) c.in-App.args c.get.result (ap tree c.in-App.is)
    c.if-own-op.false (omega (arith, c.if-len-ne1.false, c.len.ensures)) c.get.ensures
