use Rattle.std.proofs.Common.{◌<◌, ap, subst, arith, length}
use Rattle.mp_term.specs.Tree.{app, trees}
use Rattle.mp_rewrite.specs.Marks.{dead}
use Rattle.mp_rewrite.specs.MarkView.{mark_of}
use Rattle.mp_rewrite.specs.Known.{IsKnown}
use Rattle.mp_rewrite.proofs.MarkLaws.{AllKnown, known-length, known-get}
use Rattle.mp_rewrite.proofs.Apart.{some-then}
use Rattle.mp_rewrite.proofs.quiet.first_live.Goals as goal

pub returns-in-Inner-clause-within : goal.returns-in-Inner-clause-within
returns-in-Inner-clause-within c = λ sig rules f ts long known.
    let right : AllKnown sig rules c.in-Inner.all ts =
    subst (λ m. IsKnown sig rules m (app f (trees ts))) (ap mark_of c.in-Inner.is) known in
    some-then (λ i. i < length c.in-Inner.all) (λ i. i < c.args.count) c.first_live.result
    (λ i l. omega (arith, l, long, known-length sig rules c.in-Inner.all ts right)) c.first_live.ensures.within

pub returns-in-Inner-clause-dead : goal.returns-in-Inner-clause-dead
returns-in-Inner-clause-dead c =
    some-then _ _ c.first_live.result
    (λ i d sig rules f ts k u known l at. known-get sig rules c.in-Inner.all ts k dead u
    (subst (λ m. IsKnown sig rules m (app f (trees ts))) (ap mark_of c.in-Inner.is) known) (d k l) at)
    c.first_live.ensures.dead
