use Rattle.mp_rewrite.proofs.MarkLaws.{known-fresh}
use Rattle.mp_rewrite.proofs.known.known_args.Goals as goal

pub returns-in_ok-fresh-in-Inner-clause-known : goal.returns-in_ok-fresh-in-Inner-clause-known
returns-in_ok-fresh-in-Inner-clause-known c = λ sig rules f ts n k.
    known-fresh sig rules c.in_ok-fresh-in-Inner.fresh ts c.args.count c.in_ok-fresh-in-Inner.ensures n

pub returns-in_ok-fresh-in_default-clause-known : goal.returns-in_ok-fresh-in_default-clause-known
returns-in_ok-fresh-in_default-clause-known c = λ sig rules f ts n k.
    known-fresh sig rules c.in_ok-fresh-in_default.fresh ts c.args.count c.in_ok-fresh-in_default.ensures n
