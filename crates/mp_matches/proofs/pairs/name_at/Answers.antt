use Rattle.std.proofs.Common.{◌∙◌}
use Rattle.mp_matches.proofs.PairsLaws.{name-past, name-there}
use Rattle.mp_matches.proofs.pairs.name_at.Goals as goal

pub returns-in-None : goal.returns-in-None
returns-in-None c = name-past c.args.names.now c.args.number c.in-None.ensures.lookup.3

pub returns-in-Some : goal.returns-in-Some
returns-in-Some c = c.bytes.ensures.bytes
    ∙ name-there c.args.names.now c.args.number c.in-Some.name.now c.in-Some.ensures.lookup.3.0
    c.in-Some.ensures.lookup.1
