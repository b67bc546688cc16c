use Rattle.std.proofs.Common.{refl}
use Rattle.std.proofs.lemmas.Option.{slice_get_read}
use Rattle.mp_net.proofs.WalkLaws.{state-below, state-other}
use Rattle.mp_net.proofs.visit.state_at.Goals as goal

pub returns-clause-below : goal.returns-clause-below
returns-clause-below c =
    state-below c.args.net.now c.requires.net c.args.state c.index.result.now
    (slice_get_read c.args.net.now.states.items _ c.args.state c.index.result.now refl c.requires.state c.index.ensures)

pub returns-clause-other : goal.returns-clause-other
returns-clause-other c =
    state-other c.args.net.now c.requires.net c.args.state c.index.result.now
    (slice_get_read c.args.net.now.states.items _ c.args.state c.index.result.now refl c.requires.state c.index.ensures)
