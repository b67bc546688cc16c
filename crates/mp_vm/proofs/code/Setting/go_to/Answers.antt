use Rattle.std.proofs.Common.{[], reverse, ap}
use Rattle.mp_vm.proofs.TrailLaws.{trail-of}
use Rattle.mp_vm.proofs.code.Setting.go_to.Goals as goal

pub returns-clause-trail : goal.returns-clause-trail
returns-clause-trail c = λ h. trail-of c.args.self.now c.args.ways.now.ways.items c.start.new.self c.args.number []
    c.gather.new.known c.start.ensures.at (ap reverse c.start.ensures.steps) c.start.ensures.known
    c.in_ok-gather.ensures
