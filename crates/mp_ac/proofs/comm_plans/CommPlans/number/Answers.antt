use Rattle.std.proofs.Common.{[], sym}
use Rattle.std.proofs.lemmas.List.{append-nil}
use Rattle.mp_ac.proofs.comm_plans.CommPlans.number.Goals as goal

pub returns-in-Ok-clause-children : goal.returns-in-Ok-clause-children
returns-in-Ok-clause-children c = ([], sym (append-nil c.args.self.now.children.items))
