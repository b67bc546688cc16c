use Rattle.std.proofs.Common.{◌≡◌, ◌++◌, drop}
use Rattle.mp_subst.specs.Trail.{bindings_from, subst_in}
use Rattle.mp_subst.proofs.trail.Trail.to_subst.Given as goal

abbrev pub invariant-loop-var : goal.invariant-loop-var
invariant-loop-var l = l.bindings ++ bindings_from l.table l.self.stack l.var (drop l.var l.plan.variables)
    ≡ subst_in l.table l.plan.variables l.self
