use Rattle.std.proofs.Common.{not, sym, ap, ◌∙◌}
use Rattle.mp_build.specs.declared.fault.TextKind.TheVariants.{Arity}
use Rattle.mp_build.specs.Checks.{arity_faults}
use Rattle.mp_build.specs.ArgumentsView.{allows_arguments}
use Rattle.mp_build.proofs.Fails.{fails-along, fails-fault_if}
use Rattle.mp_build.proofs.arguments.sign_op.Goals as goal

pub returns-then-not-allows : goal.returns-then-not-allows
returns-then-not-allows c =
    let sig = c.args.sig.now in
    let passes = allows_arguments sig c.args.args in
    fails-along c.error_at.result _ _
    (ap (arity_faults passes c.args.place) (rw c.in-Some.is at c.find_sign_decl.ensures.decl))
    (fails-fault_if c.error_at.result (not (passes c.in-Some.decl.now)) Arity c.args.place c.error_at.ensures
    (ap not (sym (c.allows.ensures sig) ∙ c.if-not-allows.true)))
