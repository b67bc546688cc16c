-- Why rewriting ends without a term.
use Rattle.std.specs.Prelude.{ℕ}
use Rattle.mp_term.specs.declared.size.Excess.TheVariants as size
use Rattle.mp_subst.specs.declared.apply_fault.ApplyFault.{ApplyFault}
use Rattle.mp_subst.specs.declared.apply_fault.ApplyFault.TheVariants as apply
use Rattle.mp_rewrite.specs.declared.stop.Stop.{Stop}
use Rattle.mp_rewrite.specs.declared.stop.Stop.TheVariants.{Exceeded, Memory}
use Rattle.mp_rewrite.specs.declared.fault.RewriteFault.{RewriteFault}
use Rattle.mp_rewrite.specs.declared.fault.RewriteFault.TheVariants as fault

-- the fault of a step that isn't made, after so many steps
abbrev pub fault_after : Stop → ℕ → RewriteFault
fault_after (Exceeded (size.TooLarge nodes)) turns = fault.TooLarge nodes turns
fault_after (Exceeded (size.TooDeep depth)) turns = fault.TooDeep depth turns
fault_after Memory turns = fault.Memory

-- the stop of a step whose template isn't applied
abbrev pub stop_of : ApplyFault → Stop
stop_of (apply.TooLarge nodes) = Exceeded (size.TooLarge nodes)
stop_of (apply.TooDeep depth) = Exceeded (size.TooDeep depth)
stop_of apply.Memory = Memory
