-- Why a template isn't applied.
use Rattle.std.specs.Prelude.{◌≡◌, [], ◌∷◌, Some}
use Rattle.mp_term.specs.declared.size.Excess.{Excess}
use Rattle.mp_term.specs.declared.size.Excess.TheVariants as size
use Rattle.mp_term.specs.Tree.{Tree}
use Rattle.mp_term.specs.Excess.{excess}
use Rattle.mp_pattern.specs.TemplateTree.{Template}
use Rattle.mp_pattern.specs.Value.{Subst}
use Rattle.mp_pattern.specs.Instance.{IsInstance}
use Rattle.mp_subst.specs.declared.apply_fault.ApplyFault.{ApplyFault}
use Rattle.mp_subst.specs.declared.apply_fault.ApplyFault.TheVariants.{TooLarge, TooDeep, Memory}

-- the fault that tells what is too large or too deep
abbrev pub fault_of : Excess → ApplyFault
fault_of (size.TooLarge nodes) = TooLarge nodes
fault_of (size.TooDeep depth) = TooDeep depth

-- each instance is too large or too deep by what the fault tells; memory may run out
abbrev pub IsExceeded : Template → Subst → ApplyFault → Type 0
IsExceeded x s (TooLarge nodes) = (t : Tree) → IsInstance x s t → excess (t ∷ []) ≡ Some (size.TooLarge nodes)
IsExceeded x s (TooDeep depth) = (t : Tree) → IsInstance x s t → excess (t ∷ []) ≡ Some (size.TooDeep depth)
IsExceeded x s Memory = Unit {0}
