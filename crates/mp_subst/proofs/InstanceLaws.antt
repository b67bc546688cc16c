-- What a template gives, where it has an instance, and what the fault of a large one tells.
use Rattle.std.proofs.Common.{◌≡◌, ◌∙◌, ap, sym, [], ◌∷◌, Some}
use Rattle.mp_term.specs.declared.size.Excess.{Excess}
use Rattle.mp_term.specs.declared.size.Excess.TheVariants.{TooLarge, TooDeep}
use Rattle.mp_term.specs.Tree.{Tree}
use Rattle.mp_term.specs.Excess.{excess}
use Rattle.mp_pattern.specs.TemplateTree.{Template, symbol_template, app_template, variable_template}
use Rattle.mp_pattern.specs.Value.{Subst}
use Rattle.mp_pattern.specs.Holds.{listed}
use Rattle.mp_pattern.specs.Instance.{instances, IsInstance}
use Rattle.mp_subst.specs.Applied.{fault_of, IsExceeded}

-- a template gives its instance alone
pub instances-IsInstance : (x : Template) (s : Subst) (t : Tree) → IsInstance x s t → instances s x ≡ t ∷ []
instances-IsInstance (symbol_template n) s t e = e
instances-IsInstance (app_template f xs) s t e = e
instances-IsInstance (variable_template x) s t e = ap listed e

-- where what it gives exceeds a size, the fault tells by how much its instance does
pub IsExceeded-fault_of : (x : Template) (s : Subst) (e : Excess) → excess (instances s x) ≡ Some e
    → IsExceeded x s (fault_of e)
IsExceeded-fault_of x s (TooLarge nodes) h = λ t i. ap excess (sym (instances-IsInstance x s t i)) ∙ h
IsExceeded-fault_of x s (TooDeep depth) h = λ t i. ap excess (sym (instances-IsInstance x s t i)) ∙ h
