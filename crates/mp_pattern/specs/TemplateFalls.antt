-- The arguments of a template of a list have fewer nodes than the list.
use Rattle.std.specs.Prelude.{◌≤◌, max, List, [], ◌∷◌, map}
use Rattle.std.proofs.Common.{arith}
use denote.Param.Weighed.{most}
use Rattle.mp_pattern.specs.declared.template.Template.{Template}
use Rattle.mp_pattern.specs.declared.template.Template.TheVariants.{Sym, App, Var}
use Rattle.mp_pattern.specs.declared.template.Templates.TheDeep.{deep-Template}
use Rattle.mp_pattern.specs.TemplateView.{template_tree}
use Rattle.mp_pattern.specs.TemplateSize.{template_list_nodes}

-- what the templates of a list hold is no larger than the list
pub falls : (xs : List Template) → max (most deep-Template xs) 0 ≤ template_list_nodes (map template_tree xs)
falls [] = omega arith
falls (Sym n ∷ xs) = omega (arith, falls xs)
falls (App f ys ∷ xs) = omega (arith, falls xs)
falls (Var x ∷ xs) = omega (arith, falls xs)
