-- What one rewriting step makes of a term, at a position, by a rule and a substitution.
use Rattle.std.specs.Prelude.{◌≡◌, ℕ, List, [], ◌∷◌, map, Option, Some, None}
use Rattle.std.specs.Option.{option_or}
use Rattle.mp_term.specs.declared.size.Excess.{Excess}
use Rattle.mp_term.specs.Tree.{Tree}
use Rattle.mp_term.specs.Excess.{excess}
use Rattle.mp_term.specs.Signature.{Sig}
use Rattle.mp_term.specs.Normal.{normal}
use Rattle.mp_term.specs.Edited.{edited, one_edit}
use Rattle.mp_pattern.specs.TemplateTree.{Template}
use Rattle.mp_pattern.specs.Value.{Subst}
use Rattle.mp_pattern.specs.Instance.{IsInstance}
use Rattle.mp_pattern.specs.Admission.{Rule}

-- what a step comes to: a term, or one that would be too large or too deep
pub data Stepped : Type 0 where
  stepped : Tree → Stepped
  exceeded : Excess → Stepped

module _ (sig : Sig) (t : Tree) (position : List ℕ) (spliced : Tree) where
  -- the term with the normal form of the spliced instance at the position, before it is normalised as a whole
  abbrev pub put_in : List Tree
  put_in = edited (one_edit position (normal sig spliced)) t

  -- the spliced instance is too large or too deep, or else the term with its normal form put in is
  abbrev pub step_excess : Option Excess
  step_excess = option_or (excess (spliced ∷ [])) (excess put_in)

  -- the step: refused by what is too large or too deep first, and else to the normal form of the whole
  abbrev pub IsStepTo : Stepped → Type 0
  IsStepTo (stepped u) = (step_excess ≡ None) × (map (normal sig) put_in ≡ u ∷ [])
  IsStepTo (exceeded e) = step_excess ≡ Some e

-- the step that the rule, which has a template, makes of t at the position with the substitution
pub record IsStepBy (sig : Sig) (t : Tree) (position : List ℕ) (r : Rule) (s : Subst) (result : Stepped) : Type 0 where
  pub template : Template
  pub has_template : r.template ≡ Some template
  pub spliced : Tree
  pub instance : IsInstance template s spliced
  pub step : IsStepTo sig t position spliced result
