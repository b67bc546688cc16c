-- The nodes and the variables of a plan.
use Rattle.std.proofs.Common.{◌≡◌, ℕ, List, [], ◌∷◌, length, map, refl, ap, sym, ◌∙◌}
use Rattle.mp_term.specs.Signature.{Sig}
use Rattle.mp_pattern.specs.PatternTree.{Pattern}
use Rattle.mp_pattern.specs.Plan.{Plan, Variable, IsPlanOf}
use Rattle.mp_pattern.specs.Size.{pattern_nodes}
use Rattle.mp_pattern.specs.Variables.{variables, variable_form}
use Rattle.mp_pattern.proofs.NodeLaws.{plan-length}
use Rattle.mp_pattern.proofs.PlanLaws.{length-subpatterns}

module _ (sig : Sig) (p : Pattern) (plan : Plan) (h : IsPlanOf sig p plan) where
  -- its nodes are as many as those of its pattern
  pub plan-nodes : length plan.nodes ≡ pattern_nodes p
  plan-nodes =
      ap (λ (p : Plan). length p.nodes) h ∙ sym (plan-length (variables p) p) ∙ length-subpatterns p

  -- the names of its variables
  pub plan-names : map (λ (x : Variable). x.name) plan.variables ≡ variables p
  plan-names = ap (λ (p : Plan). map (λ (x : Variable). x.name) p.variables) h ∙ named (variables p)
    where
      named : (ys : List (List ℕ))
          → map (λ (x : Variable). x.name)
          (map {B = Variable} (λ y. record { name = y; form = variable_form sig p y }) ys) ≡ ys
      named [] = refl
      named (y ∷ ys) = ap (λ zs. y ∷ zs) (named ys)
